use Rattle.std.proofs.Common.{◌≡◌, ◌*◌, take}
use Rattle.its_model.specs.Views.{program_of}
use Rattle.cert_types.specs.cert_program.RankedSets.{forms_at}
use Rattle.gap_checks.specs.Touches.{touches_from}
use Rattle.gap_checks.proofs.touching.put_touches.Given as goal

-- the touches of the rules so far are written
abbrev pub invariant-loop-position : goal.invariant-loop-position
invariant-loop-position l =
    take (2 * l.position) l.touches ≡ touches_from (forms_at (program_of l.p)) l.set 0 l.position
