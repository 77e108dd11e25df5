use Rattle.std.proofs.Common.{◌≡◌}
use Rattle.its_model.specs.Views.{program_of}
use Rattle.location_facts.specs.Faults.{AreRight, least_number, proofs_of}
use Rattle.location_facts.proofs.faults.first_wrong.Given as goal

-- the facts so far are right, and the next one must have at least this number
abbrev pub invariant-loop-i : goal.invariant-loop-i
invariant-loop-i l = record {
  right : AreRight (program_of l.p) l.f.kept.items (proofs_of l.f) l.i;
  next : l.least ≡ least_number l.f.kept.items l.i;
}
