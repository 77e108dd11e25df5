use Rattle.std.proofs.Common.{◌≡◌, take, drop}
use Rattle.signed_bounds.specs.Views.{signed_of}
use Rattle.signed_bounds.specs.Covers.{without_first}
use Rattle.signed_within.specs.Tests as tests
use Rattle.signed_within.specs.Views.{signed_at}
use Rattle.signed_within.proofs.Positions.{behind}
use Rattle.signed_within.proofs.matching.first_taken.Given as goal

-- no factor that was passed may be taken
abbrev pub invariant-loop-i : goal.invariant-loop-i
invariant-loop-i l =
    behind (take l.i (signed_at l.others))
    (without_first (tests.takes l.test (signed_of l.factor)) (drop l.i (signed_at l.others)))
    ≡ without_first (tests.takes l.test (signed_of l.factor)) (signed_at l.others)
