use Rattle.std.proofs.Common.{◌≡◌, drop}
use Rattle.signed_within.specs.Tests.{lists_match}
use Rattle.signed_within.specs.Views.{signed_at}
use Rattle.signed_within.proofs.matching.factors_match.Given as goal

-- whether the lists match depends on the factors left
abbrev pub invariant-loop-i : goal.invariant-loop-i
invariant-loop-i l =
    lists_match l.test (signed_at (drop l.i l.factors)) (signed_at l.left.items)
    ≡ lists_match l.test (signed_at l.factors) (signed_at l.others)
