use Rattle.std.proofs.Common.{◌≡◌, [], take, drop}
use Rattle.signed_bounds.specs.Safe.{expands_to_squares}
use Rattle.signed_bounds.specs.Within as comparison
use Rattle.signed_within.specs.Views.{products_at}
use Rattle.signed_within.proofs.within.is_covered_by_quotient.Given as goal

-- whether some quotient suffices depends on the products left
abbrev pub invariant-loop-i : goal.invariant-loop-i
invariant-loop-i l =
    comparison.is_covered_by_quotient expands_to_squares l.den (products_at l.ps) (products_at (take l.i l.qs))
    (products_at (drop l.i l.qs))
    ≡ comparison.is_covered_by_quotient expands_to_squares l.den (products_at l.ps) [] (products_at l.qs)
