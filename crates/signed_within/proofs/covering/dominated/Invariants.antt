use Rattle.std.proofs.Common.{◌≡◌, length, drop}
use Rattle.signed_bounds.specs.Safe.{expands_to_squares}
use Rattle.signed_bounds.specs.Covers as covers
use Rattle.signed_within.specs.Views.{counted}
use Rattle.signed_within.proofs.covering.dominated.Given as goal

-- whether the products are dominated depends on those left
abbrev pub invariant-loop-i : goal.invariant-loop-i
invariant-loop-i l = record {
  decided : covers.dominated expands_to_squares (counted (drop l.i l.ps) (drop l.i l.missing)) (counted l.qs l.rest.items)
      ≡ covers.dominated expands_to_squares (counted l.ps l.missing) (counted l.qs l.initial.rest.items);
  size : length l.rest.items ≡ length l.qs;
}
