use Rattle.std.proofs.Common.{◌≡◌, ◌++◌, length, take, drop}
use Rattle.signed_bounds.specs.Covers.{missing_times, used_up}
use Rattle.signed_within.specs.Tests.{lists_match}
use Rattle.signed_within.specs.Views.{signed_at, counted}
use Rattle.signed_within.proofs.covering.use_up.Given as goal

-- taking what is missing from the products left is taking all from all
abbrev pub invariant-loop-i : goal.invariant-loop-i
invariant-loop-i l = record {
  lacking : missing_times (lists_match l.test) l.missing (signed_at l.p.factors.items)
      (counted (drop l.i l.qs) (drop l.i l.left))
      ≡ missing_times (lists_match l.test) l.n (signed_at l.p.factors.items) (counted l.qs l.left);
  taken : counted (take l.i l.qs) l.rest.items ++ used_up (lists_match l.test) l.missing (signed_at l.p.factors.items)
      (counted (drop l.i l.qs) (drop l.i l.left))
      ≡ used_up (lists_match l.test) l.n (signed_at l.p.factors.items) (counted l.qs l.left);
  size : length l.rest.items ≡ l.i;
}
