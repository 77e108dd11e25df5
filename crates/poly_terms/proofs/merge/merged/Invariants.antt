use Rattle.std.proofs.Common.{◌≡◌, ◌+◌, ◌++◌, length}
use Rattle.poly_terms.specs.Expanding.{all_added, without_zeros, sum_of}
use Rattle.poly_terms.specs.Merging.{CanMerge}
use Rattle.poly_terms.specs.Views.{monomials_of, poly_of}
use Rattle.poly_terms.proofs.merge.merged.Given as goal

-- the monomials so far and the sum of the remaining ones make up the whole
abbrev pub invariant-loop-m : goal.invariant-loop-m
invariant-loop-m l = record {
  whole : monomials_of l.terms.items ++ without_zeros (all_added (monomials_of l.left.items) (monomials_of l.right.items))
      ≡ sum_of (poly_of l.fn.p) (poly_of l.fn.q);
  ready : CanMerge (monomials_of l.left.items) (monomials_of l.right.items);
}

abbrev pub decreases-loop-m : goal.decreases-loop-m
decreases-loop-m l = length l.left.items + length l.right.items
