use Rattle.std.proofs.Common.{◌≡◌, ◌++◌, ◌^◌, false, length}
use Rattle.poly_terms.specs.Expanding.{without_zeros}
use Rattle.poly_terms.specs.Faults.{has_large}
use Rattle.poly_terms.specs.Views.{monomials_of}
use Rattle.poly_terms.specs.Wide.{entries_of, AreWithin}
use Rattle.poly_terms.proofs.product.collected.Given as goal

-- the monomials so far and the remaining ones make up the whole, and no coefficient so far is too large
abbrev pub invariant-loop-vars : goal.invariant-loop-vars
invariant-loop-vars l = record {
  whole : monomials_of l.terms.items ++ without_zeros (entries_of l.sums.entries) ≡ without_zeros (entries_of l.fn.sums.entries);
  small : has_large (monomials_of l.terms.items) ≡ false;
  within : AreWithin (2 ^ 32) l.sums.entries;
}

abbrev pub decreases-loop-vars : goal.decreases-loop-vars
decreases-loop-vars l = length l.sums.entries
