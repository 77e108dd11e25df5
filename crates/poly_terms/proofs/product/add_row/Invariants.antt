use Rattle.std.proofs.Common.{◌≡◌, ℕ, ◌+◌, drop, map}
use Rattle.poly_terms.specs.Expanding.{all_added, multiplied}
use Rattle.poly_terms.specs.Views.{monomial_of, monomials_of}
use Rattle.poly_terms.specs.Wide.{entries_of, AreWithin}
use Rattle.poly_terms.proofs.product.add_row.Given as goal

-- adding the remaining products gives the whole, and each product so far counts one
abbrev pub invariant-loop-n : goal.invariant-loop-n
invariant-loop-n l = record {
  sums : all_added (entries_of l.sums.entries) (map (multiplied (monomial_of l.m)) (monomials_of (drop l.n-index l.terms)))
      ≡ all_added (entries_of l.initial.sums.entries) (map (multiplied (monomial_of l.m)) (monomials_of l.terms));
  within : (k : ℕ) → AreWithin k l.initial.sums.entries → AreWithin (k + l.n-index) l.sums.entries;
}
