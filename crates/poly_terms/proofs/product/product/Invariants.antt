use Rattle.std.proofs.Common.{◌≡◌, ◌*◌, drop, []}
use Rattle.poly_terms.specs.Expanding.{all_added, products}
use Rattle.poly_terms.specs.Views.{monomials_of}
use Rattle.poly_terms.specs.Wide.{entries_of, AreWithin}
use Rattle.poly_terms.proofs.product.product.Given as goal

-- adding the remaining rows gives the whole, and each row so far counts 64
abbrev pub invariant-loop-m : goal.invariant-loop-m
invariant-loop-m l = record {
  sums : all_added (entries_of l.sums.entries) (products (monomials_of (drop l.m-index l.p.terms.items)) (monomials_of l.q.terms.items))
      ≡ all_added [] (products (monomials_of l.p.terms.items) (monomials_of l.q.terms.items));
  within : AreWithin (64 * l.m-index) l.sums.entries;
}
