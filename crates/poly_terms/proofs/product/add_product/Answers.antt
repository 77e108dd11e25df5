use Rattle.std.proofs.Common.{◌≡◌, ◌≤◌, ap, sym, ◌∙◌, arith, subst}
use Rattle.std.specs.Prelude.{ℤ, nat_abs, ◌+ℤ◌, ◌*ℤ◌, FitsSigned}
use Rattle.std.specs.Int.{w128, cast_signed, cast_unsigned}
use Rattle.std.specs.BTreeMap.{is_at}
use Rattle.std.specs.Map.{lookup}
use Rattle.std.proofs.lemmas.Int.{to_z-of_z, fits_signed_from_abs}
use Rattle.poly_terms.specs.Expanding.{all_inserted}
use Rattle.model.specs.Limits.{coefficient_limit}
use Rattle.poly_terms.specs.Wide.{sum_at, key_order, entries_of, AreWithin}
use Rattle.poly_terms.proofs.EntryLaws.{entries-insert, within-insert, ascending-entries}
use Rattle.poly_terms.proofs.product.add_product.Goals as goal

-- casting coefficients doesn't change them
coefficient_fits : (x : ℤ) → nat_abs x ≤ coefficient_limit → FitsSigned w128 x
coefficient_fits x h = fits_signed_from_abs w128 x (omega (arith, h))

cast_product : (x y : ℤ) → nat_abs x ≤ coefficient_limit → nat_abs y ≤ coefficient_limit
    → cast_signed w128 (cast_unsigned w128 x) *ℤ cast_signed w128 (cast_unsigned w128 y) ≡ x *ℤ y
cast_product x y h k = λ i. to_z-of_z w128 x (coefficient_fits x h) i *ℤ to_z-of_z w128 y (coefficient_fits y k) i

pub returns-clause-sums : goal.returns-clause-sums
returns-clause-sums c =
    ap entries_of c.in_ok-insert.ensures.entries
    ∙ entries-insert c.in_ok-vars.vars c.sum_with-sum.result _ c.args.sums.now.entries
    (ascending-entries c.args.sums.now.entries c.in_ok-insert.ensures.was_ordered)
    (c.in_ok-vars.ensures ∙ (λ i. all_inserted (c.deref.ensures.value i) (c.deref-2.ensures.value i)))
    (c.sum_with-sum.ensures.value
    ∙ ap (λ (z : ℤ). sum_at (lookup (is_at (key_order c.in_ok-vars.vars)) c.args.sums.now.entries) +ℤ z)
    (c.wide_product.ensures.value ∙ cast_product c.args.m.now.coef c.args.n.now.coef c.requires.left c.requires.right))

pub returns-clause-within : goal.returns-clause-within
returns-clause-within c = λ k a. subst (AreWithin _) (sym c.in_ok-insert.ensures.entries)
    (within-insert k c.in_ok-vars.vars c.sum_with-sum.result c.args.sums.now.entries (c.sum_with-sum.ensures.within k a) a)
