use Rattle.std.proofs.Common.{◌≡◌, ◌≤◌, [], ◌∷◌, map, ap, sym, ◌∙◌, subst, arith}
use Rattle.std.specs.Prelude.{ℤ, nat_abs, Result}
use Rattle.std.specs.Int.{w128, cast_signed, cast_unsigned}
use Rattle.std.proofs.lemmas.Int.{to_z-of_z, fits_signed_from_abs}
use Rattle.model.specs.Limits.{coefficient_limit}
use Rattle.model.specs.Polynomials.{Polynomial}
use Rattle.poly_terms.specs.declared.poly.Poly.{Poly}
use Rattle.poly_terms.specs.declared.poly_error.PolyError.{PolyError}
use Rattle.poly_terms.specs.Expanding.{product_of}
use Rattle.poly_terms.specs.Faults.{fault_in}
use Rattle.poly_terms.specs.Ordered.{IsBounded, IsOrdered, IsSmall}
use Rattle.poly_terms.specs.Scaling.{times, constant}
use Rattle.poly_terms.specs.Views.{poly_of}
use Rattle.poly_terms.specs.Answers.{Answers}
use Rattle.poly_terms.proofs.ScaleLaws.{times-right, times-left}
use Rattle.poly_terms.proofs.product.limited_product.Goals as goal

-- the constant of a small polynomial is small
small_constant : (p : Polynomial) (z : ℤ) → p ≡ constant z ∷ [] → IsSmall p → nat_abs z ≤ coefficient_limit
small_constant p z e h = (subst (IsBounded coefficient_limit) e h.coefficients).0

-- casting a small integer doesn't change it
cast_small : (z : ℤ) → nat_abs z ≤ coefficient_limit → cast_signed w128 (cast_unsigned w128 z) ≡ z
cast_small z h = to_z-of_z w128 z (fits_signed_from_abs w128 z (omega (arith, h)))

-- the result for a product with a constant on the right, and for one with a constant on the left
right_answer : (r : Result Poly PolyError) (p q s : Polynomial) (z : ℤ) → q ≡ constant z ∷ [] → IsSmall q → IsOrdered p → IsOrdered q
    → s ≡ map (times (cast_signed w128 (cast_unsigned w128 z))) p → Answers r (fault_in s 1) s → Answers r (fault_in (product_of p q) 1) (product_of p q)
right_answer r p q s z e h k l f a =
    subst (λ (t : Polynomial). Answers r (fault_in t 1) t)
    (f ∙ (ap (λ (y : ℤ). map (times y) p) (cast_small z (small_constant q z e h)) ∙ sym (times-right z p q e k l))) a

left_answer : (r : Result Poly PolyError) (p q s : Polynomial) (z : ℤ) → p ≡ constant z ∷ [] → IsSmall p → IsOrdered p → IsOrdered q
    → s ≡ map (times (cast_signed w128 (cast_unsigned w128 z))) q → Answers r (fault_in s 1) s → Answers r (fault_in (product_of p q) 1) (product_of p q)
left_answer r p q s z e h k l f a =
    subst (λ (t : Polynomial). Answers r (fault_in t 1) t)
    (f ∙ (ap (λ (y : ℤ). map (times y) q) (cast_small z (small_constant p z e h)) ∙ sym (times-left z p q e k l))) a

pub scaled-requires-clause-small : goal.scaled-requires-clause-small
scaled-requires-clause-small c =
    let h = small_constant (poly_of c.args.q) c.in-Some.factor c.in-Some.ensures c.requires.right in
    subst (λ (z : ℤ). nat_abs z ≤ coefficient_limit) (sym (cast_small c.in-Some.factor h)) h

pub returns-in-Some : goal.returns-in-Some
returns-in-Some c =
    right_answer c.limited.result (poly_of c.args.p) (poly_of c.args.q) (poly_of c.scaled.result) c.in-Some.factor c.in-Some.ensures
    c.requires.right c.requires.left_ordered c.requires.right_ordered c.scaled.ensures c.limited.ensures

pub scaled-requires-in-Some-constant_of-clause-small : goal.scaled-requires-in-Some-constant_of-clause-small
scaled-requires-in-Some-constant_of-clause-small c =
    let h = small_constant (poly_of c.args.p) c.in-Some-constant_of.factor c.in-Some-constant_of.ensures c.requires.left in
    subst (λ (z : ℤ). nat_abs z ≤ coefficient_limit) (sym (cast_small c.in-Some-constant_of.factor h)) h

pub returns-in-Some-constant_of : goal.returns-in-Some-constant_of
returns-in-Some-constant_of c =
    left_answer c.limited-in-Some-constant_of.result (poly_of c.args.p) (poly_of c.args.q) (poly_of c.scaled-in-Some-constant_of.result)
    c.in-Some-constant_of.factor c.in-Some-constant_of.ensures
    c.requires.left c.requires.left_ordered c.requires.right_ordered c.scaled-in-Some-constant_of.ensures c.limited-in-Some-constant_of.ensures
