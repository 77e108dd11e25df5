-- An affine expression that agrees with the origin at all unit points has one value everywhere.
use Rattle.std.proofs.Common.{◌≡◌, ℕ, zero, suc, ◌<◌, Bool, true, false, ◌&&◌, ◌⊎◌, inl, inr, List, get_or, refl, ap, sym, ◌∙◌}
use Rattle.std.proofs.Common.{subst, arith, if◌then◌else◌}
use Rattle.std.specs.Prelude.{ℤ, pos, negsuc, ◌+ℤ◌, ◌-ℤ◌, ◌*ℤ◌, ◌≤ℤ◌, Option, Some, None}
use Rattle.std.specs.Ordering.{int_eq}
use Rattle.std.proofs.lemmas.Int.{ints}
use Rattle.std.proofs.lemmas.Bool.{and_parts}
use Rattle.std.proofs.lemmas.Bool.Decides.{Decides-int_eq}
use Rattle.poly_terms.proofs.model.Cases.{none_some, some_same}
use Rattle.poly_terms.proofs.int_laws.RingLaws.{mul-zero_ℤ}
use Rattle.poly_terms.proofs.int_laws.SumLaws.{sum_to-zero, last_or_before}
use Rattle.poly_terms.specs.int_laws.Sums.{sum_to}
use Rattle.poly_terms.specs.model.Terms.{Term, value}
use Rattle.poly_terms.specs.Checked.{values_fit, value_within}
use Rattle.affine_constants.specs.Constants.{is_affine, origin, unit, is_value, agrees_at_units, is_natural, has_origin_value}
use Rattle.affine_constants.specs.Constants.{is_natural_constant, NaturalConstantsAreNatural}
use Rattle.affine_constants.proofs.AffineValues.{step, affine-sum}

-- a value within 128 bits is the value
within-value : (t : Term) (env : List ℤ) (z : ℤ) → value_within t env ≡ Some z → value t env ≡ z
within-value t env z e = go (values_fit t env) e
  where
    go : (b : Bool) → (if b then Some (value t env) else None) ≡ Some z → value t env ≡ z
    go true h = some_same (value t env) z h
    go false h = absurd (none_some z h)

-- a value that is just z
just-value : (t : Term) (env : List ℤ) (z : ℤ) → is_value z (value_within t env) ≡ true → value t env ≡ z
just-value t env z e = go (value_within t env) refl e
  where
    wrong : false ≡ true → ⊥
    wrong h = cc

    go : (o : Option ℤ) → value_within t env ≡ o → is_value z o ≡ true → value t env ≡ z
    go None is h = absurd (wrong h)
    go (Some y) is h = within-value t env y is ∙ (Decides-int_eq y z).0 h

-- what agrees at the first k unit points has the value z at each of them
agreed : (n : ℕ) (t : Term) (z : ℤ) (k : ℕ) → agrees_at_units n t z k ≡ true → (i : ℕ) → i < k → value t (unit n i) ≡ z
agreed n t z zero e i l = absurd (omega arith)
agreed n t z (suc k) e i l =
    let both = and_parts (agrees_at_units n t z k) (is_value z (value_within t (unit n k))) e in
    go (last_or_before k i l) (just-value t (unit n k) z both.1) (λ m. agreed n t z k both.0 i m)
  where
    go : (i ≡ k) ⊎ (i < k) → value t (unit n k) ≡ z → (i < k → value t (unit n i) ≡ z) → value t (unit n i) ≡ z
    go (inl same) here before = ap (λ (j : ℕ). value t (unit n j)) same ∙ here
    go (inr m) here before = before m

-- where the value at each unit point is that at the origin, no step changes it
one_value : (n : ℕ) (t : Term) → is_affine n t ≡ true → ((i : ℕ) → i < n → value t (unit n i) ≡ value t (origin n))
    → (env : List ℤ) → value t env ≡ value t (origin n)
one_value n t a same env = ends _ _ _ (affine-sum n t a env).sum (sum_to-zero n (step n t env) still)
  where
    none : (p o : ℤ) → p ≡ o → p -ℤ o ≡ pos 0
    none p o e = omega (arith, ints)

    still : (i : ℕ) → i < n → step n t env i ≡ pos 0
    still i l =
        mul-zero_ℤ (get_or env i (pos 0)) (value t (unit n i) -ℤ value t (origin n))
        (none (value t (unit n i)) (value t (origin n)) (same i l))

    ends : (v o s : ℤ) → v ≡ o +ℤ s → s ≡ pos 0 → v ≡ o
    ends v o s e f = omega (arith, ints)

-- what such a constant is: affine, with one natural value at the origin and at each unit point
record IsConstant (n : ℕ) (t : Term) : Type 0 where
  affine : is_affine n t ≡ true
  natural : pos 0 ≤ℤ value t (origin n)
  units : (i : ℕ) → i < n → value t (unit n i) ≡ value t (origin n)

is-constant : (n : ℕ) (t : Term) → is_natural_constant n t ≡ true → IsConstant n t
is-constant n t e =
    let both = and_parts (is_affine n t) (has_origin_value n t (value_within t (origin n))) e in
    go both.0 (value_within t (origin n)) refl both.1
  where
    wrong : false ≡ true → ⊥
    wrong h = cc

    at_least_0 : (z : ℤ) → is_natural z ≡ true → pos 0 ≤ℤ z
    at_least_0 (pos n) h = omega (arith, ints)
    at_least_0 (negsuc n) h = absurd (wrong h)

    go : is_affine n t ≡ true → (o : Option ℤ) → value_within t (origin n) ≡ o → has_origin_value n t o ≡ true
        → IsConstant n t
    go a None is h = absurd (wrong h)
    go a (Some z) is h =
        let both = and_parts (is_natural z) (agrees_at_units n t z n) h in
        let here = within-value t (origin n) z is in
        record {
          affine = a;
          natural = subst (λ (y : ℤ). pos 0 ≤ℤ y) (sym here) (at_least_0 z both.0);
          units = λ i l. agreed n t z n both.1 i l ∙ sym here;
        }

-- the laws
pub natural_constants_natural : NaturalConstantsAreNatural
natural_constants_natural = record {
  same = λ n t e env. let k = is-constant n t e in one_value n t k.affine k.units env;
  natural = λ n t e env.
      let k = is-constant n t e in
      subst (λ (y : ℤ). pos 0 ≤ℤ y) (sym (one_value n t k.affine k.units env)) k.natural;
}
