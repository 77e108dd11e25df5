-- The value of a fact as an expression: the difference that the fact is on, less the number that it is at least.
use Rattle.std.proofs.Common.{◌≡◌, ◌≢◌, ℕ, zero, suc, ◌+◌, ◌≤◌, ◌<◌, Bool, true, false, List, map}
use Rattle.std.proofs.Common.{refl, sym, ◌∙◌, ap, arith, if◌then◌else◌, eq-eqb}
use Rattle.std.specs.Prelude.{ℤ, pos, negsuc, neg_ℤ, ◌+ℤ◌, ◌-ℤ◌, ◌≤ℤ◌, nat_eq, slice_index_or}
use Rattle.std.specs.List.{range_with_len}
use Rattle.std.proofs.lemmas.Bool.{eqb-true}
use Rattle.std.proofs.lemmas.Int.{ints}
use Rattle.refined_programs.specs.model.Terms.{Term, value}
use Rattle.refined_programs.specs.Affine.{number_term, with_product, with_products}
use Rattle.location_facts.specs.declared.fact.LocFact.{LocFact}
use Rattle.facts_section.specs.Copies.{IsMetBy, coefficient, fact_term, value_at}

-- a number, or 0 unless a test passes
abbrev counted : Bool → ℤ → ℤ
counted v z = if v then z else pos 0

-- the value at place q, if it is one of the m places after place i, and else 0
abbrev part : ℕ → ℕ → ℕ → List ℤ → ℤ
part i zero q env = pos 0
part i (suc m) q env = counted (nat_eq (suc i) q) (slice_index_or env i (pos 0)) +ℤ part (suc i) m q env

-- the value of a number's expression is the number
number-value : (z : ℤ) (env : List ℤ) → value (number_term z) env ≡ z
number-value (pos n) env = refl
number-value (negsuc n) env = refl

module _ (f : LocFact) (env : List ℤ) (differ : f.plus ≢ f.minus) where
  -- one more product adds the value at its place, or takes it off, or neither
  product-value : (t : Term) (i : ℕ)
      → value (with_product t i (coefficient f (suc i))) env
      ≡ value t env +ℤ (counted (nat_eq (suc i) f.plus) (slice_index_or env i (pos 0))
      -ℤ counted (nat_eq (suc i) f.minus) (slice_index_or env i (pos 0)))
  product-value t i = go (nat_eq (suc i) f.plus) (nat_eq (suc i) f.minus) refl refl
    where
      z : ℤ
      z = slice_index_or env i (pos 0)

      go : (v w : Bool) → nat_eq (suc i) f.plus ≡ v → nat_eq (suc i) f.minus ≡ w
          → value (with_product t i (coefficient f (suc i))) env
          ≡ value t env +ℤ (counted (nat_eq (suc i) f.plus) z -ℤ counted (nat_eq (suc i) f.minus) z)
      go true true e h = absurd (differ (sym (eqb-true (suc i) f.plus e) ∙ eqb-true (suc i) f.minus h))
      go true false e h = rw e (rw h (omega (arith, ints)))
      go false true e h = rw e (rw h (omega (arith, ints)))
      go false false e h = rw e (rw h (omega (arith, ints)))

  -- the products of m places after place i add the value at plus and take off that at minus
  products-value : (m i : ℕ) (t : Term)
      → value (with_products t i (map (coefficient f) (range_with_len (suc i) m))) env
      ≡ value t env +ℤ (part i m f.plus env -ℤ part i m f.minus env)
  products-value zero i t = omega (arith, ints)
  products-value (suc m) i t =
      let u : Term = with_product t i (coefficient f (suc i)) in
      let next : suc i + 1 ≡ suc (suc i) = omega arith in
      let others = ap (λ (k : ℕ). value (with_products u (suc i) (map (coefficient f)
      (range_with_len k m))) env) next in
      let ih = products-value m (suc i) u in
      let first = product-value t i in
      omega (arith, ints, others, ih, first)

-- places that aren't after place i count nothing
part-none : (env : List ℤ) (m i q : ℕ) → q ≤ i → part i m q env ≡ pos 0
part-none env zero i q low = refl
part-none env (suc m) i q low = go (nat_eq (suc i) q) refl (part-none env m (suc i) q (omega (arith, low)))
  where
    go : (v : Bool) → nat_eq (suc i) q ≡ v → part (suc i) m q env ≡ pos 0 → part i (suc m) q env ≡ pos 0
    go true e ih = absurd (omega (arith, low, eqb-true (suc i) q e))
    go false e ih = rw e (omega (arith, ints, ih))

-- one of the m places after place i counts its value
part-found : (env : List ℤ) (m i j : ℕ) → i ≤ j → j < i + m → part i m (suc j) env ≡ slice_index_or env j (pos 0)
part-found env zero i j low high = absurd (omega (arith, low, high))
part-found env (suc m) i j low high =
    go (nat_eq (suc i) (suc j)) refl (λ less. part-found env m (suc i) j less (omega (arith, high)))
  where
    go : (v : Bool) → nat_eq (suc i) (suc j) ≡ v
        → (suc i ≤ j → part (suc i) m (suc j) env ≡ slice_index_or env j (pos 0))
        → part i (suc m) (suc j) env ≡ slice_index_or env j (pos 0)
    go true e ih =
        let same : i ≡ j = (let s = eqb-true (suc i) (suc j) e in omega (arith, s)) in
        let here = ap (λ (k : ℕ). slice_index_or env k (pos 0)) same in
        let none = part-none env m (suc i) (suc j) (omega (arith, same)) in
        rw e (omega (arith, ints, here, none))
    go false e ih = rw e (omega (arith, ints, ih (not_here other)))
      where
        other : i ≡ j → ⊥
        other same = let test = eq-eqb (suc i) (suc j) (ap (λ (k : ℕ). suc k) same) in cc

        not_here : (i ≡ j → ⊥) → suc i ≤ j
        not_here differ = omega (arith, low, differ)

-- among the first n places each one counts its value, and 0 counts nothing
part-all : (env : List ℤ) (n q : ℕ) → q ≤ n → part 0 n q env ≡ value_at env q
part-all env n zero low = part-none env n 0 0 (omega arith)
part-all env n (suc j) low = part-found env n 0 j (omega arith) (omega (arith, low))

-- a fact over n places has the value by which it is met
pub fact-value : (n : ℕ) (f : LocFact) (env : List ℤ) → f.plus ≢ f.minus → f.plus ≤ n → f.minus ≤ n
    → value (fact_term n f) env ≡ (value_at env f.plus -ℤ value_at env f.minus) -ℤ f.least
fact-value n f env differ plus minus =
    let all = products-value f env differ n 0 (number_term (neg_ℤ f.least)) in
    let number = number-value (neg_ℤ f.least) env in
    let one = part-all env n f.plus plus in
    let other = part-all env n f.minus minus in
    omega (arith, ints, all, number, one, other)

-- so it is at least 0 exactly where the fact is met
pub fact-met : (n : ℕ) (f : LocFact) (env : List ℤ) → f.plus ≢ f.minus → f.plus ≤ n → f.minus ≤ n
    → (pos 0 ≤ℤ value (fact_term n f) env → IsMetBy f env) × (IsMetBy f env → pos 0 ≤ℤ value (fact_term n f) env)
fact-met n f env differ plus minus =
    let e = fact-value n f env differ plus minus in (λ h. omega (arith, ints, e, h), λ h. omega (arith, ints, e, h))
