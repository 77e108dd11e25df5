-- Division by a positive number with Euclidean quotient rounds down.
use Rattle.std.proofs.Common.{◌≡◌, ℕ, ◌/◌, ◌≤◌, refl, sym, subst, arith}
use Rattle.std.specs.Int.{int_div_euclid}
use Rattle.std.specs.Prelude.{zero, suc, ℤ, pos, negsuc, unsigned_abs, ◌<ℤ◌, ◌≤ℤ◌, ◌*ℤ◌, ◌+ℤ◌, ◌-ℤ◌, neg_ℤ}
use Rattle.std.specs.Prelude.{[], ◌∷◌}
use Rattle.int_laws.specs.Polynomial.{variable, constant, negated, ◌⊕◌, ◌⊖◌, ◌⊗◌}
use Rattle.int_laws.proofs.RingLaws.{neg-mul_ℤ}
use Rattle.int_laws.proofs.Identities.{identity}
use Rattle.std.proofs.Math.Nat.{div-le_self}
use Rattle.std.proofs.lemmas.Int.{ints}

-- the quotient times the divisor is at most the number, and one divisor more is over it
pub div_euclid-is_floor : (n d : ℤ) → pos 0 <ℤ d → ((int_div_euclid n d *ℤ d) ≤ℤ n) × (n <ℤ ((int_div_euclid n d +ℤ pos 1) *ℤ d))
div_euclid-is_floor (pos a) (pos zero) h = absurd (omega (arith, ints, h))
div_euclid-is_floor (pos a) (pos (suc b)) h = (omega (arith, ints), omega (arith, ints))
div_euclid-is_floor (negsuc a) (pos zero) h = absurd (omega (arith, ints, h))
div_euclid-is_floor (negsuc a) (pos (suc b)) h =
    let one_more = next (a / suc b) in
    (omega (arith, ints), subst (λ (z : ℤ). negsuc a <ℤ (z *ℤ pos (suc b))) (sym one_more) (subst (λ (z : ℤ). negsuc a <ℤ z) (sym (neg-mul_ℤ (pos (a / suc b)) (pos (suc b)))) (omega (arith, ints))))
  where
    next : (q : ℕ) → negsuc q +ℤ pos 1 ≡ neg_ℤ (pos q)
    next q = omega (arith, ints)
div_euclid-is_floor (pos a) (negsuc b) h = absurd (omega (arith, ints, h))
div_euclid-is_floor (negsuc a) (negsuc b) h = absurd (omega (arith, ints, h))

-- the quotient is at most the number in absolute value
pub div_euclid-small : (n d : ℤ) → pos 0 <ℤ d → unsigned_abs (int_div_euclid n d) ≤ unsigned_abs n
div_euclid-small (pos a) (pos b) h = div-le_self a b
div_euclid-small (negsuc a) (pos b) h = let q = div-le_self a b in omega arith
div_euclid-small (pos a) (negsuc b) h = absurd (omega (arith, ints, h))
div_euclid-small (negsuc a) (negsuc b) h = absurd (omega (arith, ints, h))

-- the negated floor of the negation is the ceiling
pub negated_floor-is_ceiling : (n d f : ℤ) → ((f *ℤ d) ≤ℤ neg_ℤ n) × (neg_ℤ n <ℤ ((f +ℤ pos 1) *ℤ d))
    → (n ≤ℤ (neg_ℤ f *ℤ d)) × (((neg_ℤ f -ℤ pos 1) *ℤ d) <ℤ n)
negated_floor-is_ceiling n d f h =
    let one = identity (f ∷ d ∷ []) (negated (variable 0) ⊗ variable 1) (negated (variable 0 ⊗ variable 1)) refl in
    let two = identity (f ∷ d ∷ []) ((negated (variable 0) ⊖ constant (pos 1)) ⊗ variable 1) (negated ((variable 0 ⊕ constant (pos 1)) ⊗ variable 1)) refl in
    (lower _ _ h.0 one, upper _ _ h.1 two)
  where
    lower : (v w : ℤ) → v ≤ℤ neg_ℤ n → w ≡ neg_ℤ v → n ≤ℤ w
    lower v w l e = omega (arith, ints)

    upper : (v w : ℤ) → neg_ℤ n <ℤ v → w ≡ neg_ℤ v → w <ℤ n
    upper v w l e = omega (arith, ints)
