-- Lowest terms are unique.
use Rattle.std.proofs.Common.{◌≡◌, ℕ, sym, ◌∙◌, ap, subst, arith}
use Rattle.std.specs.Int.{◌∣◌}
use Rattle.std.specs.Prelude.{ℤ, pos, unsigned_abs, ◌<ℤ◌, ◌*ℤ◌}
use Rattle.std.proofs.Math.Nat.{dvd_antisymm, dvd-mul_left}
use Rattle.std.proofs.lemmas.Int.{ints, unsigned_abs-mul}
use Rattle.int_laws.proofs.Coprime.{euclid}
use Rattle.int_laws.proofs.OrderLaws.{mul-cancel_ℤ}
use Rattle.int_laws.proofs.RingLaws.{mul_comm_ℤ}
use Rattle.frac128.specs.Lowest.{IsLowest}

-- if two fractions have equal cross products, and one is in lowest terms, its denominator divides the other's
pub divides_other : (n d n' d' : ℤ) → IsLowest n d → n *ℤ d' ≡ n' *ℤ d → unsigned_abs d ∣ unsigned_abs d'
divides_other n d n' d' lowest same =
    euclid (unsigned_abs n) (unsigned_abs d') (unsigned_abs d) lowest
    (subst (λ (m : ℕ). unsigned_abs d ∣ m)
    (sym (unsigned_abs-mul n' d) ∙ (ap unsigned_abs (sym same ∙ mul_comm_ℤ n d') ∙ unsigned_abs-mul d' n))
    (dvd-mul_left (unsigned_abs d) (unsigned_abs n')))

-- fractions in lowest terms with equal cross products have the same numerator and denominator
pub same_parts : (n d n' d' : ℤ) → pos 0 <ℤ d → pos 0 <ℤ d' → IsLowest n d → IsLowest n' d' → n *ℤ d' ≡ n' *ℤ d → (n ≡ n') × (d ≡ d')
same_parts n d n' d' positive positive' lowest lowest' same =
    let sizes = dvd_antisymm (divides_other n d n' d' lowest same) (divides_other n' d' n d lowest' (sym same)) in
    let dens : d ≡ d' = omega (arith, ints, sizes) in
    (mul-cancel_ℤ d n n' positive (mul_comm_ℤ d n ∙ (ap (λ (z : ℤ). n *ℤ z) dens ∙ (same ∙ mul_comm_ℤ n' d))), dens)
