-- Weak duality of linear programs.
use Rattle.std.proofs.Common.{◌≡◌, ℕ, ◌<◌, ap, arith, sym, ◌∙◌}
use Rattle.std.specs.Prelude.{ℤ, pos, ◌*ℤ◌, ◌≤ℤ◌}
use Rattle.std.proofs.lemmas.Int.{ints}
use Rattle.int_laws.specs.Sums.{sum_to, dot}
use Rattle.int_laws.specs.Laws.{Solves}
use Rattle.int_laws.proofs.RingLaws.{mul_assoc_ℤ, mul_comm_ℤ}
use Rattle.int_laws.proofs.OrderLaws.{mul-le-mul_ℤ}
use Rattle.int_laws.proofs.SumLaws.{sum_to-same, sum_to-scale, sum_to-scale_behind, sum_to-swap, sum_to-le}

-- prices times (the rows times x) are (prices times the rows) times x
pub dot-dot : (rows columns : ℕ) (entry : ℕ → ℕ → ℤ) (price x : ℕ → ℤ)
    → dot rows price (λ i. dot columns (entry i) x) ≡ dot columns (λ j. dot rows price (λ i. entry i j)) x
dot-dot rows columns entry price x =
    sum_to-same rows (λ i. price i *ℤ dot columns (entry i) x) (λ i. sum_to columns (λ j. price i *ℤ (entry i j *ℤ x j)))
    (λ i _. sym (sum_to-scale columns (price i) (λ j. entry i j *ℤ x j)))
    ∙ (sum_to-swap rows columns (λ i j. price i *ℤ (entry i j *ℤ x j))
    ∙ sum_to-same columns (λ j. sum_to rows (λ i. price i *ℤ (entry i j *ℤ x j))) (λ j. dot rows price (λ i. entry i j) *ℤ x j)
    (λ j _. sum_to-same rows (λ i. price i *ℤ (entry i j *ℤ x j)) (λ i. (price i *ℤ entry i j) *ℤ x j) (λ i _. sym (mul_assoc_ℤ (price i) (entry i j) (x j)))
    ∙ sum_to-scale_behind rows (x j) (λ i. price i *ℤ entry i j)))

-- prices that give each column at most its cost give the right sides at most the cost of a solution
pub weak_duality : (rows columns : ℕ) (entry : ℕ → ℕ → ℤ) (right cost price x : ℕ → ℤ)
    → Solves rows columns entry right x
    → ((j : ℕ) → j < columns → dot rows price (λ i. entry i j) ≤ℤ cost j)
    → dot rows price right ≤ℤ dot columns cost x
weak_duality rows columns entry right cost price x s h =
    at_most _ _ _
    (sum_to-same rows (λ i. price i *ℤ right i) (λ i. price i *ℤ dot columns (entry i) x) (λ i l. ap (λ (z : ℤ). price i *ℤ z) (sym (s.equations i l)))
    ∙ dot-dot rows columns entry price x)
    (sum_to-le columns (λ j. dot rows price (λ i. entry i j) *ℤ x j) (λ j. cost j *ℤ x j) (λ j l. times_behind _ _ _ (s.nonnegative j l) (h j l)))
  where
    at_most : (a b c : ℤ) → a ≡ b → b ≤ℤ c → a ≤ℤ c
    at_most a b c e l = omega (arith, ints)

    swapped : (v w y z : ℤ) → v ≡ y → w ≡ z → y ≤ℤ z → v ≤ℤ w
    swapped v w y z d e l = omega (arith, ints)

    times_behind : (a b c : ℤ) → pos 0 ≤ℤ c → a ≤ℤ b → (a *ℤ c) ≤ℤ (b *ℤ c)
    times_behind a b c p l = swapped _ _ _ _ (mul_comm_ℤ a c) (mul_comm_ℤ b c) (mul-le-mul_ℤ c a b p l)
