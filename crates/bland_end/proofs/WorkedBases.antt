-- The worked values of bases hold, by computation.
use Rattle.std.proofs.Common.{◌≡◌, ◌≢◌, ℕ, zero, suc, ◌+◌, ◌*◌, ◌/◌, ap, arith, refl, sym, ◌∙◌}
use Rattle.std.proofs.Math.Nat.{mul-div_cancel}
use Rattle.simplex_core.specs.Tableau.{equation, cost, first_tableau, pivot}
use Rattle.bland_end.specs.Bases.{IsBasic}
use Rattle.bland_end.specs.Counting.{choose, below_limit}
use Rattle.bland_end.specs.Worked.{sums, solved_for, SetsAreCounted, BasesAreCounted, BasesAreCompared, BoundIsReached}
use Rattle.bland_end.proofs.Binomials.{next-sets}

pub sets : SetsAreCounted
sets = record { ones = refl; twos = refl; without_order = λ e. absurd (omega (arith, e)); past = refl; empty = λ n. refl }

-- the number of sets with one more thing, given that with those before
climb : (m n i a b : ℕ) → n ≡ m → choose (n + i) i ≡ a → b * suc i ≡ a * (m + suc i) → choose (n + suc i) (suc i) ≡ b
climb m n i a b e h g = cancel (choose (n + suc i) (suc i)) b i
    (next-sets n i ∙ (ap (λ k. k * (n + suc i)) h ∙ (ap (λ k. a * (k + suc i)) e ∙ sym g)))
  where
    cancel : (x y i : ℕ) → x * suc i ≡ y * suc i → x ≡ y
    cancel x y i h = sym (mul-div_cancel x (omega arith)) ∙ (ap (λ k. k / suc i) h ∙ mul-div_cancel y (omega arith))

-- the number of sets of 17 of 34 things
seventeen : (n : ℕ) → n ≡ 17 → choose (n + 17) 17 ≡ 2333606220
seventeen n e =
    climb 17 n 16 1166803110 2333606220 e
    (climb 17 n 15 565722720 1166803110 e
    (climb 17 n 14 265182525 565722720 e
    (climb 17 n 13 119759850 265182525 e
    (climb 17 n 12 51895935 119759850 e
    (climb 17 n 11 21474180 51895935 e
    (climb 17 n 10 8436285 21474180 e
    (climb 17 n 9 3124550 8436285 e
    (climb 17 n 8 1081575 3124550 e
    (climb 17 n 7 346104 1081575 e
    (climb 17 n 6 100947 346104 e
    (climb 17 n 5 26334 100947 e
    (climb 17 n 4 5985 26334 e
    (climb 17 n 3 1140 5985 e
    (climb 17 n 2 171 1140 e
    (climb 17 n 1 18 171 e
    (climb 17 n 0 1 18 e
    (refl) refl) refl) refl) refl) refl) refl) refl) refl) refl) refl) refl) refl) refl) refl) refl) refl) refl

-- the number of sets of 17 of 35 things
eighteen : (n : ℕ) → n ≡ 18 → choose (n + 17) 17 ≡ 4537567650
eighteen n e =
    climb 18 n 16 2203961430 4537567650 e
    (climb 18 n 15 1037158320 2203961430 e
    (climb 18 n 14 471435600 1037158320 e
    (climb 18 n 13 206253075 471435600 e
    (climb 18 n 12 86493225 206253075 e
    (climb 18 n 11 34597290 86493225 e
    (climb 18 n 10 13123110 34597290 e
    (climb 18 n 9 4686825 13123110 e
    (climb 18 n 8 1562275 4686825 e
    (climb 18 n 7 480700 1562275 e
    (climb 18 n 6 134596 480700 e
    (climb 18 n 5 33649 134596 e
    (climb 18 n 4 7315 33649 e
    (climb 18 n 3 1330 7315 e
    (climb 18 n 2 190 1330 e
    (climb 18 n 1 19 190 e
    (climb 18 n 0 1 19 e
    (refl) refl) refl) refl) refl) refl) refl) refl) refl) refl) refl) refl) refl) refl) refl) refl) refl) refl

pub counted : BasesAreCounted
counted = record {
  few = refl;
  no_rows = λ n. refl;
  below = λ n e. ap below_limit (seventeen n e);
  above = λ n e. ap below_limit (eighteen n e);
  greatest = refl;
  past = refl;
}

pub compared : BasesAreCompared
compared = record {
  basic = (1, omega arith, refl);
  not_basic = not_basic;
  same = record { there = λ j h. turned 0 2 j h; back = λ j h. turned 2 0 j h };
  other = λ h. not_basic_in 0 1 2 (omega arith) (omega arith) (h.there 2 (1, omega arith, refl));
}
  where
    not_basic_in : (a b j : ℕ) → a ≢ j → b ≢ j → ¬ IsBasic (sums 2 3) (solved_for a b) j
    not_basic_in a b j d e (zero, l, f) = d f
    not_basic_in a b j d e (suc i, l, f) = e f

    not_basic : ¬ IsBasic (sums 2 3) (solved_for 0 2) 1
    not_basic = not_basic_in 0 2 1 (omega arith) (omega arith)

    turned : (a b j : ℕ) → IsBasic (sums 2 3) (solved_for a b) j → IsBasic (sums 2 3) (solved_for b a) j
    turned a b j (zero, l, e) = (1, omega arith, e)
    turned a b j (suc i, l, e) = (0, omega arith, e)

pub bound : BoundIsReached
unfolding equation cost first_tableau pivot
bound = record { bases = refl; there = (pivot (first_tableau (sums 1 1)) 0 0, refl); last = refl }
