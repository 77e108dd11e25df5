-- Sums over the first indices of a function, as in linear algebra.
use Rattle.std.specs.Prelude.{ℕ, zero, suc, ℤ, pos, ◌+ℤ◌, ◌*ℤ◌}

-- f 0 + .. + f (n - 1)
abbrev pub sum_to : ℕ → (ℕ → ℤ) → ℤ
sum_to zero f = pos 0
sum_to (suc n) f = sum_to n f +ℤ f n

-- the dot product of the first n coordinates: a 0 * x 0 + .. + a (n - 1) * x (n - 1)
abbrev pub dot : ℕ → (ℕ → ℤ) → (ℕ → ℤ) → ℤ
dot n a x = sum_to n (λ j. a j *ℤ x j)
