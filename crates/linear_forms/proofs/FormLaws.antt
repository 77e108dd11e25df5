-- Values of forms as dot products over the first n unknowns, for any n that includes all of theirs.
use Rattle.std.proofs.Common.{◌≡◌, ℕ, zero, suc, ◌≤◌, List, [], ◌∷◌, length, ap, arith, refl, sym, ◌∙◌}
use Rattle.std.specs.Prelude.{ℤ, pos, ◌+ℤ◌, ◌*ℤ◌}
use Rattle.int_laws.specs.Sums.{dot}
use Rattle.int_laws.proofs.RingLaws.{zero-mul_ℤ}
use Rattle.int_laws.proofs.SumLaws.{sum_to-zero}
use Rattle.linear_forms.specs.Forms.{at, list_dot}
pub use Rattle.linear_forms.proofs.ListLaws.{sum_to-first}

-- the dot product of a list is that of its numbers, over at least as many unknowns as it has numbers
pub list_dot-dot : (xs : List ℤ) (z : ℕ → ℤ) (n : ℕ) → length xs ≤ n → list_dot xs z ≡ dot n (at xs) z
list_dot-dot [] z n h = sym (sum_to-zero n (λ j. at [] j *ℤ z j) (λ j l. zero-mul_ℤ (pos 0) (z j) refl))
list_dot-dot (x ∷ xs) z zero h = absurd (omega arith)
list_dot-dot (x ∷ xs) z (suc n) h =
    ap (λ (v : ℤ). x *ℤ z 0 +ℤ v) (list_dot-dot xs (λ j. z (suc j)) n (omega arith)) ∙ sym (sum_to-first n (λ j. at (x ∷ xs) j *ℤ z j))
