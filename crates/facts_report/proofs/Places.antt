-- The text of a difference of two places, by which of them is 0.
use Rattle.std.proofs.Common.{◌≡◌, ℕ, zero, suc, refl, sym, ap, ◌∙◌, List, ◌++◌, codes, append_assoc}
use Rattle.facts_report.specs.FactTexts.{value_text, difference_text}

-- both places are 0
pub no_places : (j : ℕ) → j ≡ 0 → codes "0" ≡ difference_text 0 j
no_places j e = ap (difference_text 0) (sym e)

-- the first place is 0
pub minus_alone : (j : ℕ) (old : List ℕ) → (j ≡ 0 → ⊥) → (old ++ codes "-") ++ value_text j ≡ old ++ difference_text 0 j
minus_alone zero old n = absurd (n refl)
minus_alone (suc j) old n = append_assoc old (codes "-") (value_text (suc j))

-- the second place is 0
pub plus_alone : (i j : ℕ) → (i ≡ 0 → ⊥) → j ≡ 0 → value_text i ≡ difference_text i j
plus_alone zero j n e = absurd (n refl)
plus_alone (suc i) j n e = ap (difference_text (suc i)) (sym e)

-- neither place is 0
pub both_places : (i j : ℕ) (old : List ℕ) → (i ≡ 0 → ⊥) → (j ≡ 0 → ⊥)
    → ((old ++ value_text i) ++ codes " - ") ++ value_text j ≡ old ++ difference_text i j
both_places zero j old n m = absurd (n refl)
both_places (suc i) zero old n m = absurd (m refl)
both_places (suc i) (suc j) old n m =
    append_assoc (old ++ value_text (suc i)) (codes " - ") (value_text (suc j))
    ∙ append_assoc old (value_text (suc i)) (codes " - " ++ value_text (suc j))
