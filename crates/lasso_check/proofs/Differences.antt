-- The first place at which two configurations differ, while their values are compared one by one.
use Rattle.std.proofs.Common.{◌≡◌, ℕ, suc, ◌+◌, ◌<◌, ◌≤◌, List, length, take, get_or, ℤ, pos, sym, ◌∙◌, subst, arith}
use Rattle.std.proofs.lemmas.List.{take_all, take_more_same, get_or_read}
use Rattle.its_model.specs.model.Runs.{Config}
use Rattle.lasso_check.specs.Checks.{IsFirstDifference}

-- Configurations with the same symbol and values are the same.
same_config : (b c : Config) → b.at ≡ c.at → b.values ≡ c.values → b ≡ c
same_config b c e f = λ i. record { at = e i; values = f i }

-- configurations with the same symbol and the same number of values are equal if all values were compared
pub all_compared : (b c : Config) (n : ℕ) → b.at ≡ c.at → length b.values ≡ length c.values → length b.values ≤ n
    → take n b.values ≡ take n c.values → b ≡ c
all_compared b c n at long all same =
    same_config b c at (sym (take_all n b.values all) ∙ (same ∙ take_all n c.values (omega (arith, all, long))))

-- if the first i values agree, and so do the values at i, the first i + 1 values agree
pub compared_more : (xs ys : List ℤ) (i : ℕ) (x y : ℤ) → i < length xs → i < length ys → x ≡ get_or xs i x
    → y ≡ get_or ys i y → x ≡ y → take i xs ≡ take i ys → take (i + 1) xs ≡ take (i + 1) ys
compared_more xs ys i x y low high e f same before =
    take_more_same xs ys i (pos 0) low high before
    (sym (get_or_read xs i x low e (pos 0)) ∙ (same ∙ get_or_read ys i y high f (pos 0)))

-- if the first i values agree and the values at i differ, the first difference is at place i + 1
pub differ_here : (b c : Config) (i : ℕ) (x y : ℤ) → b.at ≡ c.at → i < length b.values → i < length c.values
    → x ≡ get_or b.values i x → y ≡ get_or c.values i y → (x ≡ y → ⊥) → take i b.values ≡ take i c.values
    → IsFirstDifference b c (i + 1)
differ_here b c i x y at low high e f other before =
    let next : suc i ≡ i + 1 = omega arith in
    subst (IsFirstDifference b c) next (
      at,
      before,
      λ same. other (get_or_read b.values i x low e (pos 0)
          ∙ (same ∙ sym (get_or_read c.values i y high f (pos 0)))),
    )
