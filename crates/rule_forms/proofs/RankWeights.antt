-- As parameters, the numbers of a function weigh what the function weighs.
use Rattle.std.proofs.Common.{◌≡◌, ℕ, zero, suc, ◌+◌, ◌<◌, ◌≤◌, ap, arith, refl, sym, ◌∙◌, Bool, true, false, cond}
use Rattle.std.proofs.Common.{List, [], ◌∷◌, ◌++◌, length, map, ◌⊎◌, inl, inr, if◌then◌else◌, nat_eq}
use Rattle.std.specs.Prelude.{ℤ, pos, ◌+ℤ◌, ◌*ℤ◌, nat_abs, slice_index_or}
use Rattle.std.proofs.Math.Dec.{eqb-suc-zero}
use Rattle.std.proofs.lemmas.Int.{ints}
use Rattle.std.proofs.lemmas.Bool.{cases_lt}
use Rattle.linear_forms.specs.int_laws.Sums.{sum_to}
use Rattle.linear_forms.proofs.int_laws.RingLaws.{mul-zero_ℤ}
use Rattle.linear_forms.proofs.int_laws.SumLaws.{sum_to-same, sum_to-zero}
use Rattle.linear_forms.specs.Forms.{at}
use Rattle.linear_forms.specs.Sizes.{total_size}
use Rattle.linear_forms.specs.Questions.{listed}
use Rattle.linear_forms.specs.QuestionLaws.{positive_part, size_weight, height_weight}
use Rattle.linear_forms.specs.RuleQuestions.{RankedSet, symbols_of_set, open_places, coefficients, size_at, height_at}
use Rattle.linear_forms.specs.RuleQuestions.{rank_question}
use Rattle.linear_forms.proofs.ListLaws.{sum_to-first}
use Rattle.rule_forms.specs.Bounds.{height}
use Rattle.rule_forms.specs.Ranking.{Function, Fits, over_entered, size_of, height_of}
use Rattle.rule_forms.proofs.Forms.{at-listed, at-past}
use Rattle.rule_forms.proofs.Totals.{total, total-append, total-map}
use Rattle.rule_forms.proofs.Weights.{total_size-same, height-is}
use Rattle.rule_forms.proofs.RankGoals.{coefficients_of}
use Rattle.rule_forms.proofs.RankValues.{number_at, number_of, block-total}
use Rattle.rule_forms.proofs.RankExclusion.{numbers_of}

-- a sum of weights of elements at their values
sum-total : {A : Type 0} (k : A → ℕ) (m : ℤ → ℤ) (h : A → ℤ) (xs : List A)
    → sum_to (length xs) (λ p. pos (slice_index_or (map k xs) p 0) *ℤ m (at (map h xs) p))
    ≡ total (λ x. pos (k x) *ℤ m (h x)) xs
sum-total k m h [] = refl
sum-total k m h (x ∷ xs) = sum_to-first (length xs) _ ∙ ap (λ (s : ℤ). pos (k x) *ℤ m (h x) +ℤ s) (sum-total k m h xs)

-- the weight of the coefficients of symbols is the sum over the entered ones of the weights of their places and
-- constants
blocks : (b : RankedSet) (g : Function) (k : ℕ → ℕ) (m : ℤ → ℤ) (n : ℕ → ℕ) (ss : List ℕ)
    → ((s : ℕ) → total (λ i. pos (k i) *ℤ m (number_at (g s) i)) (open_places b s ++ 0 ∷ []) ≡ pos (n s))
    → total (λ c. pos (if b.entered c.symbol then k c.place else 0) *ℤ m (number_of g c)) (coefficients b ss)
    ≡ pos (over_entered b.entered n ss)
blocks b g k m n [] h = refl
blocks b g k m n (s ∷ ss) h =
    total-append _ (map (λ i. record { symbol = s; place = i }) (open_places b s ++ 0 ∷ [])) (coefficients b ss)
    ∙ both _ _ _ _ (total-map _ (λ i. record { symbol = s; place = i }) (open_places b s ++ 0 ∷ []) ∙ go (b.entered s))
    (blocks b g k m n ss h)
  where
    both : (x y : ℤ) (u v : ℕ) → x ≡ pos u → y ≡ pos v → x +ℤ y ≡ pos (u + v)
    both x y u v e f = omega (arith, ints, e, f)

    zeros : (x y : ℤ) → y ≡ pos 0 → pos 0 *ℤ x +ℤ y ≡ pos 0
    zeros x y e = omega (arith, ints, e)

    go : (t : Bool) → total (λ i. pos (if t then k i else 0) *ℤ m (number_at (g s) i)) (open_places b s ++ 0 ∷ [])
        ≡ pos (cond t (n s) 0)
    go true = h s
    go false = none (open_places b s ++ 0 ∷ [])
      where
        none : (is : List ℕ) → total (λ i. pos 0 *ℤ m (number_at (g s) i)) is ≡ pos 0
        none [] = refl
        none (i ∷ is) = zeros (m (number_at (g s) i)) (total (λ j. pos 0 *ℤ m (number_at (g s) j)) is) (none is)

-- the sum of the absolute values of listed numbers
listed-total : (n : ℕ) (f : ℕ → ℤ) → sum_to n (λ j. pos (nat_abs (f j))) ≡ pos (total_size (listed n f))
listed-total zero f = refl
listed-total (suc n) f = sum_to-first n _ ∙ both _ _ _ (listed-total n (λ j. f (suc j)))
  where
    both : (x : ℕ) (y : ℤ) (v : ℕ) → y ≡ pos v → pos x +ℤ y ≡ pos (x + v)
    both x y v e = omega (arith, ints, e)

-- the weight of the places of a symbol is the sum of the absolute coefficients there
places-weigh : (b : RankedSet) (g : Function) (s : ℕ) → Fits b g
    → total (λ i. pos (if nat_eq i 0 then 0 else 1) *ℤ pos (nat_abs (number_at (g s) i))) (open_places b s ++ 0 ∷ [])
    ≡ pos (total_size (g s).coefs)
places-weigh b g s fits =
    block-total b g s (λ i x. pos (if nat_eq i 0 then 0 else 1) *ℤ pos (nat_abs x)) fits
    (λ i. mul-zero_ℤ (pos (if nat_eq i 0 then 0 else 1)) (pos 0) refl)
    ∙ (alone _ _ (nat_abs (g s).constant) (sum_to-same (b.arity s) _ (λ j. pos (nat_abs (at (g s).coefs j)))
    (λ j l. one j _)
    ∙ listed-total (b.arity s) (at (g s).coefs))
    ∙ ap (λ (n : ℕ). pos n) (total_size-same (listed (b.arity s) (at (g s).coefs)) (g s).coefs
    (λ u. listed-same u (cases_lt u (b.arity s)))))
  where
    one : (j : ℕ) (x : ℕ) → pos (if nat_eq (suc j) 0 then 0 else 1) *ℤ pos x ≡ pos x
    one j x = ap (λ t. pos (if t then 0 else 1) *ℤ pos x) (eqb-suc-zero j) ∙ plain x
      where
        plain : (x : ℕ) → pos 1 *ℤ pos x ≡ pos x
        plain x = omega (arith, ints)

    alone : (a c : ℤ) (x : ℕ) → a ≡ c → a +ℤ pos 0 *ℤ pos x ≡ c
    alone a c x e = omega (arith, ints, e)

    listed-same : (u : ℕ) → (u < b.arity s) ⊎ (b.arity s ≤ u)
        → at (listed (b.arity s) (at (g s).coefs)) u ≡ at (g s).coefs u
    listed-same u (inl k) = at-listed (b.arity s) (at (g s).coefs) u k
    listed-same u (inr k) = at-past (b.arity s) (at (g s).coefs) u k ∙ sym (fits.places s u k)

-- the weight of the constant of a symbol is its positive part
constant-weighs : (b : RankedSet) (g : Function) (s : ℕ) → Fits b g
    → total (λ i. pos (if nat_eq i 0 then 1 else 0) *ℤ positive_part (number_at (g s) i)) (open_places b s ++ 0 ∷ [])
    ≡ pos (height (g s).constant)
constant-weighs b g s fits =
    block-total b g s (λ i x. pos (if nat_eq i 0 then 1 else 0) *ℤ positive_part x) fits
    (λ i. mul-zero_ℤ (pos (if nat_eq i 0 then 1 else 0)) (pos 0) refl)
    ∙ alone _ _ _ (sum_to-zero (b.arity s) _ (λ j l. none j _)) (height-is (g s).constant)
  where
    none : (j : ℕ) (x : ℤ) → pos (if nat_eq (suc j) 0 then 1 else 0) *ℤ x ≡ pos 0
    none j x = ap (λ t. pos (if t then 1 else 0) *ℤ x) (eqb-suc-zero j) ∙ plain x
      where
        plain : (x : ℤ) → pos 0 *ℤ x ≡ pos 0
        plain x = omega (arith, ints)

    alone : (a x : ℤ) (h : ℕ) → a ≡ pos 0 → x ≡ pos h → a +ℤ pos 1 *ℤ x ≡ pos h
    alone a x h e f = omega (arith, ints, e, f)

-- the numbers of a function have the size of the function
pub numbers-size : (b : RankedSet) (g : Function) → Fits b g
    → size_weight (rank_question b) (numbers_of b g) ≡ pos (size_of b g)
numbers-size b g fits =
    sum-total (size_at b) (λ x. pos (nat_abs x)) (number_of g) (coefficients_of b)
    ∙ blocks b g (λ i. if nat_eq i 0 then 0 else 1) (λ x. pos (nat_abs x)) (λ s. total_size (g s).coefs)
    (symbols_of_set b) (λ s. places-weigh b g s fits)

-- the numbers of a function have the height of the function
pub numbers-height : (b : RankedSet) (g : Function) → Fits b g
    → height_weight (rank_question b) (numbers_of b g) ≡ pos (height_of b g)
numbers-height b g fits =
    sum-total (height_at b) positive_part (number_of g) (coefficients_of b)
    ∙ blocks b g (λ i. if nat_eq i 0 then 1 else 0) positive_part (λ s. height (g s).constant) (symbols_of_set b)
    (λ s. constant-weighs b g s fits)
