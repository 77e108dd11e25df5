-- The balances of a gap, place by place and symbol by symbol.
use Rattle.std.proofs.Common.{◌≡◌, ◌⊎◌, inl, inr, ℕ, zero, suc, ◌+◌, ◌<◌, ◌≤◌, not, Bool, true, false, cond}
use Rattle.std.proofs.Common.{if◌then◌else◌, List, [], ◌∷◌, ◌++◌, length, map, filter, drop, get_or, Option, Some}
use Rattle.std.proofs.Common.{refl, sym, ap, ◌∙◌, subst, arith}
use Rattle.std.specs.Prelude.{pos, ◌+ℤ◌, ◌-ℤ◌, slice_index_or}
use Rattle.std.specs.List.{AllByRecursion, range_with_len}
use Rattle.std.proofs.lemmas.Bool.{cases_lt, eq-eqb}
use Rattle.std.proofs.lemmas.List.{drop_more, drop_all}
use Rattle.farkas_cert.specs.linear_forms.Forms.{Form}
use Rattle.farkas_cert.specs.linear_forms.Combinations.{zero_form}
use Rattle.farkas_cert.specs.linear_forms.RuleQuestions.{RuleForms, Coefficient, after_rule, at_source, at_target}
use Rattle.farkas_cert.specs.model.Paths.{target_in, target_of}
use Rattle.farkas_cert.specs.model.Programs.{Program, Rule, rule_at}
use Rattle.cert_types.specs.cert_program.RankedSets.{forms_in, forms_at}
use Rattle.cert_types.specs.cert_rules.AcceptsPlain.{IsRule}
use Rattle.cert_types.specs.cert_rules.GapChecks.{value_at, net}
use Rattle.cert_types.specs.cert_rules.Gaps.{ScaledPoint}
use Rattle.cert_types.proofs.cert_rules.CheckLists.{each-append}
use Rattle.gap_checks.specs.GapTests.{IsFirstFailing, coefficient_at}

-- the first failing element of a list is also that of the list with more elements at its end
pub failing-front : {A : Type 0} (P : A → Type 0) (xs ys : List A) (y : A) → IsFirstFailing P xs y
    → IsFirstFailing P (xs ++ ys) y
failing-front P [] ys y h = absurd h
failing-front P (x ∷ xs) ys y (inl h) = inl h
failing-front P (x ∷ xs) ys y (inr h) = inr (h.0, failing-front P xs ys y h.1)

-- the first failing element of a list is also that of the list after elements that all hold
pub failing-behind : {A : Type 0} (P : A → Type 0) (xs ys : List A) (y : A) → AllByRecursion P xs
    → IsFirstFailing P ys y → IsFirstFailing P (xs ++ ys) y
failing-behind P [] ys y h k = k
failing-behind P (x ∷ xs) ys y h k = inr (h.0, failing-behind P xs ys y h.1 k)

-- lemmas about the numbers from a on that pass a test, each of which has a block of elements
module _ (test : ℕ → Bool) where
  -- if all elements of each number's block hold, all elements of all blocks do
  module _ {A : Type 0} (P : A → Type 0) (blocks : List ℕ → List A) (block : ℕ → List A) (none : blocks [] ≡ [])
      (more : (s : ℕ) (ss : List ℕ) → blocks (s ∷ ss) ≡ block s ++ blocks ss) where
    pub blocks-hold : (a n : ℕ) → ((s : ℕ) → a ≤ s → s < a + n → test s ≡ true → AllByRecursion P (block s))
        → AllByRecursion P (blocks (filter test (range_with_len a n)))
    blocks-hold a zero h = subst (AllByRecursion P) (sym none) tt
    blocks-hold a (suc n) h = go (test a) refl
        (blocks-hold (a + 1) n (λ s l m t. h s (omega (arith, l)) (omega (arith, m)) t))
      where
        go : (v : Bool) → test a ≡ v → AllByRecursion P (blocks (filter test (range_with_len (a + 1) n)))
            → AllByRecursion P (blocks (cond v (a ∷ filter test (range_with_len (a + 1) n))
            (filter test (range_with_len (a + 1) n))))
        go true e rest =
            subst (AllByRecursion P) (sym (more a (filter test (range_with_len (a + 1) n))))
            (each-append P (block a) (blocks (filter test (range_with_len (a + 1) n)))
            (h a (omega arith) (omega arith) e) rest)
        go false e rest = rest

    -- if a number's block is the first one in which an element fails, the first failing element of the block is that of
    -- all blocks
    pub blocks-fail : (a n k : ℕ) (y : A) → a ≤ k → k < a + n
        → ((s : ℕ) → a ≤ s → s < k → test s ≡ true → AllByRecursion P (block s)) → test k ≡ true
        → IsFirstFailing P (block k) y → IsFirstFailing P (blocks (filter test (range_with_len a n))) y
    blocks-fail a zero k y l m h t f = absurd (omega (arith, l, m))
    blocks-fail a (suc n) k y l m h t f = go (cases_lt a k)
        (λ b. blocks-fail (a + 1) n k y (omega (arith, b)) (omega (arith, m)) (λ s c d e. h s (omega (arith, c)) d e) t f)
      where
        rest : List ℕ
        rest = filter test (range_with_len (a + 1) n)

        passed : (v : Bool) → test a ≡ v → a < k → IsFirstFailing P (blocks rest) y
            → IsFirstFailing P (blocks (cond v (a ∷ rest) rest)) y
        passed true e b later =
            subst (λ (xs : List A). IsFirstFailing P xs y) (sym (more a rest))
            (failing-behind P (block a) (blocks rest) y (h a (omega arith) b e) later)
        passed false e b later = later

        go : (a < k) ⊎ (k ≤ a) → (a < k → IsFirstFailing P (blocks rest) y)
            → IsFirstFailing P (blocks (cond (test a) (a ∷ rest) rest)) y
        go (inl b) later = passed (test a) refl b (later b)
        go (inr b) later =
            subst (λ (v : Bool). IsFirstFailing P (blocks (cond v (a ∷ rest) rest)) y)
            (sym (ap test same ∙ t))
            (subst (λ (xs : List A). IsFirstFailing P xs y) (sym (more a rest))
            (failing-front P (block a) (blocks rest) y
            (subst (λ (s : ℕ). IsFirstFailing P (block s) y) (sym same) f)))
          where
            same : a ≡ k
            same = omega (arith, l, b)

-- a test whose negation passes fails
not-passed : (v : Bool) → not v ≡ true → v ≡ false
not-passed true e = absurd (let no : ⊥ = cc in no)
not-passed false e = refl

-- of two equal flags, a place is open by one if it is open by the other
pub open-alike : (i : ℕ) (a b : Bool) → (i ≡ 0) ⊎ (a ≡ false) → a ≡ b → (i ≡ 0) ⊎ (b ≡ false)
open-alike i a b (inl e) f = inl e
open-alike i a b (inr e) f = inr (sym f ∙ e)

-- the coefficients of place 0 of a symbol, and of its places that aren't closed
module _ (P : Coefficient → Type 0) (symbol n : ℕ) (is_closed : ℕ → Bool) where
  -- if P holds of place 0 and of each open place, it holds of all these coefficients
  pub places-hold : ((i : ℕ) → i < n + 1 → (i ≡ 0) ⊎ (is_closed i ≡ false) → P (coefficient_at symbol i))
      → AllByRecursion P (map (coefficient_at symbol) (0 ∷ filter (λ i. not (is_closed i)) (range_with_len 1 n)))
  places-hold h = (
    h 0 (omega arith) (inl refl),
    blocks-hold (λ i. not (is_closed i)) P (map (coefficient_at symbol)) (λ i. coefficient_at symbol i ∷ []) refl
        (λ s ss. refl) 1 n
        (λ i a b t. (h i (omega (arith, b)) (inr (not-passed (is_closed i) t)), tt)),
  )

  -- if P holds of place 0 and each open place before place k, but not of k, the coefficient of k is the first failing
  -- one
  pub places-fail : (k : ℕ) → k < n + 1
      → ((i : ℕ) → i < k → (i ≡ 0) ⊎ (is_closed i ≡ false) → P (coefficient_at symbol i))
      → (k ≡ 0) ⊎ (is_closed k ≡ false) → ¬ (P (coefficient_at symbol k))
      → IsFirstFailing P (map (coefficient_at symbol) (0 ∷ filter (λ i. not (is_closed i)) (range_with_len 1 n)))
      (coefficient_at symbol k)
  places-fail zero l h o f = inl (f, refl)
  places-fail (suc k) l h (inl e) f = absurd (omega (arith, e))
  places-fail (suc k) l h (inr o) f = inr (
    h 0 (omega arith) (inl refl),
    blocks-fail (λ i. not (is_closed i)) P (map (coefficient_at symbol)) (λ i. coefficient_at symbol i ∷ []) refl
        (λ s ss. refl) 1 n (suc k) (coefficient_at symbol (suc k)) (omega arith) (omega (arith, l))
        (λ i a b t. (h i b (inr (not-passed (is_closed i) t)), tt)) (ap not o) (inl (f, refl)),
  )

-- what leaves a place less what arrives there, summed rule by rule over a set
module _ (rule : ℕ → RuleForms) (c : Coefficient) (set : List ℕ) (zs : List ScaledPoint) where
  -- the sum from position i on is the share of the rule there plus the sum from the next position on
  pub net-next : (i d : ℕ) (e : ScaledPoint) → length zs ≡ length set → i < length set
      → net rule c (drop i set) (drop i zs)
      ≡ (value_at (at_source (rule (get_or set i d)) c) (get_or zs i e)
      -ℤ value_at (at_target (rule (get_or set i d)) c) (get_or zs i e))
      +ℤ net rule c (drop (i + 1) set) (drop (i + 1) zs)
  net-next i d e l h =
      ap (λ (ts : List ℕ). net rule c ts (drop i zs)) (drop_more set i d h)
      ∙ ap (λ (ys : List ScaledPoint). net rule c (get_or set i d ∷ drop (i + 1) set) ys)
      (drop_more zs i e (omega (arith, l, h)))

  -- the sum over no rules is 0
  pub net-end : (i : ℕ) → length set ≤ i → net rule c (drop i set) (drop i zs) ≡ pos 0
  net-end i h = ap (λ (ts : List ℕ). net rule c ts (drop i zs)) (drop_all i set h)

module _ (p : Program) (t : ℕ) (is : IsRule p t) where
  -- the target of a rule of the program
  pub target-is : target_of p t ≡ Some (forms_at p t).target
  target-is = go t is.rule is.numbered
    where
      go : (u : ℕ) (r : Rule) → rule_at p u ≡ Some r → target_of p u ≡ Some (forms_at p u).target
      go zero r e = absurd (let no : ⊥ = cc in no)
      go (suc u) r e = subst (λ (o : Option Rule). target_in o ≡ Some (forms_in o).target) (sym e) refl

  module _ (symbol place : ℕ) (z : ScaledPoint) where
    -- what arrives at the symbol that the rule leads to
    pub arrives : (s : ℕ) → Some s ≡ target_of p t → s ≡ symbol
        → value_at (after_rule (forms_at p t) place) z
        ≡ value_at (at_target (forms_at p t) (coefficient_at symbol place)) z
    arrives s e f =
        ap (λ (v : Bool). value_at (if v then after_rule (forms_at p t) place else zero_form) z)
        (sym (eq-eqb symbol (forms_at p t).target (sym f ∙ same)))
      where
        same : s ≡ (forms_at p t).target
        same = let g : Some s ≡ Some (forms_at p t).target = e ∙ target-is in cc

-- equal new values have equal values at a point
pub after-same : (r s : RuleForms) (place : ℕ) → r.new_values ≡ s.new_values → after_rule r place ≡ after_rule s place
after-same r s zero e = refl
after-same r s (suc i) e = ap (λ (fs : List Form). slice_index_or fs i zero_form) e
