-- Weighted sums of a function's coefficients at the places of a set.
use Rattle.std.proofs.Common.{◌≡◌, ℕ, zero, suc, ◌+◌, ◌<◌, ◌≤◌, ap, arith, refl, sym, ◌∙◌, subst, Bool, true, false}
use Rattle.std.proofs.Common.{not, cond, List, [], ◌∷◌, ◌++◌, map, filter, ◌⊎◌, inl, inr, ◌≢◌, if◌then◌else◌, nat_eq}
use Rattle.std.specs.Prelude.{ℤ, pos, ◌+ℤ◌}
use Rattle.std.specs.List.{range_with_len}
use Rattle.std.proofs.lemmas.Int.{ints}
use Rattle.std.proofs.lemmas.Bool.{eq-eqb, ne_eqb, cases_lt, true≢false}
use Rattle.linear_forms.specs.int_laws.Sums.{sum_to}
use Rattle.linear_forms.proofs.int_laws.SumLaws.{sum_to-same}
use Rattle.linear_forms.specs.Forms.{Form, at}
use Rattle.linear_forms.specs.RuleQuestions.{RankedSet, Coefficient, has_symbol, symbols_of_set, open_places}
use Rattle.linear_forms.specs.RuleQuestions.{coefficients}
use Rattle.linear_forms.proofs.ListLaws.{sum_to-first}
use Rattle.rule_forms.specs.Ranking.{Function, Fits}
use Rattle.rule_forms.proofs.Totals.{total, total-append}

-- the number of a form at a place; place 0 is the constant
abbrev pub number_at : Form → ℕ → ℤ
number_at f zero = f.constant
number_at f (suc j) = at f.coefs j

-- the number of a function that belongs to a coefficient
abbrev pub number_of : Function → Coefficient → ℤ
number_of f c = number_at (f c.symbol) c.place

-- the weighted number of a coefficient if it belongs to the symbol, else 0
abbrev pub at_symbol : ℕ → (ℕ → ℤ → ℤ) → Function → Coefficient → ℤ
at_symbol s w f c = if nat_eq c.symbol s then w c.place (number_of f c) else pos 0

-- the sum over the places that aren't shut equals the sum over all places, where a shut place contributes 0
open-total : (b : RankedSet) (f : Function) (s : ℕ) (w : ℕ → ℤ → ℤ) (k a n : ℕ) → Fits b f
    → ((i : ℕ) → w i (pos 0) ≡ pos 0) → k ≡ suc a
    → total (λ i. w i (number_at (f s) i)) (filter (λ i. not (b.shut s i)) (range_with_len k n))
    ≡ sum_to n (λ j. w (suc (a + j)) (at (f s).coefs (a + j)))
open-total b f s w k a zero fits none e = refl
open-total b f s w k a (suc n) fits none e =
    go (b.shut s k) refl
    (open-total b f s w (k + 1) (suc a) n fits none (omega (arith, e)) ∙ sum_to-same n _ _
    (λ j l. ap (λ (m : ℕ). w (suc m) (at (f s).coefs m)) (next j)))
    ∙ sym (sum_to-first n (λ j. w (suc (a + j)) (at (f s).coefs (a + j))))
  where
    next : (j : ℕ) → suc a + j ≡ a + suc j
    next j = omega arith

    first : w k (number_at (f s) k) ≡ w (suc (a + 0)) (at (f s).coefs (a + 0))
    first = ap (λ (m : ℕ). w m (number_at (f s) m)) e ∙ ap (λ (m : ℕ). w (suc m) (at (f s).coefs m)) (plus_zero a)
      where
        plus_zero : (a : ℕ) → a ≡ a + 0
        plus_zero a = omega arith

    both : (x y u v : ℤ) → x ≡ u → y ≡ v → x +ℤ y ≡ u +ℤ v
    both x y u v g h = omega (arith, ints, g, h)

    go : (t : Bool) → b.shut s k ≡ t
        → total (λ i. w i (number_at (f s) i)) (filter (λ i. not (b.shut s i)) (range_with_len (k + 1) n))
        ≡ sum_to n (λ j. w (suc (a + suc j)) (at (f s).coefs (a + suc j)))
        → total (λ i. w i (number_at (f s) i)) (cond (not t)
        (k ∷ filter (λ i. not (b.shut s i)) (range_with_len (k + 1) n))
        (filter (λ i. not (b.shut s i)) (range_with_len (k + 1) n)))
        ≡ w (suc (a + 0)) (at (f s).coefs (a + 0)) +ℤ sum_to n (λ j. w (suc (a + suc j)) (at (f s).coefs (a + suc j)))
    go false h rest = both _ _ _ _ first rest
    go true h rest = left_out _ _ _ (sym first ∙ shut) rest
      where
        left_out : (x y u : ℤ) → u ≡ pos 0 → x ≡ y → x ≡ u +ℤ y
        left_out x y u g h = omega (arith, ints, g, h)

        shut : w k (number_at (f s) k) ≡ pos 0
        shut = ap (w k) (ap (number_at (f s)) e ∙ fits.closed s a (ap (b.shut s) (sym e) ∙ h)) ∙ none k

-- the weighted sum of the numbers at a symbol: those of its places, and its constant
abbrev pub place_sum : RankedSet → Function → (ℕ → ℤ → ℤ) → ℕ → ℤ
place_sum b f w s = sum_to (b.arity s) (λ j. w (suc j) (at (f s).coefs j)) +ℤ w 0 (f s).constant

-- the coefficients of one symbol add up to that sum
pub block-total : (b : RankedSet) (f : Function) (s : ℕ) (w : ℕ → ℤ → ℤ) → Fits b f → ((i : ℕ) → w i (pos 0) ≡ pos 0)
    → total (λ i. w i (number_at (f s) i)) (open_places b s ++ 0 ∷ []) ≡ place_sum b f w s
block-total b f s w fits none =
    total-append _ (open_places b s) (0 ∷ [])
    ∙ both _ _ _ (open-total b f s w 1 0 (b.arity s) fits none refl
    ∙ sum_to-same (b.arity s) _ _ (λ j l. ap (λ (m : ℕ). w (suc m) (at (f s).coefs m)) (from_zero j)))
  where
    both : (x y u : ℤ) → x ≡ u → x +ℤ (y +ℤ pos 0) ≡ u +ℤ y
    both x y u g = omega (arith, ints, g)

    from_zero : (j : ℕ) → 0 + j ≡ j
    from_zero j = omega arith

-- the coefficients of other symbols add up to 0
other-total : (f : Function) (s t : ℕ) (w : ℕ → ℤ → ℤ) (places : List ℕ) → t ≢ s
    → total (at_symbol s w f) (map (λ i. record { symbol = t; place = i }) places) ≡ pos 0
other-total f s t w [] d = refl
other-total f s t w (i ∷ places) d =
    both _ _ (ap (λ b. if b then w i (number_at (f t) i) else pos 0) (ne_eqb t s d)) (other-total f s t w places d)
  where
    both : (a b : ℤ) → a ≡ pos 0 → b ≡ pos 0 → a +ℤ b ≡ pos 0
    both a b e f = omega (arith, ints, e, f)

-- the coefficients of the symbol itself add up to its numbers
own-total : (f : Function) (s : ℕ) (w : ℕ → ℤ → ℤ) (places : List ℕ)
    → total (at_symbol s w f) (map (λ i. record { symbol = s; place = i }) places)
    ≡ total (λ i. w i (number_at (f s) i)) places
own-total f s w [] = refl
own-total f s w (i ∷ places) =
    both _ _ _ _ (ap (λ b. if b then w i (number_at (f s) i) else pos 0) (eq-eqb s s refl)) (own-total f s w places)
  where
    both : (x y u v : ℤ) → x ≡ u → y ≡ v → x +ℤ y ≡ u +ℤ v
    both x y u v g h = omega (arith, ints, g, h)

-- the coefficients of symbols from a on add up to 0 for a symbol before a
before-total : (b : RankedSet) (f : Function) (s : ℕ) (w : ℕ → ℤ → ℤ) (test : ℕ → Bool) (a n : ℕ) → s < a
    → total (at_symbol s w f) (coefficients b (filter test (range_with_len a n))) ≡ pos 0
before-total b f s w test a zero l = refl
before-total b f s w test a (suc n) l = go (test a) (before-total b f s w test (a + 1) n (omega (arith, l)))
  where
    go : (t : Bool) → total (at_symbol s w f) (coefficients b (filter test (range_with_len (a + 1) n))) ≡ pos 0
        → total (at_symbol s w f) (coefficients b (cond t (a ∷ filter test (range_with_len (a + 1) n))
        (filter test (range_with_len (a + 1) n)))) ≡ pos 0
    go false rest = rest
    go true rest =
        total-append _ (map (λ i. record {
          symbol =
              a;
          place = i;
        }) (open_places b a ++ 0 ∷ [])) (coefficients b (filter test (range_with_len (a + 1) n)))
        ∙ both _ _ (other-total f s a w (open_places b a ++ 0 ∷ []) (λ e. omega (arith, e, l))) rest
      where
        both : (a b : ℤ) → a ≡ pos 0 → b ≡ pos 0 → a +ℤ b ≡ pos 0
        both a b e f = omega (arith, ints, e, f)

-- for a symbol of the range that passes the test, the coefficients add up to its sum
range-total : (b : RankedSet) (f : Function) (s : ℕ) (w : ℕ → ℤ → ℤ) (test : ℕ → Bool) (a n : ℕ) → Fits b f
    → ((i : ℕ) → w i (pos 0) ≡ pos 0)
    → test s ≡ true → a ≤ s → s < a + n → total (at_symbol s w f) (coefficients b (filter test (range_with_len a n)))
    ≡ place_sum b f w s
range-total b f s w test a zero fits none passes l m = absurd (omega (arith, l, m))
range-total b f s w test a (suc n) fits none passes l m =
    which (cases_lt a s) (λ k. range-total b f s w test (a + 1) n fits none passes k (omega (arith, m)))
  where
    rest : List Coefficient
    rest = coefficients b (filter test (range_with_len (a + 1) n))

    both : (x y u : ℤ) → x ≡ u → y ≡ pos 0 → x +ℤ y ≡ u
    both x y u g h = omega (arith, ints, g, h)

    behind : (x y u : ℤ) → x ≡ pos 0 → y ≡ u → x +ℤ y ≡ u
    behind x y u g h = omega (arith, ints, g, h)

    here : (t : Bool) → test a ≡ t → a ≡ s
        → total (at_symbol s w f) (coefficients b (cond t (a ∷ filter test (range_with_len (a + 1) n))
        (filter test (range_with_len (a + 1) n)))) ≡ place_sum b f w s
    here true h e =
        total-append _ (map (λ i. record {
          symbol =
              a;
          place = i;
        }) (open_places b a ++ 0 ∷ [])) (coefficients b (filter test (range_with_len (a + 1) n)))
        ∙ both _ _ _
        (subst (λ (t : ℕ). total (at_symbol s w f) (map (λ i. record { symbol = t; place = i })
        (open_places b t ++ 0 ∷ [])) ≡ place_sum b f w s) (sym e)
        (own-total f s w (open_places b s ++ 0 ∷ []) ∙ block-total b f s w fits none))
        (before-total b f s w test (a + 1) n (omega (arith, e)))
    here false h e = absurd (true≢false (sym passes ∙ (ap test (sym e) ∙ h)))

    there : (t : Bool) → a ≢ s → total (at_symbol s w f) (coefficients b (filter test (range_with_len (a + 1) n)))
        ≡ place_sum b f w s
        → total (at_symbol s w f) (coefficients b (cond t (a ∷ filter test (range_with_len (a + 1) n))
        (filter test (range_with_len (a + 1) n)))) ≡ place_sum b f w s
    there true d k =
        total-append _ (map (λ i. record {
          symbol =
              a;
          place = i;
        }) (open_places b a ++ 0 ∷ [])) (coefficients b (filter test (range_with_len (a + 1) n)))
        ∙ behind _ _ _ (other-total f s a w (open_places b a ++ 0 ∷ []) d) k
    there false d k = k

    which : (a < s) ⊎ (s ≤ a) → (a + 1 ≤ s → total (at_symbol s w f)
        (coefficients b (filter test (range_with_len (a + 1) n))) ≡ place_sum b f w s)
        → total (at_symbol s w f) (coefficients b (cond (test a) (a ∷ filter test (range_with_len (a + 1) n))
        (filter test (range_with_len (a + 1) n)))) ≡ place_sum b f w s
    which (inl k) h = there (test a) (λ e. omega (arith, e, k)) (h (omega (arith, k)))
    which (inr k) h = here (test a) refl (omega (arith, k, l))

-- for a symbol of the set, the coefficients of the set add up to its sum
pub symbol-total : (b : RankedSet) (f : Function) (s : ℕ) (w : ℕ → ℤ → ℤ) → Fits b f → ((i : ℕ) → w i (pos 0) ≡ pos 0)
    → has_symbol b s ≡ true → s < b.symbols → total (at_symbol s w f) (coefficients b (symbols_of_set b))
    ≡ place_sum b f w s
symbol-total b f s w fits none has l =
    range-total b f s w (has_symbol b) 0 b.symbols fits none has (omega arith) (omega (arith, l))
