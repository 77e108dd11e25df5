-- The function given by the parameters has coefficient 0 at every shut place.
use Rattle.std.proofs.Common.{◌≡◌, ℕ, suc, ◌<◌, ◌≤◌, ap, arith, refl, sym, ◌∙◌, Bool, true, false, not, cond, List, []}
use Rattle.std.proofs.Common.{◌∷◌, ◌++◌, map, filter, ◌⊎◌, inl, inr, ◌≢◌, nat_eq}
use Rattle.std.specs.Prelude.{ℤ, pos, ◌+ℤ◌}
use Rattle.std.specs.List.{All, range_with_len}
use Rattle.std.proofs.lemmas.Int.{ints}
use Rattle.std.proofs.lemmas.Bool.{cases_lt, true≢false}
use Rattle.std.proofs.lemmas.Bool.Decides.{eqb_tells}
use Rattle.std.proofs.lemmas.List.Elements.{All-nil, All-cons, All-append, All-map, All-head, All-tail}
use Rattle.linear_forms.specs.Forms.{at}
use Rattle.linear_forms.specs.RuleQuestions.{RankedSet, Coefficient, symbols_of_set, open_places, coefficients}
use Rattle.rule_forms.specs.Ranking.{Fits}
use Rattle.rule_forms.specs.RankLaws.{coefficient, function_of}
use Rattle.rule_forms.proofs.Forms.{at-listed, at-past}
use Rattle.rule_forms.proofs.Losses.{share, share-elsewhere, share-other}
use Rattle.rule_forms.proofs.RankGoals.{coefficients_of}

-- a coefficient belongs to a constant, or to a place that isn't shut
IsOpen : RankedSet → Coefficient → Type 0
IsOpen b c = (c.place ≡ 0) ⊎ (b.shut c.symbol c.place ≡ false)

-- filtering out the shut places leaves only places that aren't shut
unshut : (b : RankedSet) (s : ℕ) (places : List ℕ) → All (λ i. IsOpen b (record { symbol = s; place = i }))
    (filter (λ i. not (b.shut s i)) places)
unfolding IsOpen
unshut b s [] = All-nil (λ i. IsOpen b (record { symbol = s; place = i }))
unshut b s (i ∷ places) = go (b.shut s i) refl (unshut b s places)
  where
    go : (t : Bool) → b.shut s i ≡ t → All (λ j. IsOpen b (record { symbol = s; place = j }))
        (filter (λ j. not (b.shut s j)) places)
        → All (λ j. IsOpen b (record { symbol = s; place = j }))
        (cond (not t) (i ∷ filter (λ j. not (b.shut s j)) places) (filter (λ j. not (b.shut s j)) places))
    go true e h = h
    go false e h =
        All-cons (λ j. IsOpen b (record { symbol = s; place = j })) i (filter (λ j. not (b.shut s j)) places) (inr e) h

-- all coefficients of the set belong to constants or to places that aren't shut
are-open : (b : RankedSet) (ss : List ℕ) → All (IsOpen b) (coefficients b ss)
unfolding IsOpen
are-open b [] = All-nil (IsOpen b)
are-open b (s ∷ ss) =
    All-append (IsOpen b) (map (λ i. record { symbol = s; place = i }) (open_places b s ++ 0 ∷ [])) (coefficients b ss)
    (All-map (IsOpen b) (λ i. record { symbol = s; place = i }) (open_places b s ++ 0 ∷ [])
    (All-append (λ i. IsOpen b (record { symbol = s; place = i })) (open_places b s) (0 ∷ [])
    (unshut b s (range_with_len 1 (b.arity s)))
    (All-cons (λ i. IsOpen b (record { symbol = s; place = i })) 0 [] (inl refl)
    (All-nil (λ i. IsOpen b (record { symbol = s; place = i }))))))
    (are-open b ss)

-- a shut place has no parameter
shut-none : (b : RankedSet) (cs : List Coefficient) (v : ℕ → ℤ) (s j : ℕ) → All (IsOpen b) cs → b.shut s (suc j) ≡ true
    → coefficient cs v s (suc j) ≡ pos 0
unfolding IsOpen
shut-none b [] v s j h e = refl
shut-none b (c ∷ cs) v s j h e =
    both _ _ (own (eqb_tells c.symbol s)) (shut-none b cs (λ p. v (suc p)) s j (All-tail (IsOpen b) c cs h) e)
  where
    both : (a b : ℤ) → a ≡ pos 0 → b ≡ pos 0 → a +ℤ b ≡ pos 0
    both a b e f = omega (arith, ints, e, f)

    other : c.symbol ≡ s → (c.place ≡ 0) ⊎ (b.shut c.symbol c.place ≡ false) → c.place ≡ suc j → ⊥
    other f (inl g) k = omega (arith, g, k)
    other f (inr g) k = true≢false (sym e ∙ (ap (λ t. b.shut t (suc j)) (sym f) ∙ (ap (b.shut c.symbol) (sym k) ∙ g)))

    own : ((nat_eq c.symbol s ≡ true) × (c.symbol ≡ s)) ⊎ ((nat_eq c.symbol s ≡ false) × (c.symbol ≢ s))
        → share c (v 0) s (suc j) ≡ pos 0
    own (inl f) = share-other c (v 0) s (suc j) (other f.1 (All-head (IsOpen b) c cs h))
    own (inr f) = share-elsewhere c (v 0) s (suc j) f.0

-- the function has coefficient 0 at every shut place and beyond the symbol's places
pub function-fits : (b : RankedSet) (v : ℕ → ℤ) → Fits b (function_of b v)
function-fits b v = record {
  closed = λ s j e. closed s j e (cases_lt j (b.arity s));
  places = λ s j l. at-past (b.arity s) _ j l;
}
  where
    closed : (s j : ℕ) → b.shut s (suc j) ≡ true → (j < b.arity s) ⊎ (b.arity s ≤ j)
        → at (function_of b v s).coefs j ≡ pos 0
    closed s j e (inl l) = at-listed (b.arity s) (λ i. coefficient (coefficients_of b) v s (suc i)) j l
        ∙ shut-none b (coefficients_of b) v s j (are-open b (symbols_of_set b)) e
    closed s j e (inr l) = at-past (b.arity s) (λ i. coefficient (coefficients_of b) v s (suc i)) j l
