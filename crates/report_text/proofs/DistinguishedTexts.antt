-- Texts that determine their subject: if two of them, each followed by further text, are the same as a whole, their
-- subjects are the same.
use Rattle.std.proofs.Common.{◌≡◌, ℕ, Bool, true, List, [], ◌∷◌, ◌++◌, drop, sym, ◌∙◌, ap, append_assoc}
use Rattle.std.specs.Prelude.{⊤}
use Rattle.std.specs.List.{list_all}
use Rattle.its_model.specs.text_core.Prefixes.{prefix, rest}
use Rattle.its_model.proofs.text_core.PrefixLaws.{Stops, prefix-append, rest-append, rest-stops}

-- the texts of elements that fit determine the element and where the text ends, if the text after it may follow
pub record Determines {X : Type 0} (Fits : X → Type 0) (text : X → List ℕ) (Ends : List ℕ → Type 0) : Type 0 where
  pub each : (x y : X) (u v : List ℕ) → Fits x → Fits y → Ends u → Ends v → text x ++ u ≡ text y ++ v → (x ≡ y) × (u ≡ v)

-- any text may follow
abbrev pub Any : List ℕ → Type 0
Any u = ⊤

-- the bytes before the first one that fails a test
pub same_front : (test : ℕ → Bool) (xs ys u v : List ℕ) → list_all test xs ≡ true → list_all test ys ≡ true → Stops test u → Stops test v
    → xs ++ u ≡ ys ++ v → (xs ≡ ys) × (u ≡ v)
same_front test xs ys u v p q s t e = (
  sym (prefix-append test xs u p s) ∙ (ap (prefix test) e ∙ prefix-append test ys v q t),
  sym (rest-stops test u s) ∙ (sym (rest-append test xs u p) ∙ (ap (rest test) e ∙ (rest-append test ys v q ∙ rest-stops test v t))),
)

-- texts that are the same after the same words are the same
pub same_after_word : (w u v : List ℕ) → w ++ u ≡ w ++ v → u ≡ v
same_after_word [] u v e = e
same_after_word (c ∷ w) u v e = same_after_word w u v (ap (drop 1) e)

-- the text after the same words, if more follows
pub after_word : (w x y u v : List ℕ) → (w ++ x) ++ u ≡ (w ++ y) ++ v → x ++ u ≡ y ++ v
after_word w x y u v e = same_after_word w (x ++ u) (y ++ v) (sym (append_assoc w x u) ∙ (e ∙ append_assoc w y v))

-- the text after three texts that are the same
pub after_three_words : (a b c x y u v : List ℕ) → (a ++ (b ++ (c ++ x))) ++ u ≡ (a ++ (b ++ (c ++ y))) ++ v → x ++ u ≡ y ++ v
after_three_words a b c x y u v e = after_word c x y u v (after_word b (c ++ x) (c ++ y) u v (after_word a (b ++ (c ++ x)) (b ++ (c ++ y)) u v e))

module _ {X : Type 0} {Fits : X → Type 0} {text : X → List ℕ} {Ends : List ℕ → Type 0} (determined : Determines Fits text Ends) where
  -- a text that is determined is determined after the same words
  pub determined_behind : (w : List ℕ) → Determines Fits (λ x. w ++ text x) Ends
  determined_behind w = record { each = λ x y u v p q s t e. determined.each x y u v p q s t (after_word w (text x) (text y) u v e) }

  -- a text that is determined is determined before the same words
  pub determined_before : (w : List ℕ) (After : List ℕ → Type 0) → ((u : List ℕ) → After u → Ends (w ++ u)) → Determines Fits (λ x. text x ++ w) After
  determined_before w After leads = record {
    each = λ x y u v p q s t e.
        let r = determined.each x y (w ++ u) (w ++ v) p q (leads u s) (leads v t) (sym (append_assoc (text x) w u) ∙ (e ∙ append_assoc (text y) w v)) in
        (r.0, same_after_word w u v r.1);
  }

  -- two texts, one after the other, are determined together
  pub determined_both : {Y : Type 0} {Fit : Y → Type 0} {other : Y → List ℕ} {After : List ℕ → Type 0} → Determines Fit other After
      → ((y : Y) (u : List ℕ) → Fit y → After u → Ends (other y ++ u)) → Determines (λ (z : X × Y). Fits z.0 × Fit z.1) (λ (z : X × Y). text z.0 ++ other z.1) After
  determined_both {Y} {Fit} {other} {After} also leads = record {
    each = λ x y u v p q s t e.
        let r = determined.each x.0 y.0 (other x.1 ++ u) (other y.1 ++ v) p.0 q.0 (leads x.1 u p.1 s) (leads y.1 v q.1 t)
        (sym (append_assoc (text x.0) (other x.1) u) ∙ (e ∙ append_assoc (text y.0) (other y.1) v)) in
        let l = also.each x.1 y.1 u v p.1 q.1 s t r.1 in
        (λ i. (r.0 i, l.0 i), l.1);
  }
