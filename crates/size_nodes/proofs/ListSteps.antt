-- A loop over a list: the results so far and those of the remaining elements are all results.
use Rattle.std.proofs.Common.{◌≡◌, ℕ, ◌+◌, ◌<◌, List, ◌∷◌, ◌++◌, length, drop, get_or, sym, ap, ◌∙◌}
use Rattle.std.proofs.lemmas.List.{drop_more, append_assoc}

module _ {X A : Type 0} (F : List X → List A) (g : X → List A) where
  -- the results so far, with those of one more element
  pub one_more : ((x : X) (ys : List X) → F (x ∷ ys) ≡ g x ++ F ys) → (xs : List X) (i : ℕ) (x : X) (done more whole : List A)
      → i < length xs → x ≡ get_or xs i x → done ++ F (drop i xs) ≡ whole → more ≡ done ++ g x
      → more ++ F (drop (i + 1) xs) ≡ whole
  one_more h xs i x done more whole low e kept em =
      ap (λ (ys : List A). ys ++ F (drop (i + 1) xs)) em
      ∙ (append_assoc done (g x) (F (drop (i + 1) xs))
      ∙ (ap (λ (ys : List A). done ++ ys) (sym (h x (drop (i + 1) xs)) ∙ ap (λ (y : X). F (y ∷ drop (i + 1) xs)) e
      ∙ ap F (sym (drop_more xs i x low)))
      ∙ kept))
