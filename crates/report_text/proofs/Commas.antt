-- Lists with commas between their elements are determined by their texts.
use Rattle.std.proofs.Common.{◌≡◌, ℕ, ◌<◌, Bool, true, false, ◌||◌, ◌==◌, List, [], ◌∷◌, ◌++◌, length, map, drop, codes}
use Rattle.std.proofs.Common.{refl, sym, ◌∙◌, ap, subst, append_assoc, arith}
use Rattle.std.specs.List.{list_all, AllByRecursion}
use Rattle.std.proofs.lemmas.Bool.{and_parts}
use Rattle.its_model.proofs.text_core.PrefixLaws.{Stops}
use Rattle.report_text.specs.Pieces.{with_commas_before, with_commas}
use Rattle.report_text.proofs.DistinguishedTexts.{Determines}
use Rattle.report_text.proofs.Digits.{is_number_byte}

-- the bytes of lists of numbers
abbrev pub is_list_byte : ℕ → Bool
is_list_byte b = is_number_byte b || (b == 44)

-- a text that ends a list ends a number
stops_number : (u : List ℕ) → Stops is_list_byte u → Stops is_number_byte u
stops_number [] s = tt
stops_number (c ∷ u) s = go (is_number_byte c) s
  where
    go : (v : Bool) → v || (c == 44) ≡ false → v ≡ false
    go true h = h
    go false h = refl

-- no comma follows a list
no_comma : (u w : List ℕ) → Stops is_list_byte u → u ≡ 44 ∷ w → ⊥
no_comma u w s e = let h : true ≡ false = subst (Stops is_list_byte) e s in cc

-- no byte of a number follows a list
no_byte : (u x w : List ℕ) → Stops is_list_byte u → 0 < length x → list_all is_number_byte x ≡ true → u ≡ x ++ w → ⊥
no_byte u [] w s some all e = absurd (omega (arith, some))
no_byte u (c ∷ x) w s some all e =
    let is : is_number_byte c ≡ true = (and_parts (is_number_byte c) (list_all is_number_byte x) all).0 in
    let h : is_number_byte c || (c == 44) ≡ false = subst (Stops is_list_byte) e s in
    let g : true ≡ false = ap (λ (b : Bool). b || (c == 44)) (sym is) ∙ h in
    cc

module _ {X : Type 0} {Fits : X → Type 0} {text : X → List ℕ} (determined : Determines Fits text (Stops is_number_byte)) (counted : (x : X) → list_all is_number_byte (text x) ≡ true)
    (some : (x : X) → Fits x → 0 < length (text x)) where
  -- an element ends where the next one begins or the list ends
  ends : (xs : List X) (u : List ℕ) → Stops is_list_byte u → Stops is_number_byte (with_commas_before (map text xs) ++ u)
  ends [] u s = stops_number u s
  ends (x ∷ xs) u s = refl

  -- the elements after the first are determined
  later_elements_determined : (xs ys : List X) (u v : List ℕ) → AllByRecursion Fits xs → AllByRecursion Fits ys → Stops is_list_byte u → Stops is_list_byte v
      → with_commas_before (map text xs) ++ u ≡ with_commas_before (map text ys) ++ v → (xs ≡ ys) × (u ≡ v)
  later_elements_determined [] [] u v p q s t e = (refl, e)
  later_elements_determined [] (y ∷ ys) u v p q s t e = absurd (no_comma u _ s e)
  later_elements_determined (x ∷ xs) [] u v p q s t e = absurd (no_comma v _ t (sym e))
  later_elements_determined (x ∷ xs) (y ∷ ys) u v p q s t e =
      let r = determined.each x y (with_commas_before (map text xs) ++ u) (with_commas_before (map text ys) ++ v) p.0 q.0 (ends xs u s) (ends ys v t)
      (sym (append_assoc (text x) (with_commas_before (map text xs)) u) ∙ (ap (drop 2) e ∙ append_assoc (text y) (with_commas_before (map text ys)) v)) in
      let l = later_elements_determined xs ys u v p.1 q.1 s t r.1 in
      (λ i. r.0 i ∷ l.0 i, l.1)

  -- two lists with one text are equal
  list_elements_determined : (xs ys : List X) (u v : List ℕ) → AllByRecursion Fits xs → AllByRecursion Fits ys → Stops is_list_byte u → Stops is_list_byte v
      → with_commas (map text xs) ++ u ≡ with_commas (map text ys) ++ v → (xs ≡ ys) × (u ≡ v)
  list_elements_determined [] [] u v p q s t e = (refl, e)
  list_elements_determined [] (y ∷ ys) u v p q s t e =
      absurd (no_byte u (text y) (with_commas_before (map text ys) ++ v) s (some y q.0) (counted y) (e ∙ append_assoc (text y) (with_commas_before (map text ys)) v))
  list_elements_determined (x ∷ xs) [] u v p q s t e =
      absurd (no_byte v (text x) (with_commas_before (map text xs) ++ u) t (some x p.0) (counted x) (sym e ∙ append_assoc (text x) (with_commas_before (map text xs)) u))
  list_elements_determined (x ∷ xs) (y ∷ ys) u v p q s t e = later_elements_determined (x ∷ xs) (y ∷ ys) u v p q s t (ap (λ (w : List ℕ). codes ", " ++ w) e)

  -- a list is determined by its text
  pub list_determined : Determines (AllByRecursion Fits) (λ xs. with_commas (map text xs)) (Stops is_list_byte)
  list_determined = record { each = list_elements_determined }
