-- The first word decides the first item.
use Rattle.std.proofs.Common.{◌≡◌, true, false, List, [], ◌∷◌, ◌++◌, Option, Some, None, IsTrue, IsFalse, refl, sym}
use Rattle.std.proofs.Common.{◌∙◌, ap, subst, get_or, arith, codes}
use Rattle.command_line.specs.Lines.{Word, Words, is_plain, is_value, Item, OptionThenValue, OptionWithValue}
use Rattle.command_line.specs.Lines.{Positional, AreItems, words_of_items}
use Rattle.command_line.specs.Lines.{values_of, positionals_of, AreWordsWith}
use Rattle.command_line.specs.Steps.{IsOther, AreValueThenWordsWith}

-- the first word is one of these
pub data FirstWordKind (word : Word) (words values positionals : Words) : Type 0 where
  Ended : word ≡ codes "--" → values ≡ [] → positionals ≡ words → FirstWordKind word words values positionals
  WithNext : word ≡ codes "--pivots" → AreValueThenWordsWith words values positionals
      → FirstWordKind word words values positionals
  Whole : (more : Words) (v : Word) → word ≡ codes "--pivots=" ++ v → IsTrue (is_value v)
      → AreWordsWith words more positionals
      → values ≡ v ∷ more → FirstWordKind word words values positionals
  Alone : (more : Words) → IsTrue (is_plain word) → AreWordsWith words values more → positionals ≡ word ∷ more
      → FirstWordKind word words values positionals

-- the values and positionals of the words of these items
pub gives_of : (items : List Item) (after_end : Option Words) → AreItems items
    → AreWordsWith (words_of_items items after_end) (values_of items) (positionals_of items after_end)
gives_of items after_end proper = record {
  items = items;
  after_end = after_end;
  proper = proper;
  spelled = refl;
  has_values = refl;
  has_positionals = refl;
}

-- words, values and positionals that are equal to given ones are given
pub gives_along : (xs ys vs ws ps qs : Words) → xs ≡ ys → vs ≡ ws → ps ≡ qs → AreWordsWith ys ws qs
    → AreWordsWith xs vs ps
gives_along xs ys vs ws ps qs e f g h = record {
  items = h.items;
  after_end = h.after_end;
  proper = h.proper;
  spelled = e ∙ h.spelled;
  has_values = f ∙ h.has_values;
  has_positionals = g ∙ h.has_positionals;
}

-- the first word is one of these
first_of_items : (word : Word) (words values positionals : Words) (items : List Item) (after_end : Option Words)
    → AreItems items
    → word ∷ words ≡ words_of_items items after_end → values ≡ values_of items
    → positionals ≡ positionals_of items after_end
    → FirstWordKind word words values positionals
first_of_items word words values positionals [] None proper e v p = cc
first_of_items word words values positionals [] (Some after_end) proper e v p =
    let head : word ≡ codes "--" = cc in
    let tail : positionals ≡ words = cc in
    Ended head v tail
first_of_items word words values positionals (OptionThenValue x ∷ items) after_end proper e v p =
    let head : word ≡ codes "--pivots" = cc in
    let tail : words ≡ x ∷ words_of_items items after_end = cc in
    WithNext head (record {
      value = x;
      others = words_of_items items after_end;
      more = values_of items;
      first = tail;
      proper = proper.0;
      gives = gives_along _ _ _ _ _ _ refl refl p (gives_of items after_end proper.1);
      has_values = v;
    })
first_of_items word words values positionals (OptionWithValue x ∷ items) after_end proper e v p =
    let head : word ≡ codes "--pivots=" ++ x = cc in
    let tail : words ≡ words_of_items items after_end = cc in
    Whole (values_of items) x head proper.0 (gives_along _ _ _ _ _ _ tail refl p (gives_of items after_end proper.1)) v
first_of_items word words values positionals (Positional x ∷ items) after_end proper e v p =
    let head : word ≡ x = cc in
    let tail : words ≡ words_of_items items after_end = cc in
    let same : positionals ≡ word ∷ positionals_of items after_end = cc in
    Alone (positionals_of items after_end) (subst (λ (w : Word). IsTrue (is_plain w)) (sym head) proper.0)
    (gives_along _ _ _ _ _ _ tail v refl (gives_of items after_end proper.1)) same

-- where words give something, the first of them is one of the four permitted kinds
pub first : (word : Word) (words values positionals : Words) → AreWordsWith (word ∷ words) values positionals
    → FirstWordKind word words values positionals
first word words values positionals h =
    first_of_items word words values positionals h.items h.after_end h.proper h.spelled h.has_values h.has_positionals

-- the empty list of words gives no values and no positionals
pub none_first : (values positionals : Words) → AreWordsWith [] values positionals → (values ≡ []) × (positionals ≡ [])
none_first values positionals h = go h.items h.after_end h.spelled h.has_values h.has_positionals
  where
    go : (items : List Item) (after_end : Option Words) → [] ≡ words_of_items items after_end → values ≡ values_of items
        → positionals ≡ positionals_of items after_end → (values ≡ []) × (positionals ≡ [])
    go [] None e v p = (v, p)
    go [] (Some after_end) e v p = cc
    go (OptionThenValue x ∷ items) after_end e v p = cc
    go (OptionWithValue x ∷ items) after_end e v p = cc
    go (Positional x ∷ items) after_end e v p = cc

-- `--`, `--pivots` and `--pivots=` with a value aren't positionals
end_not_plain : (word : Word) → word ≡ codes "--" → IsTrue (is_plain word) → ⊥
end_not_plain word e h = (let no_ : false ≡ true = subst (λ (w : Word). IsTrue (is_plain w)) e h in cc)

option_not_plain : (word : Word) → word ≡ codes "--pivots" → IsTrue (is_plain word) → ⊥
option_not_plain word e h = (let no_ : false ≡ true = subst (λ (w : Word). IsTrue (is_plain w)) e h in cc)

option_with_value_not_plain : (word v : Word) → word ≡ codes "--pivots=" ++ v → IsTrue (is_plain word) → ⊥
option_with_value_not_plain word v e h = (let no_ : false ≡ true = subst (λ (w : Word). IsTrue (is_plain w)) e h in cc)

-- `--`, `--pivots` and `--pivots=` with a value differ from one another
end_not_option : (word : Word) → word ≡ codes "--" → word ≡ codes "--pivots" → ⊥
end_not_option word e f = omega (arith, ap (λ (w : Word). get_or w 2 0) (sym e ∙ f))

end_not_option_with_value : (word v : Word) → word ≡ codes "--" → word ≡ codes "--pivots=" ++ v → ⊥
end_not_option_with_value word v e f = omega (arith, ap (λ (w : Word). get_or w 2 0) (sym e ∙ f))

option_not_option_with_value : (word v : Word) → word ≡ codes "--pivots" → word ≡ codes "--pivots=" ++ v → ⊥
option_not_option_with_value word v e f = omega (arith, ap (λ (w : Word). get_or w 8 0) (sym e ∙ f))

-- after `--` all words are positionals
pub end_first : (word : Word) (words values positionals : Words) → word ≡ codes "--"
    → AreWordsWith (word ∷ words) values positionals
    → (values ≡ []) × (positionals ≡ words)
end_first word words values positionals e h = go (first word words values positionals h)
  where
    go : FirstWordKind word words values positionals → (values ≡ []) × (positionals ≡ words)
    go (Ended f v p) = (v, p)
    go (WithNext f g) = absurd (end_not_option word e f)
    go (Whole more v f is g w) = absurd (end_not_option_with_value word v e f)
    go (Alone more is g p) = absurd (end_not_plain word e is)

-- `--pivots` is followed by its value
pub option_then_value_first : (word : Word) (words values positionals : Words) → word ≡ codes "--pivots"
    → AreWordsWith (word ∷ words) values positionals
    → AreValueThenWordsWith words values positionals
option_then_value_first word words values positionals e h = go (first word words values positionals h)
  where
    go : FirstWordKind word words values positionals → AreValueThenWordsWith words values positionals
    go (Ended f v p) = absurd (end_not_option word f e)
    go (WithNext f g) = g
    go (Whole more v f is g w) = absurd (option_not_option_with_value word v e f)
    go (Alone more is g p) = absurd (option_not_plain word e is)

-- `--pivots=V` has the value V
pub option_with_value_first : (word value : Word) (words values positionals : Words) → word ≡ codes "--pivots=" ++ value
    → AreWordsWith (word ∷ words) values positionals
    → (more : Words) × IsTrue (is_value value) × AreWordsWith words more positionals × (values ≡ value ∷ more)
option_with_value_first word value words values positionals e h = go (first word words values positionals h)
  where
    go : FirstWordKind word words values positionals
        → (more : Words) × IsTrue (is_value value) × AreWordsWith words more positionals × (values ≡ value ∷ more)
    go (Ended f v p) = absurd (end_not_option_with_value word value f e)
    go (WithNext f g) = absurd (option_not_option_with_value word value f e)
    go (Whole more v f is g w) =
        let same : codes "--pivots=" ++ v ≡ codes "--pivots=" ++ value = sym f ∙ e in
        let value_same : v ≡ value = cc in
        (more, subst (λ (u : Word). IsTrue (is_value u)) value_same is, g, w ∙ ap (λ (u : Word). u ∷ more) value_same)
    go (Alone more is g p) = absurd (option_with_value_not_plain word value e is)

-- a positional is an item of its own
pub plain_first : (word : Word) (words values positionals : Words) → IsTrue (is_plain word)
    → AreWordsWith (word ∷ words) values positionals
    → (more : Words) × AreWordsWith words values more × (positionals ≡ word ∷ more)
plain_first word words values positionals e h = go (first word words values positionals h)
  where
    go : FirstWordKind word words values positionals → (more : Words) × AreWordsWith words values more
        × (positionals ≡ word ∷ more)
    go (Ended f v p) = absurd (end_not_plain word f e)
    go (WithNext f g) = absurd (option_not_plain word f e)
    go (Whole more v f is g w) = absurd (option_with_value_not_plain word v f e)
    go (Alone more is g p) = (more, g, p)

-- a word of another kind is permitted nowhere
pub other_first : (word : Word) (words values positionals : Words) → IsOther word
    → AreWordsWith (word ∷ words) values positionals → ⊥
other_first word words values positionals o h = go (first word words values positionals h)
  where
    clash : (b : Word) → IsFalse (is_plain b) → IsTrue (is_plain b) → ⊥
    clash b f t = let e : false ≡ true = sym f ∙ t in cc

    go : FirstWordKind word words values positionals → ⊥
    go (Ended f v p) = o.end f
    go (WithNext f g) = o.option_then_value f
    go (Whole more v f is g w) = o.option_with_value v f
    go (Alone more is g p) = clash word o.plain is
