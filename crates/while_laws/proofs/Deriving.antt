-- The token lists that spell an expression or atoms of programs are derived by the grammar of while programs.
use Rattle.std.proofs.Common.{◌≡◌, ℕ, List, [], ◌∷◌, ◌++◌, map, Option, Some, refl, sym, ap, subst, ◌∙◌, inl, inr}
use Rattle.std.proofs.Common.{append_assoc, append-nil}
use Rattle.text_grammar.specs.declared.symbol.Symbol.{Symbol}
use Rattle.text_grammar.specs.declared.symbol.Symbol.TheVariants as symbol
use Rattle.text_grammar.specs.Grammars.{Event, Read, Derives, nothing, piece, made}
use Rattle.expr_text.specs.Pieces as programs
use Rattle.expr_text.specs.Pieces.{Digits, Word, Open, Close, Plus, Minus, Times, Caret}
use Rattle.expr_text.specs.Trees.{Sum, Alone, Added, Subtracted, Product, Single, Multiplied, Factor, Plain, Raised}
use Rattle.expr_text.specs.Trees.{Negated, Base, Number, Named, Bracketed}
use Rattle.expr_text.specs.Guards.{Atom, Always, Compared, Atoms, First, Joined}
use Rattle.while_text.specs.declared.piece.Piece.{Piece}
use Rattle.while_text.specs.Drafts.{bytes_of}
use Rattle.while_text.specs.Grammar.{class_of_sort, while_grammar}
use Rattle.while_laws.specs.Spelled.{spelled, SpellSum, SpellAtom, SpellAtoms}
use Rattle.while_laws.proofs.Rows.{sum_row, product_row, factor_row, base_row, sum_pieces}
use Rattle.while_laws.proofs.Classes.{class_in, spelled_class, signed_class, joint_class, truth_class}

-- A list that is mapped to two parts with an element between them has two parts with an element between them.
record Parted {X Y : Type 0} (f : X → Y) (grammar_state : List Y) (y : Y) (back : List Y) (xs : List X) : Type 0 where
  pub before : List X
  pub at : X
  pub after : List X
  pub whole : xs ≡ before ++ at ∷ after
  pub first : map f before ≡ grammar_state
  pub middle : f at ≡ y
  pub last : map f after ≡ back

parted : {X Y : Type 0} (f : X → Y) (grammar_state : List Y) (y : Y) (back : List Y) (xs : List X)
    → map f xs ≡ grammar_state ++ y ∷ back → Parted f grammar_state y back xs
parted f [] y back [] e = cc
parted f [] y back (x ∷ xs) e = record {
  before = [];
  at = x;
  after = xs;
  whole = refl;
  first = refl;
  middle = heads e;
  last = tails e;
}
  where
    heads : f x ∷ map f xs ≡ y ∷ back → f x ≡ y
    heads d = cc

    tails : f x ∷ map f xs ≡ y ∷ back → map f xs ≡ back
    tails d = cc
parted f (z ∷ grammar_state) y back [] e = cc
parted f (z ∷ grammar_state) y back (x ∷ xs) e = go (parted f grammar_state y back xs (tails e))
  where
    heads : f x ∷ map f xs ≡ z ∷ (grammar_state ++ y ∷ back) → f x ≡ z
    heads d = cc

    tails : f x ∷ map f xs ≡ z ∷ (grammar_state ++ y ∷ back) → map f xs ≡ grammar_state ++ y ∷ back
    tails d = cc

    go : Parted f grammar_state y back xs → Parted f (z ∷ grammar_state) y back (x ∷ xs)
    go w = record {
      before = x ∷ w.before;
      at = w.at;
      after = w.after;
      whole = ap (λ ys. x ∷ ys) w.whole;
      first = ap (λ v. v ∷ map f w.before) (heads e) ∙ ap (λ vs. z ∷ vs) w.first;
      middle = w.middle;
      last = w.last;
    }

-- A list that is mapped to the empty list is empty.
none : {X Y : Type 0} (f : X → Y) (xs : List X) → map f xs ≡ [] → xs ≡ []
none f [] e = refl
none f (x ∷ xs) e = cc

-- The events of reading tokens.
abbrev pub reads : List Piece → List (Event Piece)
reads [] = []
reads (p ∷ ps) = Read p ∷ reads ps

-- The symbols derive these tokens, which are read one by one.
abbrev pub Derive : List Symbol → List Piece → Type 0
Derive symbols ps = Derives while_grammar symbols (reads ps) ps

-- A token of a class, before the tokens of the other symbols, is derived.
pub piece_then : (c : ℕ) (p : Piece) (rest : List Symbol) (ps : List Piece) → class_of_sort p.sort ≡ c → Derive rest ps
    → Derive (symbol.Piece c ∷ rest) (p ∷ ps)
piece_then c p rest ps k d = subst (λ (n : ℕ). Derive (symbol.Piece n ∷ rest) (p ∷ ps)) k (piece p d)

-- Derivation is kept when tokens are split at a token.
moved : (symbols : List Symbol) (ps before after qs : List Piece) (p : Piece) → ps ≡ before ++ p ∷ after
    → Derive symbols (before ++ p ∷ (after ++ qs)) → Derive symbols (ps ++ qs)
moved symbols ps before after qs p e d =
    subst (Derive symbols) (sym (ap (λ (x : List Piece). x ++ qs) e ∙ append_assoc before (p ∷ after) qs)) d

module _ (text : List ℕ) where
  -- The tokens of programs' expressions that these tokens are.
  abbrev spell : List Piece → List (Option programs.Piece)
  spell ps = map (spelled text) ps

  -- A token of programs' expressions, before the tokens of the other symbols, is derived.
  spelled_then : (q : programs.Piece) (p : Piece) (rest : List Symbol) (ps : List Piece) → spelled text p ≡ Some q
      → Derive rest ps → Derive (symbol.Piece (class_in q) ∷ rest) (p ∷ ps)
  spelled_then q p rest ps e d = piece_then (class_in q) p rest ps (spelled_class p.sort (bytes_of text p) q e) d

  -- The digits of an exponent are derived.
  digits_derived : (digits : List ℕ) (ps before after : List Piece) (p : Piece) (qs : List Piece)
      (rest : List Symbol) → ps ≡ before ++ p ∷ after → spell before ≡ [] → spell after ≡ []
      → spelled text p ≡ Some (Digits digits) → Derive rest qs → Derive (symbol.Piece 7 ∷ rest) (ps ++ qs)
  digits_derived digits ps before after p qs rest e f g h d =
      subst (λ (x : List Piece). Derive (symbol.Piece 7 ∷ rest) (x ++ qs))
      (sym (e ∙ ap (λ (x : List Piece). x ++ p ∷ after) (none (spelled text) before f)
      ∙ ap (λ (x : List Piece). p ∷ x) (none (spelled text) after g)))
      (spelled_then (Digits digits) p rest qs h d)

  mutual
    -- The tokens of an expression, before those that continue it, are derived.
    sum_derived : (s : Sum) (ps qs : List Piece) (rest : List Symbol) → spell ps ≡ sum_row s
        → Derive (symbol.Made 11 ∷ rest) qs → Derive (symbol.Made 10 ∷ rest) (ps ++ qs)
    sum_derived (Alone p) ps qs rest e d =
        made 10 (symbol.Made 12 ∷ symbol.Made 11 ∷ []) (inl refl)
        (product_derived p ps qs (symbol.Made 11 ∷ rest) e (made 13 [] (inr (inl refl)) d))
    sum_derived (Added s p) ps qs rest e d =
        let w = parted (spelled text) (sum_row s) (Some Plus) (product_row p) ps e in
        moved (symbol.Made 10 ∷ rest) ps w.before w.after qs w.at w.whole
        (sum_derived s w.before (w.at ∷ (w.after ++ qs)) rest w.first
        (made 11 (symbol.Piece 18 ∷ symbol.Made 12 ∷ symbol.Made 11 ∷ []) (inl refl)
        (spelled_then Plus w.at (symbol.Made 12 ∷ symbol.Made 11 ∷ rest) (w.after ++ qs) w.middle
        (product_derived p w.after qs (symbol.Made 11 ∷ rest) w.last (made 13 [] (inr (inl refl)) d)))))
    sum_derived (Subtracted s p) ps qs rest e d =
        let w = parted (spelled text) (sum_row s) (Some Minus) (product_row p) ps e in
        moved (symbol.Made 10 ∷ rest) ps w.before w.after qs w.at w.whole
        (sum_derived s w.before (w.at ∷ (w.after ++ qs)) rest w.first
        (made 11 (symbol.Piece 19 ∷ symbol.Made 12 ∷ symbol.Made 11 ∷ []) (inr (inl refl))
        (spelled_then Minus w.at (symbol.Made 12 ∷ symbol.Made 11 ∷ rest) (w.after ++ qs) w.middle
        (product_derived p w.after qs (symbol.Made 11 ∷ rest) w.last (made 13 [] (inr (inl refl)) d)))))

    -- The tokens of a product, before those that continue it, are derived.
    product_derived : (p : Product) (ps qs : List Piece) (rest : List Symbol) → spell ps ≡ product_row p
        → Derive (symbol.Made 13 ∷ rest) qs → Derive (symbol.Made 12 ∷ rest) (ps ++ qs)
    product_derived (Single f) ps qs rest e d =
        made 12 (symbol.Made 14 ∷ symbol.Made 13 ∷ []) (inl refl)
        (factor_derived f ps qs (symbol.Made 13 ∷ rest) e d)
    product_derived (Multiplied p f) ps qs rest e d =
        let w = parted (spelled text) (product_row p) (Some Times) (factor_row f) ps e in
        moved (symbol.Made 12 ∷ rest) ps w.before w.after qs w.at w.whole
        (product_derived p w.before (w.at ∷ (w.after ++ qs)) rest w.first
        (made 13 (symbol.Piece 20 ∷ symbol.Made 14 ∷ symbol.Made 13 ∷ []) (inl refl)
        (spelled_then Times w.at (symbol.Made 14 ∷ symbol.Made 13 ∷ rest) (w.after ++ qs) w.middle
        (factor_derived f w.after qs (symbol.Made 13 ∷ rest) w.last d))))

    -- The tokens of a factor are derived before any others.
    factor_derived : (f : Factor) (ps qs : List Piece) (rest : List Symbol) → spell ps ≡ factor_row f
        → Derive rest qs → Derive (symbol.Made 14 ∷ rest) (ps ++ qs)
    factor_derived (Plain b) ps qs rest e d =
        made 14 (symbol.Made 16 ∷ symbol.Made 15 ∷ []) (inr (inl refl))
        (base_derived b ps qs (symbol.Made 15 ∷ rest) e (made 15 [] (inr (inl refl)) d))
    factor_derived (Raised b digits) ps qs rest e d =
        let w = parted (spelled text) (base_row b) (Some Caret) (Some (Digits digits) ∷ []) ps e in
        let v = parted (spelled text) [] (Some (Digits digits)) [] w.after w.last in
        moved (symbol.Made 14 ∷ rest) ps w.before w.after qs w.at w.whole
        (made 14 (symbol.Made 16 ∷ symbol.Made 15 ∷ []) (inr (inl refl))
        (base_derived b w.before (w.at ∷ (w.after ++ qs)) (symbol.Made 15 ∷ rest) w.first
        (made 15 (symbol.Piece 21 ∷ symbol.Piece 7 ∷ []) (inl refl)
        (spelled_then Caret w.at (symbol.Piece 7 ∷ rest) (w.after ++ qs) w.middle
        (digits_derived digits w.after v.before v.after v.at qs rest v.whole v.first v.last v.middle d)))))
    factor_derived (Negated f) ps qs rest e d =
        let w = parted (spelled text) [] (Some Minus) (factor_row f) ps e in
        moved (symbol.Made 14 ∷ rest) ps w.before w.after qs w.at w.whole
        (subst (λ (x : List Piece). Derive (symbol.Made 14 ∷ rest) (x ++ w.at ∷ (w.after ++ qs)))
        (sym (none (spelled text) w.before w.first))
        (made 14 (symbol.Piece 19 ∷ symbol.Made 14 ∷ []) (inl refl)
        (spelled_then Minus w.at (symbol.Made 14 ∷ rest) (w.after ++ qs) w.middle
        (factor_derived f w.after qs rest w.last d))))

    -- The tokens of a base are derived before any others.
    base_derived : (b : Base) (ps qs : List Piece) (rest : List Symbol) → spell ps ≡ base_row b → Derive rest qs
        → Derive (symbol.Made 16 ∷ rest) (ps ++ qs)
    base_derived (Number digits) ps qs rest e d =
        let w = parted (spelled text) [] (Some (Digits digits)) [] ps e in
        made 16 (symbol.Piece 7 ∷ []) (inl refl)
        (digits_derived digits ps w.before w.after w.at qs rest w.whole w.first w.last w.middle d)
    base_derived (Named name) ps qs rest e d =
        let w = parted (spelled text) [] (Some (Word name)) [] ps e in
        made 16 (symbol.Piece 6 ∷ []) (inr (inl refl))
        (subst (λ (x : List Piece). Derive (symbol.Piece 6 ∷ rest) (x ++ qs))
        (sym (w.whole ∙ ap (λ (x : List Piece). x ++ w.at ∷ w.after) (none (spelled text) w.before w.first)
        ∙ ap (λ (x : List Piece). w.at ∷ x) (none (spelled text) w.after w.last)))
        (spelled_then (Word name) w.at rest qs w.middle d))
    base_derived (Bracketed s) ps qs rest e d =
        let w = parted (spelled text) [] (Some Open) (sum_row s ++ Some Close ∷ []) ps e in
        let v = parted (spelled text) (sum_row s) (Some Close) [] w.after w.last in
        moved (symbol.Made 16 ∷ rest) ps w.before w.after qs w.at w.whole
        (subst (λ (x : List Piece). Derive (symbol.Made 16 ∷ rest) (x ++ w.at ∷ (w.after ++ qs)))
        (sym (none (spelled text) w.before w.first))
        (made 16 (symbol.Piece 12 ∷ symbol.Made 10 ∷ symbol.Piece 13 ∷ []) (inr (inr (inl refl)))
        (spelled_then Open w.at (symbol.Made 10 ∷ symbol.Piece 13 ∷ rest) (w.after ++ qs) w.middle
        (moved (symbol.Made 10 ∷ symbol.Piece 13 ∷ rest) w.after v.before v.after qs v.at v.whole
        (sum_derived s v.before (v.at ∷ (v.after ++ qs)) (symbol.Piece 13 ∷ rest) v.first
        (made 11 [] (inr (inr (inl refl)))
        (spelled_then Close v.at rest (v.after ++ qs) v.middle
        (subst (λ (x : List Piece). Derive rest (x ++ qs)) (sym (none (spelled text) v.after v.last)) d))))))))

  -- The tokens that spell an expression are derived before any others.
  pub sum_then : (s : Sum) (ps qs : List Piece) (rest : List Symbol) → SpellSum text s ps → Derive rest qs
      → Derive (symbol.Made 10 ∷ rest) (ps ++ qs)
  sum_then s ps qs rest e d =
      sum_derived s ps qs rest (e ∙ sum_pieces s) (made 11 [] (inr (inr (inl refl))) d)

  -- The tokens that spell an atom are derived before any others.
  atom_then : (a : Atom) (ps qs : List Piece) (rest : List Symbol) → SpellAtom text a ps → Derive rest qs
      → Derive (symbol.Made 9 ∷ rest) (ps ++ qs)
  atom_then (Always truth) ps qs rest (p, e, h) d =
      subst (λ (x : List Piece). Derive (symbol.Made 9 ∷ rest) (x ++ qs)) (sym e)
      (made 9 (symbol.Piece 5 ∷ []) (inl refl)
      (piece_then 5 p rest qs (truth_class p.sort (bytes_of text p) truth h) d))
  atom_then (Compared l sign r) ps qs rest (ls, p, rs, e, left, h, right) d =
      moved (symbol.Made 9 ∷ rest) ps ls rs qs p e
      (made 9 (symbol.Made 10 ∷ symbol.Piece 17 ∷ symbol.Made 10 ∷ []) (inr (inl refl))
      (sum_then l ls (p ∷ (rs ++ qs)) (symbol.Piece 17 ∷ symbol.Made 10 ∷ rest) left
      (piece_then 17 p (symbol.Made 10 ∷ rest) (rs ++ qs) (signed_class p.sort (bytes_of text p) sign h)
      (sum_then r rs qs rest right d))))

  -- The tokens that spell atoms, before those that continue them, are derived.
  pub atoms_then : (atoms : Atoms) (ps qs : List Piece) (rest : List Symbol) → SpellAtoms text atoms ps
      → Derive (symbol.Made 8 ∷ rest) qs → Derive (symbol.Made 7 ∷ rest) (ps ++ qs)
  atoms_then (First a) ps qs rest h d =
      made 7 (symbol.Made 9 ∷ symbol.Made 8 ∷ []) (inl refl) (atom_then a ps qs (symbol.Made 8 ∷ rest) h d)
  atoms_then (Joined atoms joint a) ps qs rest (before, p, last, e, first, h, one) d =
      moved (symbol.Made 7 ∷ rest) ps before last qs p e
      (atoms_then atoms before (p ∷ (last ++ qs)) rest first
      (made 8 (symbol.Piece 16 ∷ symbol.Made 9 ∷ symbol.Made 8 ∷ []) (inl refl)
      (piece_then 16 p (symbol.Made 9 ∷ symbol.Made 8 ∷ rest) (last ++ qs)
      (joint_class p.sort (bytes_of text p) joint h)
      (atom_then a last qs (symbol.Made 8 ∷ rest) one d))))

  -- Tokens followed by none are derived alone.
  alone : (n : ℕ) (ps : List Piece) → Derive (symbol.Made n ∷ []) (ps ++ []) → Derive (symbol.Made n ∷ []) ps
  alone n ps d = subst (Derive (symbol.Made n ∷ [])) (append-nil ps) d

  pub sum_derives : (s : Sum) (ps : List Piece) → SpellSum text s ps → Derive (symbol.Made 10 ∷ []) ps
  sum_derives s ps h = alone 10 ps (sum_then s ps [] [] h nothing)

  pub atom_derives : (a : Atom) (ps : List Piece) → SpellAtom text a ps → Derive (symbol.Made 9 ∷ []) ps
  atom_derives a ps h = alone 9 ps (atom_then a ps [] [] h nothing)

  pub atoms_derive : (atoms : Atoms) (ps : List Piece) → SpellAtoms text atoms ps → Derive (symbol.Made 7 ∷ []) ps
  atoms_derive atoms ps h = alone 7 ps (atoms_then atoms ps [] [] h (made 8 [] (inr (inl refl)) nothing))
