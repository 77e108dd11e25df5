-- The token lists that spell a program are derived by the grammar of while programs.
use Rattle.std.proofs.Common.{◌≡◌, ℕ, List, [], ◌∷◌, ◌++◌, refl, sym, ap, subst, ◌∙◌, inl, inr, append_assoc}
use Rattle.std.proofs.Common.{append-nil}
use Rattle.text_grammar.specs.declared.symbol.Symbol.{Symbol}
use Rattle.text_grammar.specs.declared.symbol.Symbol.TheVariants as symbol
use Rattle.text_grammar.specs.Grammars.{nothing, made}
use Rattle.expr_text.specs.Trees.{Sum}
use Rattle.while_text.specs.model.Programs.{Name, Atom}
use Rattle.while_text.specs.while_model.Statements.{Statements, IsNonempty}
use Rattle.while_text.specs.declared.piece.Piece.{Piece}
use Rattle.while_text.specs.declared.piece.Sort.{Sort}
use Rattle.while_text.specs.declared.piece.Sort.TheVariants as sorts
use Rattle.while_text.specs.Grammar.{class_of_sort}
use Rattle.while_text.specs.Reading.{Source}
use Rattle.while_laws.specs.ProgramLaws.{ProgramsAreDerived}
use Rattle.while_laws.specs.Spelled.{SpellSum}
use Rattle.while_laws.specs.SpelledPrograms as spelled
use Rattle.while_laws.specs.SpelledPrograms.{SpellNames, one_name, name_more, SpellTest, SpellStatements, SpellProgram}
use Rattle.while_laws.proofs.Deriving.{reads, Derive, piece_then, sum_then, atoms_then}
use Rattle.while_laws.proofs.SpellingPrograms.{program_spells}

-- A token of a sort, before the tokens of the other symbols, is derived.
sort_then : (sort : Sort) (p : Piece) (rest : List Symbol) (ps : List Piece) → p.sort ≡ sort → Derive rest ps
    → Derive (symbol.Piece (class_of_sort sort) ∷ rest) (p ∷ ps)
sort_then sort p rest ps e d = piece_then (class_of_sort sort) p rest ps (ap class_of_sort e) d

-- Appending tokens to those of a test and a block.
test_before : (closing begin end : Piece) (tests body ps qs : List Piece)
    → (tests ++ closing ∷ begin ∷ (body ++ end ∷ ps)) ++ qs ≡ tests ++ closing ∷ begin ∷ (body ++ end ∷ (ps ++ qs))
test_before closing begin end tests body ps qs =
    append_assoc tests (closing ∷ begin ∷ (body ++ end ∷ ps)) qs
    ∙ ap (λ (x : List Piece). tests ++ closing ∷ begin ∷ x) (append_assoc body (end ∷ ps) qs)

-- The tokens of `{`, statements and `}`, before others, are derived.
block_then : (begin end : Piece) (body qs : List Piece) (rest : List Symbol) → begin.sort ≡ sorts.BlockOpen
    → end.sort ≡ sorts.BlockClose
    → ((later : List Symbol) (more : List Piece) → Derive later more → Derive (symbol.Made 2 ∷ later) (body ++ more))
    → Derive rest qs → Derive (symbol.Made 6 ∷ rest) (begin ∷ (body ++ end ∷ qs))
block_then begin end body qs rest b e inside d =
    made 6 (symbol.Piece 14 ∷ symbol.Made 2 ∷ symbol.Piece 15 ∷ []) (inl refl)
    (sort_then sorts.BlockOpen begin (symbol.Made 2 ∷ symbol.Piece 15 ∷ rest) (body ++ end ∷ qs) b
    (inside (symbol.Piece 15 ∷ rest) (end ∷ qs) (sort_then sorts.BlockClose end rest qs e d)))

module _ (text : List ℕ) where
  -- The tokens of a value and `;`, before others, are derived.
  value_then : (end : Piece) (value qs : List Piece) (e : Sum) (rest : List Symbol) → SpellSum text e value
      → end.sort ≡ sorts.Semicolon → Derive rest qs → Derive (symbol.Made 4 ∷ symbol.Piece 10 ∷ rest)
      (value ++ end ∷ qs)
  value_then end value qs e rest h c d =
      made 4 (symbol.Made 10 ∷ []) (inr (inl refl))
      (sum_then text e value (end ∷ qs) (symbol.Piece 10 ∷ rest) h (sort_then sorts.Semicolon end rest qs c d))

  any_then : (any end : Piece) (qs : List Piece) (rest : List Symbol) → any.sort ≡ sorts.Question
      → end.sort ≡ sorts.Semicolon → Derive rest qs → Derive (symbol.Made 4 ∷ symbol.Piece 10 ∷ rest) (any ∷ end ∷ qs)
  any_then any end qs rest a c d =
      made 4 (symbol.Piece 9 ∷ []) (inl refl)
      (sort_then sorts.Question any (symbol.Piece 10 ∷ rest) (end ∷ qs) a (sort_then sorts.Semicolon end rest qs c d))

  assignment_then : (name becomes : Piece) (qs : List Piece) (rest : List Symbol) → name.sort ≡ sorts.Name
      → becomes.sort ≡ sorts.Becomes → Derive (symbol.Made 4 ∷ symbol.Piece 10 ∷ rest) qs
      → Derive (symbol.Made 3 ∷ rest) (name ∷ becomes ∷ qs)
  assignment_then name becomes qs rest a b d =
      made 3 (symbol.Piece 6 ∷ symbol.Piece 8 ∷ symbol.Made 4 ∷ symbol.Piece 10 ∷ []) (inl refl)
      (sort_then sorts.Name name (symbol.Piece 8 ∷ symbol.Made 4 ∷ symbol.Piece 10 ∷ rest) (becomes ∷ qs) a
      (sort_then sorts.Becomes becomes (symbol.Made 4 ∷ symbol.Piece 10 ∷ rest) qs b d))

  skip_then : (word end : Piece) (qs : List Piece) (rest : List Symbol) → word.sort ≡ sorts.Skip
      → end.sort ≡ sorts.Semicolon → Derive rest qs → Derive (symbol.Made 3 ∷ rest) (word ∷ end ∷ qs)
  skip_then word end qs rest a b d =
      made 3 (symbol.Piece 1 ∷ symbol.Piece 10 ∷ []) (inr (inl refl))
      (sort_then sorts.Skip word (symbol.Piece 10 ∷ rest) (end ∷ qs) a (sort_then sorts.Semicolon end rest qs b d))

  -- The tokens of a test in its brackets, before others, are derived.
  test_then : (names : List Name) (test : List Atom) (opening closing : Piece) (tests qs : List Piece)
      (rest : List Symbol)
      → opening.sort ≡ sorts.Open → SpellTest text names test tests → closing.sort ≡ sorts.Close → Derive rest qs
      → Derive (symbol.Piece 12 ∷ symbol.Made 7 ∷ symbol.Piece 13 ∷ rest) (opening ∷ (tests ++ closing ∷ qs))
  test_then names test opening closing tests qs rest a (atoms, h, e) b d =
      sort_then sorts.Open opening (symbol.Made 7 ∷ symbol.Piece 13 ∷ rest) (tests ++ closing ∷ qs) a
      (atoms_then text atoms tests (closing ∷ qs) (symbol.Piece 13 ∷ rest) h
      (made 8 [] (inr (inl refl)) (sort_then sorts.Close closing rest qs b d)))

  loop_then : (word : Piece) (qs : List Piece) (rest : List Symbol) → word.sort ≡ sorts.While
      → Derive (symbol.Piece 12 ∷ symbol.Made 7 ∷ symbol.Piece 13 ∷ symbol.Made 6 ∷ rest) qs
      → Derive (symbol.Made 3 ∷ rest) (word ∷ qs)
  loop_then word qs rest a d =
      made 3 (symbol.Piece 2 ∷ symbol.Piece 12 ∷ symbol.Made 7 ∷ symbol.Piece 13 ∷ symbol.Made 6 ∷ [])
      (inr (inr (inl refl)))
      (sort_then sorts.While word (symbol.Piece 12 ∷ symbol.Made 7 ∷ symbol.Piece 13 ∷ symbol.Made 6 ∷ rest) qs a d)

  branch_then : (word : Piece) (qs : List Piece) (rest : List Symbol) → word.sort ≡ sorts.If
      → Derive (symbol.Piece 12 ∷ symbol.Made 7 ∷ symbol.Piece 13 ∷ symbol.Made 6 ∷ symbol.Made 5 ∷ rest) qs
      → Derive (symbol.Made 3 ∷ rest) (word ∷ qs)
  branch_then word qs rest a d =
      made 3 (symbol.Piece 3 ∷ symbol.Piece 12 ∷ symbol.Made 7 ∷ symbol.Piece 13 ∷ symbol.Made 6 ∷ symbol.Made 5 ∷ [])
      (inr (inr (inr (inl refl))))
      (sort_then sorts.If word
      (symbol.Piece 12 ∷ symbol.Made 7 ∷ symbol.Piece 13 ∷ symbol.Made 6 ∷ symbol.Made 5 ∷ rest)
      qs a d)

  -- Statements are derived; if there is at least one, as a first one and the others.
  record AreDerived (program : Statements) (rest : List Symbol) (ps : List Piece) : Type 0 where
    pub all : Derive (symbol.Made 2 ∷ rest) ps
    pub some : IsNonempty program → Derive (symbol.Made 3 ∷ symbol.Made 2 ∷ rest) ps

  -- Derivation is kept when the token list is replaced by an equal one.
  derived_as : {program : Statements} (rest : List Symbol) {ps qs : List Piece} → ps ≡ qs → AreDerived program rest ps
      → AreDerived program rest qs
  derived_as {program} rest e d = subst (AreDerived program rest) e d

  first_then : (program : Statements) (rest : List Symbol) (ps : List Piece)
      → Derive (symbol.Made 3 ∷ symbol.Made 2 ∷ rest) ps → AreDerived program rest ps
  first_then program rest ps d = record {
    all = made 2 (symbol.Made 3 ∷ symbol.Made 2 ∷ []) (inl refl) d;
    some = λ h. d;
  }

  module _ (names : List Name) where
    statements_then : {program : Statements} {at : List ℕ} {ps : List Piece} → SpellStatements text names program at ps
        → (rest : List Symbol) (qs : List Piece) → Derive rest qs → AreDerived program rest (ps ++ qs)
    statements_then spelled.nothing rest qs d =
        record { all = made 2 [] (inr (inl refl)) d; some = λ h. absurd h }
    statements_then (spelled.assignment name becomes end value e {ps} a b h c w) rest qs d =
        derived_as rest (ap (λ (x : List Piece). name ∷ becomes ∷ x) (sym (append_assoc value (end ∷ ps) qs)))
        (first_then _ rest (name ∷ becomes ∷ (value ++ end ∷ (ps ++ qs)))
        (assignment_then name becomes (value ++ end ∷ (ps ++ qs)) (symbol.Made 2 ∷ rest) a b
        (value_then end value (ps ++ qs) e (symbol.Made 2 ∷ rest) h c (statements_then w rest qs d).all)))
    statements_then (spelled.choice name becomes any end {ps} a b c e w) rest qs d =
        first_then _ rest (name ∷ becomes ∷ any ∷ end ∷ (ps ++ qs))
        (assignment_then name becomes (any ∷ end ∷ (ps ++ qs)) (symbol.Made 2 ∷ rest) a b
        (any_then any end (ps ++ qs) (symbol.Made 2 ∷ rest) c e (statements_then w rest qs d).all))
    statements_then (spelled.skip word end {ps} a b w) rest qs d =
        first_then _ rest (word ∷ end ∷ (ps ++ qs))
        (skip_then word end (ps ++ qs) (symbol.Made 2 ∷ rest) a b (statements_then w rest qs d).all)
    statements_then (spelled.loop word opening closing begin end tests body {ps} a b h c o v e w) rest qs d =
        derived_as rest (ap (λ (x : List Piece). word ∷ opening ∷ x)
        (sym (test_before closing begin end tests body ps qs)))
        (first_then _ rest (word ∷ opening ∷ (tests ++ closing ∷ begin ∷ (body ++ end ∷ (ps ++ qs))))
        (loop_then word (opening ∷ (tests ++ closing ∷ begin ∷ (body ++ end ∷ (ps ++ qs)))) (symbol.Made 2 ∷ rest) a
        (test_then names _ opening closing tests (begin ∷ (body ++ end ∷ (ps ++ qs)))
        (symbol.Made 6 ∷ symbol.Made 2 ∷ rest)
        b h c
        (block_then begin end body (ps ++ qs) (symbol.Made 2 ∷ rest) o e
        (λ later others k. (statements_then v later others k).all) (statements_then w rest qs d).all))))
    statements_then (spelled.branch word opening closing begin end tests body {ps} a b h c o v e w) rest qs d =
        derived_as rest (ap (λ (x : List Piece). word ∷ opening ∷ x)
        (sym (test_before closing begin end tests body ps qs)))
        (first_then _ rest (word ∷ opening ∷ (tests ++ closing ∷ begin ∷ (body ++ end ∷ (ps ++ qs))))
        (branch_then word (opening ∷ (tests ++ closing ∷ begin ∷ (body ++ end ∷ (ps ++ qs)))) (symbol.Made 2 ∷ rest) a
        (test_then names _ opening closing tests (begin ∷ (body ++ end ∷ (ps ++ qs)))
        (symbol.Made 6 ∷ symbol.Made 5 ∷ symbol.Made 2 ∷ rest) b h c
        (block_then begin end body (ps ++ qs) (symbol.Made 5 ∷ symbol.Made 2 ∷ rest) o e
        (λ later others k. (statements_then v later others k).all)
        (made 5 [] (inr (inl refl)) (statements_then w rest qs d).all)))))
    statements_then (spelled.branch_else word opening closing begin end second begin_other end_other tests body others
        {ps} a b h c o v e s i u j w) rest qs d =
        derived_as rest (ap (λ (x : List Piece). word ∷ opening ∷ x)
        (sym (test_before closing begin end tests body (second ∷ begin_other ∷ (others ++ end_other ∷ ps)) qs
        ∙ ap (λ (x : List Piece). tests ++ closing ∷ begin ∷ (body ++ end ∷ second ∷ begin_other ∷ x))
        (append_assoc others (end_other ∷ ps) qs))))
        (first_then _ rest (word ∷ opening ∷ (tests ++ closing ∷ begin ∷ (body ++ end ∷ behind)))
        (branch_then word (opening ∷ (tests ++ closing ∷ begin ∷ (body ++ end ∷ behind))) (symbol.Made 2 ∷ rest) a
        (test_then names _ opening closing tests (begin ∷ (body ++ end ∷ behind))
        (symbol.Made 6 ∷ symbol.Made 5 ∷ symbol.Made 2 ∷ rest) b h c
        (block_then begin end body behind (symbol.Made 5 ∷ symbol.Made 2 ∷ rest) o e
        (λ later others k. (statements_then v later others k).all)
        (made 5 (symbol.Piece 4 ∷ symbol.Made 6 ∷ []) (inl refl)
        (sort_then sorts.Else second (symbol.Made 6 ∷ symbol.Made 2 ∷ rest)
        (begin_other ∷ (others ++ end_other ∷ (ps ++ qs))) s
        (block_then begin_other end_other others (ps ++ qs) (symbol.Made 2 ∷ rest) i j
        (λ later more k. (statements_then u later more k).all) (statements_then w rest qs d).all)))))))
      where
        behind : List Piece
        behind = second ∷ begin_other ∷ (others ++ end_other ∷ (ps ++ qs))

  -- The tokens of the names of inputs, before others, are derived.
  names_then : {names : List Name} {ps : List Piece} → SpellNames text names ps → (rest : List Symbol) (qs : List Piece)
      → Derive rest qs → Derive (symbol.Piece 6 ∷ symbol.Made 1 ∷ rest) (ps ++ qs)
  names_then (one_name name end a b) rest qs d =
      sort_then sorts.Name name (symbol.Made 1 ∷ rest) (end ∷ qs) a
      (made 1 (symbol.Piece 10 ∷ []) (inr (inl refl)) (sort_then sorts.Semicolon end rest qs b d))
  names_then (name_more name comma {names} {ps} a b w) rest qs d =
      sort_then sorts.Name name (symbol.Made 1 ∷ rest) (comma ∷ (ps ++ qs)) a
      (made 1 (symbol.Piece 11 ∷ symbol.Piece 6 ∷ symbol.Made 1 ∷ []) (inl refl)
      (sort_then sorts.Comma comma (symbol.Piece 6 ∷ symbol.Made 1 ∷ rest) (ps ++ qs) b (names_then w rest qs d)))

  -- The tokens that spell a program are derived.
  pub program_derives : (source : Source) (ps : List Piece) → SpellProgram text source ps
      → Derive (symbol.Made 0 ∷ []) ps
  program_derives source ps w =
      subst (Derive (symbol.Made 0 ∷ [])) (sym w.whole)
      (made 0 (symbol.Piece 0 ∷ symbol.Piece 6 ∷ symbol.Made 1 ∷ symbol.Made 3 ∷ symbol.Made 2 ∷ []) (inl refl)
      (sort_then sorts.Input w.word (symbol.Piece 6 ∷ symbol.Made 1 ∷ symbol.Made 3 ∷ symbol.Made 2 ∷ [])
      (w.inputs ++ w.statements) w.word_is
      (names_then w.names (symbol.Made 3 ∷ symbol.Made 2 ∷ []) w.statements
      (subst (Derive (symbol.Made 3 ∷ symbol.Made 2 ∷ [])) (append-nil w.statements)
      ((statements_then source.names w.program [] [] nothing).some w.nonempty)))))

pub programs_derived : ProgramsAreDerived
programs_derived = record {
  spelled = λ text ps h. program_spells text ps h.0 h.1;
  derived = λ text source ps h. (reads ps, program_derives text source ps h);
}
