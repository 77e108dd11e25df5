-- What the tokens of each nonterminal of the grammar for while programs spell.
use Rattle.std.proofs.Common.{◌≡◌, ℕ, zero, suc, Bool, true, ◌&&◌, ◌≤◌, List, [], ◌∷◌, ◌++◌, refl}
use Rattle.std.proofs.Common.{arith}
use Rattle.std.specs.Prelude.{◌⊎◌, nat_le}
use Rattle.std.proofs.lemmas.Bool.{leb-true}
use Rattle.text_grammar.specs.text_core.Faults.{Among}
use Rattle.text_grammar.specs.declared.symbol.Symbol.{Symbol}
use Rattle.text_grammar.specs.declared.symbol.Symbol.TheVariants as symbol
use Rattle.text_grammar.specs.Grammars.{Event, alternatives}
use Rattle.text_grammar.proofs.Induction.{StandsAlong}
use Rattle.text_grammar.proofs.Tests.{both, all_among}
use Rattle.expr_text.specs.Trees.{Sum}
use Rattle.while_text.specs.model.Programs.{Name}
use Rattle.while_text.specs.while_model.Statements.{Statements}
use Rattle.while_text.specs.while_model.Statements.{IsNonempty}
use Rattle.while_text.specs.declared.piece.Piece.{Piece}
use Rattle.while_text.specs.declared.piece.Sort.{Sort}
use Rattle.while_text.specs.declared.piece.Sort.TheVariants as sorts
use Rattle.while_text.specs.Grammar.{class_of_sort, while_grammar}
use Rattle.while_text.specs.Reading.{Source}
use Rattle.while_laws.specs.Spelled.{SpellSum}
use Rattle.while_laws.specs.SpelledPrograms.{SpellNames, SpellStatements, SpellProgram}
use Rattle.while_laws.proofs.Spelling as inner
use Rattle.while_laws.proofs.Spelling.{two_parts, in_order}

-- The sort of a token of one of the other classes.
pub sort_of_0 : (p : Piece) → class_of_sort p.sort ≡ 0 → p.sort ≡ sorts.Input
sort_of_0 p h = go p.sort h
  where
    go : (sort : Sort) → class_of_sort sort ≡ 0 → sort ≡ sorts.Input
    go sorts.Input e = refl
    go sort e = absurd (omega (arith, e))

pub sort_of_9 : (p : Piece) → class_of_sort p.sort ≡ 9 → p.sort ≡ sorts.Question
sort_of_9 p h = go p.sort h
  where
    go : (sort : Sort) → class_of_sort sort ≡ 9 → sort ≡ sorts.Question
    go sorts.Question e = refl
    go sort e = absurd (omega (arith, e))

pub sort_of_12 : (p : Piece) → class_of_sort p.sort ≡ 12 → p.sort ≡ sorts.Open
sort_of_12 p h = go p.sort h
  where
    go : (sort : Sort) → class_of_sort sort ≡ 12 → sort ≡ sorts.Open
    go sorts.Open e = refl
    go sort e = absurd (omega (arith, e))

pub sort_of_13 : (p : Piece) → class_of_sort p.sort ≡ 13 → p.sort ≡ sorts.Close
sort_of_13 p h = go p.sort h
  where
    go : (sort : Sort) → class_of_sort sort ≡ 13 → sort ≡ sorts.Close
    go sorts.Close e = refl
    go sort e = absurd (omega (arith, e))

module _ (text : List ℕ) where
  -- The tokens spell some statements over variables with these names.
  abbrev pub StatementsIn : List Name → List Piece → Type 0
  StatementsIn names ps = (program : Statements) × (at : List ℕ) × SpellStatements text names program at ps

  -- The tokens spell a statement, whatever statements follow it.
  abbrev pub StatementIn : List Piece → Type 0
  StatementIn ps =
      (names : List Name) (rest : Statements) (at : List ℕ) (qs : List Piece) → SpellStatements text names rest at qs
      → (program : Statements) × (more : List ℕ) × SpellStatements text names program more (ps ++ qs)
      × IsNonempty program

  -- The tokens are a block: `{`, some statements and `}`.
  pub record IsBlock (ps : List Piece) : Type 0 where
    pub begin : Piece
    pub body : List Piece
    pub end : Piece
    pub whole : ps ≡ begin ∷ (body ++ end ∷ [])
    pub begin_is : begin.sort ≡ sorts.BlockOpen
    pub end_is : end.sort ≡ sorts.BlockClose
    pub inside : (names : List Name) → StatementsIn names body

  -- The tokens are a value: `?` or an expression.
  abbrev pub ValueIn : List Piece → Type 0
  ValueIn ps = ((p : Piece) × (ps ≡ p ∷ []) × (p.sort ≡ sorts.Question)) ⊎ ((e : Sum) × SpellSum text e ps)

  -- The tokens are `else` and a block, or there are none.
  abbrev pub OtherIn : List Piece → Type 0
  OtherIn ps = (ps ≡ []) ⊎ ((p : Piece) × (bs : List Piece) × (ps ≡ p ∷ bs) × (p.sort ≡ sorts.Else) × IsBlock bs)

  -- What the tokens of each nonterminal spell.
  abbrev pub Spells : ℕ → List (Event Piece) → List Piece → Type 0
  Spells zero es ps = (source : Source) × SpellProgram text source ps
  Spells (suc zero) es ps =
      (name : Piece) → name.sort ≡ sorts.Name → (names : List Name) × SpellNames text names (name ∷ ps)
  Spells (suc (suc zero)) es ps = (names : List Name) → StatementsIn names ps
  Spells (suc (suc (suc zero))) es ps = StatementIn ps
  Spells (suc (suc (suc (suc zero)))) es ps = ValueIn ps
  Spells (suc (suc (suc (suc (suc zero))))) es ps = OtherIn ps
  Spells (suc (suc (suc (suc (suc (suc zero)))))) es ps = IsBlock ps
  Spells (suc (suc (suc (suc (suc (suc (suc n))))))) es ps =
      inner.Spells text (suc (suc (suc (suc (suc (suc (suc n))))))) es ps

  abbrev pub Along : List Symbol → List (Event Piece) → List Piece → Type 0
  Along body es ps = StandsAlong while_grammar Spells body es ps

  -- Whether all nonterminals among the symbols are those of tests and expressions.
  abbrev pub are_inner : List Symbol → Bool
  are_inner [] = true
  are_inner (symbol.Piece c ∷ rest) = are_inner rest
  are_inner (symbol.Mark m ∷ rest) = are_inner rest
  are_inner (symbol.Made n ∷ rest) = nat_le 7 n && are_inner rest

  inner_spells : (n : ℕ) → 7 ≤ n → (es : List (Event Piece)) (ps : List Piece) → Spells n es ps
      → inner.Spells text n es ps
  inner_spells zero h es ps k = absurd (omega (arith, h))
  inner_spells (suc zero) h es ps k = absurd (omega (arith, h))
  inner_spells (suc (suc zero)) h es ps k = absurd (omega (arith, h))
  inner_spells (suc (suc (suc zero))) h es ps k = absurd (omega (arith, h))
  inner_spells (suc (suc (suc (suc zero)))) h es ps k = absurd (omega (arith, h))
  inner_spells (suc (suc (suc (suc (suc zero))))) h es ps k = absurd (omega (arith, h))
  inner_spells (suc (suc (suc (suc (suc (suc zero)))))) h es ps k = absurd (omega (arith, h))
  inner_spells (suc (suc (suc (suc (suc (suc (suc n))))))) h es ps k = k

  along_inner : (body : List Symbol) → are_inner body ≡ true → (es : List (Event Piece)) (ps : List Piece)
      → Along body es ps → StandsAlong while_grammar (inner.Spells text) body es ps
  along_inner [] h es ps w = w
  along_inner (symbol.Piece c ∷ rest) h es ps (p, fs, qs, k, e, f, w) = (p, fs, qs, k, e, f, along_inner rest h fs qs w)
  along_inner (symbol.Mark m ∷ rest) h es ps (fs, e, w) = (fs, e, along_inner rest h fs ps w)
  along_inner (symbol.Made n ∷ rest) h es ps (ds, fs, os, qs, k, e, f, w) =
      let b = both (nat_le 7 n) (are_inner rest) h in
      (ds, fs, os, qs, inner_spells n (leb-true 7 n b.0) ds os k, e, f, along_inner rest b.1 fs qs w)

  -- The tokens of an alternative of a test or an expression spell what they spell there.
  pub inner_each : (n : ℕ) (body : List Symbol) → are_inner body ≡ true
      → Among body (alternatives while_grammar.rules n)
      → (es : List (Event Piece)) (ps : List Piece) → Along body es ps → inner.Spells text n es ps
  inner_each n body h a es ps w = inner.each text n body a es ps (along_inner body h es ps w)

  pub inner_among : (n : ℕ) (body : List Symbol)
      → Among body (alternatives while_grammar.rules (suc (suc (suc (suc (suc (suc (suc n))))))))
      → are_inner body ≡ true
  inner_among zero body a = all_among are_inner (alternatives while_grammar.rules 7) body refl a
  inner_among (suc zero) body a = all_among are_inner (alternatives while_grammar.rules 8) body refl a
  inner_among (suc (suc zero)) body a = all_among are_inner (alternatives while_grammar.rules 9) body refl a
  inner_among (suc (suc (suc zero))) body a = all_among are_inner (alternatives while_grammar.rules 10) body refl a
  inner_among (suc (suc (suc (suc zero)))) body a =
      all_among are_inner (alternatives while_grammar.rules 11) body refl a
  inner_among (suc (suc (suc (suc (suc zero))))) body a =
      all_among are_inner (alternatives while_grammar.rules 12) body refl a
  inner_among (suc (suc (suc (suc (suc (suc zero)))))) body a =
      all_among are_inner (alternatives while_grammar.rules 13) body refl a
  inner_among (suc (suc (suc (suc (suc (suc (suc zero))))))) body a =
      all_among are_inner (alternatives while_grammar.rules 14) body refl a
  inner_among (suc (suc (suc (suc (suc (suc (suc (suc zero)))))))) body a =
      all_among are_inner (alternatives while_grammar.rules 15) body refl a
  inner_among (suc (suc (suc (suc (suc (suc (suc (suc (suc zero))))))))) body a =
      all_among are_inner (alternatives while_grammar.rules 16) body refl a
  inner_among (suc (suc (suc (suc (suc (suc (suc (suc (suc (suc n)))))))))) body a = absurd a
