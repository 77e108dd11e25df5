-- The expressions and atoms of while programs are those of programs.
use Rattle.std.specs.Prelude.{◌≡◌, ℕ, List, [], ◌∷◌, ◌++◌, pos}
use Rattle.expr_text.specs.Terms.{sum_term}
use Rattle.expr_text.specs.Trees.{Sum}
use Rattle.expr_text.specs.Guards.{Atom, Atoms, atom_term}
use Rattle.text_grammar.specs.declared.symbol.Symbol.TheVariants.{Made}
use Rattle.text_grammar.specs.Grammars.{Event, Derives}
use Rattle.while_text.specs.model.Terms.{Literal}
use Rattle.while_text.specs.declared.piece.Piece.{Piece}
use Rattle.while_text.specs.declared.phase.Phase.TheVariants as phases
use Rattle.while_text.specs.declared.phase.Standing.TheVariants.{Sound}
use Rattle.while_text.specs.Drafts.{no_state}
use Rattle.while_text.specs.Grammar.{while_grammar}
use Rattle.while_text.specs.Reading.{State}
use Rattle.while_laws.specs.Spelled.{SpellSum, SpellAtom, SpellAtoms}
use Rattle.while_laws.specs.Values.{read_all, AreIn, BeginsExpression}

-- The nonterminals of the grammar for atoms, for one atom and for an expression.
abbrev pub atoms_symbol : ℕ
atoms_symbol = 7

abbrev pub atom_symbol : ℕ
atom_symbol = 9

abbrev pub sum_symbol : ℕ
sum_symbol = 10

-- The nonterminal derives the tokens.
abbrev pub IsDerived : ℕ → List Piece → Type 0
IsDerived n ps = (es : List (Event Piece)) × Derives while_grammar (Made n ∷ []) es ps

-- The token lists that are derived as an expression are exactly those that spell an expression of programs, and each
-- spells only one.
pub record SumsAreOfPrograms : Type 0 where
  pub spelled : (text : List ℕ) (ps : List Piece) → IsDerived sum_symbol ps → (s : Sum) × SpellSum text s ps
  pub derived : (text : List ℕ) (s : Sum) (ps : List Piece) → SpellSum text s ps → IsDerived sum_symbol ps
  pub one : (text : List ℕ) (s t : Sum) (ps : List Piece) → SpellSum text s ps → SpellSum text t ps → s ≡ t

-- The token lists that are derived as an atom, or as the atoms of a test, are exactly those that spell an atom, or
-- atoms.
pub record AtomsAreOfPrograms : Type 0 where
  pub spelled_atom : (text : List ℕ) (ps : List Piece) → IsDerived atom_symbol ps → (a : Atom) × SpellAtom text a ps
  pub derived_atom : (text : List ℕ) (a : Atom) (ps : List Piece) → SpellAtom text a ps → IsDerived atom_symbol ps
  pub spelled : (text : List ℕ) (ps : List Piece) → IsDerived atoms_symbol ps
      → (atoms : Atoms) × SpellAtoms text atoms ps
  pub derived : (text : List ℕ) (atoms : Atoms) (ps : List Piece) → SpellAtoms text atoms ps
      → IsDerived atoms_symbol ps

-- If reading the value of an assignment meets no fault, the value is the term of the expression over the inputs, and
-- nothing else is built.
pub record ValuesAreOfPrograms : Type 0 where
  pub each : (text : List ℕ) (s : Sum) (ps : List Piece) (next : Piece) (b : State) → SpellSum text s ps
      → AreIn text ps next → BeginsExpression phases.Value b → (read_all text b ps).standing ≡ Sound
      → (read_all text b ps).draft ≡ record b.draft { value = sum_term b.draft.names s; grammar_state = no_state }

-- If reading an atom meets no fault, that atom is appended to the test.
pub record TestsAreOfPrograms : Type 0 where
  pub each : (text : List ℕ) (a : Atom) (ps : List Piece) (next : Piece) (b : State) → SpellAtom text a ps
      → AreIn text ps next → BeginsExpression phases.Left b → b.draft.left ≡ Literal (pos 0)
      → (read_all text b ps).standing ≡ Sound
      → (read_all text b ps).draft ≡ record b.draft { test = b.draft.test ++ atom_term b.draft.names a ∷ [] }
