-- Worked values of written expressions and guards.
use Rattle.std.specs.Prelude.{◌≡◌, List, [], ◌∷◌, codes, pos, Option, Some, None}
use Rattle.its_model.specs.model.Programs as plain
use Rattle.its_model.specs.model.Programs.{AtLeast, LessThan}
use Rattle.its_model.specs.model.Terms.{Term, Literal, Variable, Negation, Addition, Subtraction, Multiplication}
use Rattle.its_model.specs.model.Terms.{Exponentiation}
use Rattle.its_model.specs.text_core.Readers.{walk}
use Rattle.expr_text.specs.Pieces.{Piece, Word, Digits, Open, Close, Plus, Minus, Times, Caret, Related, AtLeastSign}
use Rattle.expr_text.specs.Pieces.{LessThanSign, Joining, Ampersands, Wedge}
use Rattle.expr_text.specs.Trees.{Sum}
use Rattle.expr_text.specs.Terms.{with_sum, sum_term}
use Rattle.expr_text.specs.GrammarStates.{GrammarState, beginning}
use Rattle.expr_text.specs.Steps as expression
use Rattle.expr_text.specs.Guards.{Atoms, with_atoms, atoms_terms}
use Rattle.expr_text.specs.GuardGrammarStates as guards

-- the term of an expression, with its own variables numbered in order of first occurrence
abbrev pub term_alone : Option Sum → Option Term
term_alone None = None
term_alone (Some s) = Some (sum_term (with_sum [] s) s)

abbrev pub ended : Option GrammarState → Option Sum
ended None = None
ended (Some f) = expression.finish f

-- the expression of these pieces, if they are one
abbrev pub read_as : List Piece → Option Term
read_as ps = term_alone (ended (walk expression.step (Some beginning) ps))

-- the guard of these pieces, if they are one
abbrev pub atoms_alone : Option Atoms → Option (List plain.Atom)
atoms_alone None = None
atoms_alone (Some atoms) = Some (atoms_terms (with_atoms [] atoms) atoms)

abbrev pub guard_ended : Option guards.GuardGrammarState → Option Atoms
guard_ended None = None
guard_ended (Some g) = guards.finish g

abbrev pub guard_read_as : List Piece → Option (List plain.Atom)
guard_read_as ps = atoms_alone (guard_ended (walk guards.step (Some guards.no_atoms) ps))

-- the piece of the name `A`, those of other names, and those of the numbers 1 and 2
abbrev pub a : Piece
a = Word (65 ∷ [])

abbrev pub b : Piece
b = Word (66 ∷ [])

abbrev pub one : Piece
one = Digits (48 ∷ 49 ∷ [])

abbrev pub two : Piece
two = Digits (50 ∷ [])

-- which pieces are an expression, and the term of it
pub record Expressions : Type 0 where
  -- `A` is an expression, and `01`, whose leading zero is permitted
  pub name : read_as (a ∷ []) ≡ Some (Variable 0)
  pub number : read_as (one ∷ []) ≡ Some (Literal (pos 1))
  -- `B-A+B` groups to the left, and its variables are numbered as they occur
  pub left : read_as (b ∷ Minus ∷ a ∷ Plus ∷ b ∷ [])
      ≡ Some (Addition (Subtraction (Variable 0) (Variable 1)) (Variable 0))
  -- `A+B*2` multiplies first
  pub product : read_as (a ∷ Plus ∷ b ∷ Times ∷ two ∷ [])
      ≡ Some (Addition (Variable 0) (Multiplication (Variable 1) (Literal (pos 2))))
  -- `(A+B)*2` adds first, and its brackets leave no node
  pub brackets : read_as (Open ∷ a ∷ Plus ∷ b ∷ Close ∷ Times ∷ two ∷ [])
      ≡ Some (Multiplication (Addition (Variable 0) (Variable 1)) (Literal (pos 2)))
  -- `-A^2` is the negation of the power, `--A` the negation of a negation, and in `A*-B` a factor has a `-`
  pub power : read_as (Minus ∷ a ∷ Caret ∷ two ∷ []) ≡ Some (Negation (Exponentiation (Variable 0) 2))
  pub twice : read_as (Minus ∷ Minus ∷ a ∷ []) ≡ Some (Negation (Negation (Variable 0)))
  pub factor : read_as (a ∷ Times ∷ Minus ∷ b ∷ []) ≡ Some (Multiplication (Variable 0) (Negation (Variable 1)))
  -- the empty text, `+A`, `A+`, `A B`, `(A`, `A)`, `()`, `A^B`, `A^2^2` and `A<B` are no expressions
  pub nothing : read_as [] ≡ None
  pub plus_first : read_as (Plus ∷ a ∷ []) ≡ None
  pub plus_last : read_as (a ∷ Plus ∷ []) ≡ None
  pub two_names : read_as (a ∷ b ∷ []) ≡ None
  pub unclosed : read_as (Open ∷ a ∷ []) ≡ None
  pub unopened : read_as (a ∷ Close ∷ []) ≡ None
  pub empty : read_as (Open ∷ Close ∷ []) ≡ None
  pub name_above : read_as (a ∷ Caret ∷ b ∷ []) ≡ None
  pub two_powers : read_as (a ∷ Caret ∷ two ∷ Caret ∷ two ∷ []) ≡ None
  pub relation : read_as (a ∷ Related LessThanSign ∷ b ∷ []) ≡ None

-- which pieces are a guard, and the atoms of it
pub record Guards : Type 0 where
  -- `A >= 1 && B < A` has two atoms
  pub two_atoms : guard_read_as (a ∷ Related AtLeastSign ∷ one ∷ Joining Ampersands ∷ b ∷ Related LessThanSign ∷ a ∷ [])
      ≡ Some (plain.Compare (Variable 0) AtLeast (Literal (pos 1)) ∷ plain.Compare (Variable 1) LessThan (Variable 0)
      ∷ [])
  -- the atoms of `TRUE /\ true` always hold; in `TRUE < true` and `TRUE + 1 < A` the word is a variable
  pub truths : guard_read_as (Word (codes "TRUE") ∷ Joining Wedge ∷ Word (codes "true") ∷ [])
      ≡ Some (plain.Always ∷ plain.Always ∷ [])
  pub named : guard_read_as (Word (codes "TRUE") ∷ Related LessThanSign ∷ Word (codes "true") ∷ [])
      ≡ Some (plain.Compare (Variable 0) LessThan (Variable 1) ∷ [])
  pub added : guard_read_as (Word (codes "TRUE") ∷ Plus ∷ one ∷ Related LessThanSign ∷ a ∷ [])
      ≡ Some (plain.Compare (Addition (Variable 0) (Literal (pos 1))) LessThan (Variable 1) ∷ [])
  -- the empty text, `A`, `True`, `(TRUE)`, `A < B < A`, `A < ` and `A < B &&` are no guards
  pub nothing : guard_read_as [] ≡ None
  pub name : guard_read_as (a ∷ []) ≡ None
  pub other_letters : guard_read_as (Word (codes "True") ∷ []) ≡ None
  pub in_brackets : guard_read_as (Open ∷ Word (codes "TRUE") ∷ Close ∷ []) ≡ None
  pub two_relations : guard_read_as (a ∷ Related LessThanSign ∷ b ∷ Related LessThanSign ∷ a ∷ []) ≡ None
  pub left_alone : guard_read_as (a ∷ Related LessThanSign ∷ []) ≡ None
  pub joined : guard_read_as (a ∷ Related LessThanSign ∷ b ∷ Joining Ampersands ∷ []) ≡ None

-- All worked values of this file.
pub record WorkedValues : Type 0 where
  pub expressions : Expressions
  pub guards : Guards
