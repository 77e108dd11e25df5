-- Worked values: differences of relations, faults of atoms, and the effects of single signs.
use Rattle.std.specs.Prelude.{◌≡◌, List, [], ◌∷◌, pos, Some, None}
use Rattle.model.specs.Programs.{Name, AtLeast, MoreThan, AtMost, LessThan, EqualTo}
use Rattle.model.specs.Terms.{Literal, Variable, Subtraction}
use Rattle.poly_terms.specs.Faults.{HighDegree}
use Rattle.expr_text.specs.Pieces.{Close, Plus, Caret, Sign, AtLeastSign, Joining, Ampersands}
use Rattle.expr_text.specs.Trees.{Sum, Alone, Single, Plain, Number, Named, Base}
use Rattle.expr_text.specs.GrammarStates.{Operand, BaseRead, CaretRead, ExponentRead, empty_level}
use Rattle.expr_text.specs.GuardGrammarStates.{GuardGrammarState, LeftSide, RightSide, NoAtoms}
use Rattle.expr_text.specs.Differences.{differences}
use Rattle.expr_reader.specs.Faults.{atom_fault}
use Rattle.expr_reader.specs.WorkedSigns.{NumbersAreWorkedOut, SignsAreWorkedOut}

-- the variable A, the number 1, and the left side 1
abbrev pub a : Base
a = Named (65 ∷ [])

abbrev pub one : Base
one = Number (49 ∷ [])

abbrev pub left : Sum
left = Alone (Single (Plain one))

-- an atom with the left side 1 whose right side has been read up to an operand
abbrev pub read_to : Sign → Operand → GuardGrammarState
read_to sign operand = RightSide NoAtoms left sign (record { outer = []; level = empty_level; operand = operand })

abbrev pub names : List Name
names = (65 ∷ []) ∷ []

-- the differences of each relation
pub record Differences : Type 0 where
  pub at_least : differences (Variable 0) AtLeast (Variable 1) ≡ Subtraction (Variable 0) (Variable 1) ∷ []
  pub more_than : differences (Variable 0) MoreThan (Variable 1)
      ≡ Subtraction (Subtraction (Variable 0) (Variable 1)) (Literal (pos 1)) ∷ []
  pub at_most : differences (Variable 0) AtMost (Variable 1) ≡ Subtraction (Variable 1) (Variable 0) ∷ []
  pub less_than : differences (Variable 0) LessThan (Variable 1)
      ≡ Subtraction (Subtraction (Variable 1) (Variable 0)) (Literal (pos 1)) ∷ []
  pub equal : differences (Variable 0) EqualTo (Variable 1)
      ≡ Subtraction (Variable 0) (Variable 1) ∷ Subtraction (Variable 1) (Variable 0) ∷ []

-- `1 >= A ^ 9` has a fault where it ends, but none before `^`, after it, where it continues, or within its left side
pub record AtomFaults : Type 0 where
  pub at_the_end : atom_fault names (read_to AtLeastSign (ExponentRead a (57 ∷ []))) None ≡ Some HighDegree
  pub before_joint : atom_fault names (read_to AtLeastSign (ExponentRead a (57 ∷ []))) (Some (Joining Ampersands))
      ≡ Some HighDegree
  pub before_close : atom_fault names (read_to AtLeastSign (ExponentRead a (57 ∷ []))) (Some Close) ≡ Some HighDegree
  pub before_plus : atom_fault names (read_to AtLeastSign (ExponentRead a (57 ∷ []))) (Some Plus) ≡ None
  pub eighth : atom_fault names (read_to AtLeastSign (ExponentRead a (56 ∷ []))) None ≡ None
  pub base : atom_fault names (read_to AtLeastSign (BaseRead a)) (Some Caret) ≡ None
  pub caret : atom_fault names (read_to AtLeastSign (CaretRead a)) None ≡ None
  pub on_the_left : atom_fault names
      (LeftSide NoAtoms (record { outer = []; level = empty_level; operand = ExponentRead a (57 ∷ []) })) None ≡ None

pub record WorkedValues : Type 0 where
  pub relations : Differences
  pub faults : AtomFaults
  pub numbers : NumbersAreWorkedOut
  pub signs : SignsAreWorkedOut
