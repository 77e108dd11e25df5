-- The faults that prevent the expansion of an expression or an atom, as plain data.
use Rattle.std.specs.Prelude.{Bool, true, false, not, List, Option, Some, None, if◌then◌else◌}
use Rattle.model.specs.Programs.{Name}
use Rattle.model.specs.Terms.{Term, Literal, Variable, Negation, Addition, Subtraction, Multiplication, Exponentiation}
use Rattle.poly_terms.specs.Faults.{Fault, LargeCoefficient, ManyTerms, HighDegree}
use Rattle.expr_text.specs.Pieces.{Sign, Piece}
use Rattle.expr_text.specs.Trees.{Sum}
use Rattle.expr_text.specs.Terms.{sum_term}
use Rattle.expr_text.specs.Steps.{finish}
use Rattle.expr_text.specs.Guards.{relation_of}
use Rattle.expr_text.specs.GuardGrammarStates.{GuardGrammarState, LeftSide, RightSide}
use Rattle.expr_text.specs.GrammarStates.{GrammarState}
use Rattle.expr_text.specs.StateNames.{goes_on_with}
use Rattle.expr_text.specs.Differences.{differences, first_of_all}
use Rattle.expr_reader.specs.declared.expansion.Unexpanded.{Unexpanded}
use Rattle.expr_reader.specs.declared.expansion.Unexpanded.TheVariants.{CoefTooLarge, TooManyTerms, DegreeTooHigh}

-- the plain fault of a fault of the code
abbrev pub kind_of : Unexpanded → Fault
kind_of CoefTooLarge = LargeCoefficient
kind_of TooManyTerms = ManyTerms
kind_of DegreeTooHigh = HighDegree

-- the optional fault as plain data
abbrev pub fault_of : Option Unexpanded → Option Fault
fault_of None = None
fault_of (Some u) = Some (kind_of u)

-- an expression is a difference
abbrev pub is_difference : Term → Bool
is_difference (Subtraction l r) = true
is_difference (Literal z) = false
is_difference (Variable i) = false
is_difference (Negation e) = false
is_difference (Addition l r) = false
is_difference (Multiplication l r) = false
is_difference (Exponentiation e n) = false

-- an expression ends before a piece, as the piece doesn't continue it
abbrev pub ends_before : GrammarState → Option Piece → Bool
ends_before e None = true
ends_before e (Some p) = not (goes_on_with e p)

-- the fault of an atom whose right side ends: that of its differences, over variables with these names
abbrev pub compared_fault : List Name → Sum → Sign → Option Sum → Option Fault
compared_fault names l sign None = None
compared_fault names l sign (Some r) =
    first_of_all (differences (sum_term names l) (relation_of sign) (sum_term names r))

-- the fault of the atom that ends before the next piece
abbrev pub atom_fault : List Name → GuardGrammarState → Option Piece → Option Fault
atom_fault names (LeftSide c e) next = None
atom_fault names (RightSide c l sign e) next =
    if ends_before e next then compared_fault names l sign (finish e) else None
