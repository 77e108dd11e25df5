-- Which written state the code's state within a guard represents, over the variables so far.
use Rattle.std.specs.Prelude.{◌≡◌, ◌<◌, Bool, true, false, List, [], ◌∷◌, ◌++◌, map, Option, Some, None}
use Rattle.poly_terms.specs.Views.{term_of}
use Rattle.poly_terms.specs.Faults.{Fault}
use Rattle.its_model.specs.Views.{atom_of, relation_of}
use Rattle.model.specs.Programs as plain
use Rattle.model.specs.Programs.{Name, Relation}
use Rattle.model.specs.Terms.{Term}
use Rattle.expr_text.specs.Pieces.{Sign, Piece, Joining}
use Rattle.expr_text.specs.Trees.{Sum}
use Rattle.expr_text.specs.Terms.{with_sum, sum_term}
use Rattle.expr_text.specs.GrammarStates.{GrammarState, beginning}
use Rattle.expr_text.specs.Steps as inner
use Rattle.expr_text.specs.Guards as guards
use Rattle.expr_text.specs.Guards.{Atoms, with_atoms, atoms_terms}
use Rattle.expr_text.specs.GuardGrammarStates.{Conjoined, NoAtoms, JointAfter, GuardGrammarState, LeftSide, RightSide, truth_of}
use Rattle.expr_text.specs.GuardGrammarStates.{joined, finish, step}
use Rattle.expr_text.specs.StateNames.{with_conjoined, operates, token_count}
use Rattle.expr_text.specs.TermGrammarStates.{limited}
use Rattle.expr_reader.specs.declared.guard.GuardState.TheVariants as places
use Rattle.expr_reader.specs.declared.guard.Related.{Related}
use Rattle.expr_reader.specs.declared.guard.GuardReader.{GuardReader}
use Rattle.expr_reader.specs.Faults.{ends_before, atom_fault}
use Rattle.expr_reader.specs.Standing.{RepresentsExpression, IsFresh, IsModest}

-- an atom whose exponents over 8 count as 9
abbrev pub limited_atom : plain.Atom → plain.Atom
limited_atom plain.Always = plain.Always
limited_atom (plain.Compare l relation r) = plain.Compare (limited l) relation (limited r)

-- the atoms, with variables numbered by these names and exponents over 8 counted as 9
abbrev pub atoms_of : List Name → Atoms → List plain.Atom
atoms_of names atoms = map limited_atom (atoms_terms names atoms)

-- the atoms before the one being read, with variables numbered by these names
abbrev pub atoms_before : List Name → Conjoined → List plain.Atom
atoms_before names NoAtoms = []
atoms_before names (JointAfter atoms joint) = atoms_of names atoms

-- the atoms that the code has read
abbrev pub atoms_in : GuardReader → List plain.Atom
atoms_in r = map atom_of r.atoms.items

-- the left side and the relation that the code has read, as plain data
pub record Relating : Type 0 where
  pub left : Term
  pub relation : Relation

abbrev pub relating_of : Related → Relating
relating_of r = record { left = term_of r.left; relation = relation_of r.rel }

abbrev pub relating_in : Option Related → Option Relating
relating_in None = None
relating_in (Some r) = Some (relating_of r)

-- an operator or a relation follows
abbrev pub is_operating : Option Piece → Bool
is_operating None = false
is_operating (Some p) = operates p

-- the written state is one in which an atom must follow
pub record IsWanting (before : List Name) (g : GuardGrammarState) (names : List Name) (r : GuardReader) : Type 0 where
  pub conjoined : Conjoined
  pub state_is_represented : g ≡ LeftSide conjoined beginning
  pub state_is : r.state ≡ places.AtomWanted
  pub names_are : names ≡ with_conjoined before conjoined
  pub atoms_are : atoms_in r ≡ atoms_before names conjoined
  pub expression : IsFresh r.expression

-- part of a left side has been read; if that is the word of the atom that always holds, an operator or a relation
-- follows
pub record IsInLeft (next : Option Piece) (before : List Name) (g : GuardGrammarState) (names : List Name)
    (r : GuardReader) : Type 0 where
  pub conjoined : Conjoined
  pub read : GrammarState
  pub state_is_represented : g ≡ LeftSide conjoined read
  pub begun : 0 < token_count read
  pub state_is : r.state ≡ places.LeftSide
  pub atoms_are : atoms_in r ≡ atoms_before names conjoined
  pub expression : RepresentsExpression (with_conjoined before conjoined) read names r.expression
  pub follows : is_operating next ≡ false → truth_of read ≡ None

-- a left side, a relation, and part of the right side have been read
pub record IsInRight (before : List Name) (g : GuardGrammarState) (names : List Name) (r : GuardReader) : Type 0 where
  pub conjoined : Conjoined
  pub left : Sum
  pub sign : Sign
  pub read : GrammarState
  pub state_is_represented : g ≡ RightSide conjoined left sign read
  pub state_is : r.state ≡ places.RightSide
  pub atoms_are : atoms_in r ≡ atoms_before names conjoined
  pub related_is : relating_in r.related
      ≡ Some (record { left = limited (sum_term names left); relation = guards.relation_of sign })
  pub expression : RepresentsExpression (with_sum (with_conjoined before conjoined) left) read names r.expression

-- the atom that always holds has been read, and neither an operator nor a relation follows
pub record IsAtTruth (next : Option Piece) (before : List Name) (g : GuardGrammarState) (names : List Name)
    (r : GuardReader) : Type 0 where
  pub conjoined : Conjoined
  pub read : GrammarState
  pub atom : guards.Atom
  pub state_is_represented : g ≡ LeftSide conjoined read
  pub truth_is : truth_of read ≡ Some atom
  pub state_is : r.state ≡ places.AtomRead
  pub names_are : names ≡ with_conjoined before conjoined
  pub atoms_are : atoms_in r ≡ atoms_before names conjoined ++ plain.Always ∷ []
  pub expression : IsFresh r.expression
  pub follows : is_operating next ≡ false

-- the code's state represents a written state, given the next piece
pub data Reads (next : Option Piece) (before : List Name) (g : GuardGrammarState) (names : List Name)
    (r : GuardReader) : Type 0 where
  reading_none : IsWanting before g names r → Reads next before g names r
  reading_left : IsInLeft next before g names r → Reads next before g names r
  reading_right : IsInRight before g names r → Reads next before g names r
  reading_truth : IsAtTruth next before g names r → Reads next before g names r

-- the state after atoms that have ended: only a conjunction sign can follow
abbrev pub joined_only : Option Atoms → Piece → Option GuardGrammarState
joined_only atoms (Joining joint) = joined joint atoms
joined_only atoms _ = None

-- an atom has ended
pub record IsEnded (next : Option Piece) (before : List Name) (g : GuardGrammarState) (names : List Name)
    (r : GuardReader) : Type 0 where
  pub atoms : Atoms
  pub finish_is : finish g ≡ Some atoms
  pub state_is : r.state ≡ places.AtomRead
  pub names_are : names ≡ with_atoms before atoms
  pub atoms_are : atoms_in r ≡ atoms_of names atoms
  pub expression : IsFresh r.expression
  pub joins : (p : Piece) → next ≡ Some p → step g p ≡ joined_only (finish g) p

-- part of the right side has been read, and the right side doesn't end before the next piece
pub record IsOpen (next : Option Piece) (before : List Name) (g : GuardGrammarState) (names : List Name)
    (r : GuardReader) : Type 0 where
  pub right : IsInRight before g names r
  pub goes_on : ends_before right.read next ≡ true → inner.finish right.read ≡ None

-- the code's state represents a written state, after the atom that ends before the next piece has been ended
pub data IsPartEnded (next : Option Piece) (before : List Name) (g : GuardGrammarState) (names : List Name)
    (r : GuardReader) : Type 0 where
  part_ended_none : IsWanting before g names r → IsPartEnded next before g names r
  part_ended_left : IsInLeft next before g names r → IsPartEnded next before g names r
  part_ended_right : IsOpen next before g names r → IsPartEnded next before g names r
  part_ended_end : IsEnded next before g names r → IsPartEnded next before g names r

-- the code ends an atom exactly if the written one ends, and finds the fault of the atom
pub record EndsPart (next : Option Piece) (old : GuardReader) (fault : Option Fault) (new : GuardReader) : Type 0 where
  pub part_ended : (before : List Name) (g : GuardGrammarState) (names : List Name) → Reads next before g names old
      → IsPartEnded next before g names new
  pub fault_is : (before : List Name) (g : GuardGrammarState) (names : List Name) → Reads next before g names old
      → fault ≡ atom_fault names g next

-- the code's state after a piece represents the written state after it; if the written text rejects the piece, nothing
-- changes
abbrev pub LeadsTo : Bool → Option Piece → List Name → Option GuardGrammarState → List Name → GuardReader → List Name
    → GuardReader → Type 0
LeadsTo true behind before None old r new q = ⊥
LeadsTo true behind before (Some g) old r new q = Reads behind before g new q
LeadsTo false behind before None old r new q = (new ≡ old) × (q ≡ r)
LeadsTo false behind before (Some g) old r new q = ⊥

pub record Takes (old : List Name) (r : GuardReader) (p : Piece) (behind : Option Piece) (taken : Bool)
    (new : List Name) (q : GuardReader) : Type 0 where
  pub each : (before : List Name) (g : GuardGrammarState) → IsPartEnded (Some p) before g old r → IsModest p
      → LeadsTo taken behind before (step g p) old r new q
