-- The state of parsing a guard, and its steps.
use Rattle.std.specs.Prelude.{ℕ, zero, List, [], ◌∷◌, codes, if◌then◌else◌, Option, Some, None}
use Rattle.its_model.specs.model.Programs.{Name}
use Rattle.its_model.specs.text_core.Names.{is_same}
use Rattle.expr_text.specs.Pieces.{Sign, Joint, Piece, Related, Joining}
use Rattle.expr_text.specs.Trees.{Sum, Named, sum_behind}
use Rattle.expr_text.specs.GrammarStates.{GrammarState, Level, Operand, BaseRead, Summed, NoSum, Factored, NoProduct, beginning}
use Rattle.expr_text.specs.GrammarStates.{behind_state}
use Rattle.expr_text.specs.Steps as inner
use Rattle.expr_text.specs.Guards.{Capitals, Smalls, Atom, Always, Compared, Atoms, First, Joined, atoms_behind}

-- the part before an atom: nothing, or atoms and a conjunction sign
pub data Conjoined : Type 0 where
  NoAtoms : Conjoined
  JointAfter : Atoms → Joint → Conjoined

-- the part that has been read: part of an atom's left side; or that side, the relation, and part of the right side
pub data GuardGrammarState : Type 0 where
  LeftSide : Conjoined → GrammarState → GuardGrammarState
  RightSide : Conjoined → Sum → Sign → GrammarState → GuardGrammarState

-- no atom has been read
abbrev pub no_atoms : GuardGrammarState
no_atoms = LeftSide NoAtoms beginning

module _ {P : Type 0} (into : Piece → P) where
  -- the pieces of atoms and a conjunction sign, appended to those before them, the last one first
  abbrev pub conjoined_behind : Conjoined → List P → List P
  conjoined_behind NoAtoms before = before
  conjoined_behind (JointAfter atoms joint) before = into (Joining joint) ∷ atoms_behind into atoms before

  abbrev pub guard_behind : GuardGrammarState → List P → List P
  guard_behind (LeftSide c e) before = behind_state into e (conjoined_behind c before)
  guard_behind (RightSide c l sign e) before =
      behind_state into e (into (Related sign) ∷ sum_behind into l (conjoined_behind c before))

-- the atoms before this one, and this one
abbrev pub atoms_with : Conjoined → Atom → Atoms
atoms_with NoAtoms a = First a
atoms_with (JointAfter atoms joint) a = Joined atoms joint a

-- the atom that always holds, if this name is its word
abbrev pub truth_named : Name → Option Atom
truth_named name =
    if is_same name (codes "TRUE") then Some (Always Capitals)
    else if is_same name (codes "true") then Some (Always Smalls) else None

-- the atom that always holds, if its word is all that has been read
abbrev pub truth_at : Summed → Factored → ℕ → Operand → Option Atom
truth_at NoSum NoProduct zero (BaseRead (Named name)) = truth_named name
truth_at _ _ _ _ = None

abbrev pub truth_in : List Level → Level → Operand → Option Atom
truth_in [] level operand = truth_at level.sum level.product level.minuses operand
truth_in (l ∷ outer) level operand = None

abbrev pub truth_of : GrammarState → Option Atom
truth_of e = truth_in e.outer e.level e.operand

-- the atom of two expressions and a relation, if the right one can end
abbrev pub compared : Sum → Sign → Option Sum → Option Atom
compared l sign None = None
compared l sign (Some r) = Some (Compared l sign r)

-- the atoms so far with an atom, if there is one
abbrev pub ended : Conjoined → Option Atom → Option Atoms
ended c None = None
ended c (Some a) = Some (atoms_with c a)

-- the guard that ends here, if it can
abbrev pub finish : GuardGrammarState → Option Atoms
finish (LeftSide c e) = ended c (truth_of e)
finish (RightSide c l sign e) = ended c (compared l sign (inner.finish e))

-- the state after atoms and a conjunction sign, if the atoms can end there
abbrev pub joined : Joint → Option Atoms → Option GuardGrammarState
joined joint None = None
joined joint (Some atoms) = Some (LeftSide (JointAfter atoms joint) beginning)

-- the state after a left side and a relation, if the left side can end there
abbrev pub related : Conjoined → Sign → Option Sum → Option GuardGrammarState
related c sign None = None
related c sign (Some l) = Some (RightSide c l sign beginning)

-- the state after a piece that doesn't continue the expression
abbrev pub step_behind : GuardGrammarState → Piece → Option GuardGrammarState
step_behind (LeftSide c e) (Related sign) = related c sign (inner.finish e)
step_behind (RightSide c l sign e) (Related other) = None
step_behind g (Joining joint) = joined joint (finish g)
step_behind g _ = None

-- the state after a piece that continues the expression; otherwise the state after the expression ends
abbrev pub within : GuardGrammarState → Option GrammarState → Piece → Option GuardGrammarState
within (LeftSide c e) (Some more) p = Some (LeftSide c more)
within (RightSide c l sign e) (Some more) p = Some (RightSide c l sign more)
within g None p = step_behind g p

-- the expression that is being read
abbrev pub expression_in : GuardGrammarState → GrammarState
expression_in (LeftSide c e) = e
expression_in (RightSide c l sign e) = e

-- the state after a piece
abbrev pub step : GuardGrammarState → Piece → Option GuardGrammarState
step g p = within g (inner.step (expression_in g) p) p
