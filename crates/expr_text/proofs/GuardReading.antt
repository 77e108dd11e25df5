-- Each guard can be read: its pieces lead from state to state, within any larger text that contains it.
use Rattle.std.specs.Prelude.{◌≡◌, List, [], ◌∷◌, Some, refl}
use Rattle.std.proofs.Common.{ap}
use Rattle.expr_text.specs.Pieces.{Piece, Word, Related, Joining}
use Rattle.expr_text.specs.Trees.{Named, sum_behind}
use Rattle.expr_text.specs.GrammarStates.{empty_level, beginning}
use Rattle.expr_text.specs.Steps as inner
use Rattle.expr_text.specs.Guards.{Capitals, Smalls, Atom, Always, Compared, Atoms, First, Joined, truth_word}
use Rattle.expr_text.specs.Guards.{atom_behind, atoms_behind}
use Rattle.expr_text.specs.GuardGrammarStates.{Conjoined, NoAtoms, JointAfter, GuardGrammarState, LeftSide, RightSide, no_atoms}
use Rattle.expr_text.specs.GuardGrammarStates.{atoms_with, compared, ended, finish, within, step}
use Rattle.expr_text.proofs.Ending.{related_step, joining_step}
use Rattle.expr_text.proofs.Reading.{behind_sum, sum_finish, expression_is_read}

-- the state after an atom, and the state after atoms
abbrev pub behind_atom : Conjoined → Atom → GuardGrammarState
behind_atom c (Always t) = LeftSide c (inner.read [] empty_level (Named (truth_word t)))
behind_atom c (Compared l sign r) = RightSide c l sign (behind_sum [] r)

abbrev pub behind_atoms : Atoms → GuardGrammarState
behind_atoms (First a) = behind_atom NoAtoms a
behind_atoms (Joined atoms joint a) = behind_atom (JointAfter atoms joint) a

atom_finish : (c : Conjoined) (a : Atom) → finish (behind_atom c a) ≡ Some (atoms_with c a)
atom_finish c (Always Capitals) = refl
atom_finish c (Always Smalls) = refl
atom_finish c (Compared l sign r) = ap (λ o. ended c (compared l sign o)) (sum_finish r)

-- the guard can end after its atoms
pub atoms_finish : (atoms : Atoms) → finish (behind_atoms atoms) ≡ Some atoms
atoms_finish (First a) = atom_finish NoAtoms a
atoms_finish (Joined atoms joint a) = atom_finish (JointAfter atoms joint) a

-- pieces of a larger text lead to a guard's state, and each piece that continues the guard leads to its next state
module _ {P : Type 0} (into : Piece → P) (At : List P → GuardGrammarState → Type 0)
    (steps : (done : List P) (g h : GuardGrammarState) (p : Piece) → At done g → step g p ≡ Some h → At (into p ∷ done) h) where
  atom_from : (c : Conjoined) (a : Atom) (done : List P) → At done (LeftSide c beginning) → At (atom_behind into a done) (behind_atom c a)
  atom_from c (Always t) done h = steps done (LeftSide c beginning) (LeftSide c (inner.read [] empty_level (Named (truth_word t)))) (Word (truth_word t)) h refl
  atom_from c (Compared l sign r) done h =
      expression_is_read into (λ behind e. At behind (RightSide c l sign e))
      (λ behind e f p at same. steps behind (RightSide c l sign e) (RightSide c l sign f) p at (ap (λ o. within (RightSide c l sign e) o p) same))
      r (into (Related sign) ∷ sum_behind into l done)
      (steps (sum_behind into l done) (LeftSide c (behind_sum [] l)) (RightSide c l sign beginning) (Related sign)
      (expression_is_read into (λ behind e. At behind (LeftSide c e))
      (λ behind e f p at same. steps behind (LeftSide c e) (LeftSide c f) p at (ap (λ o. within (LeftSide c e) o p) same))
      l done h)
      (related_step c (behind_sum [] l) l sign (sum_finish l)))

  -- the pieces of a guard lead from its beginning to a state in which it can end
  pub guard_is_read : (atoms : Atoms) (done : List P) → At done no_atoms → At (atoms_behind into atoms done) (behind_atoms atoms)
  guard_is_read (First a) done h = atom_from NoAtoms a done h
  guard_is_read (Joined atoms joint a) done h =
      atom_from (JointAfter atoms joint) a (into (Joining joint) ∷ atoms_behind into atoms done)
      (steps (atoms_behind into atoms done) (behind_atoms atoms) (LeftSide (JointAfter atoms joint) beginning) (Joining joint)
      (guard_is_read atoms done h) (joining_step (behind_atoms atoms) atoms joint (atoms_finish atoms)))
