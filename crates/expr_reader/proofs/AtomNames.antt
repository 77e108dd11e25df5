-- Names that come later change no term of an atom.
use Rattle.std.proofs.Common.{◌≡◌, List, refl, ap, sym, ◌∙◌, map}
use Rattle.model.specs.Programs.{Name}
use Rattle.expr_text.specs.Trees.{Sum}
use Rattle.expr_text.specs.Terms.{with_sum, sum_term}
use Rattle.expr_text.specs.Guards.{Atom, Always, Compared, Atoms, First, Joined, with_atoms, atom_term, atoms_terms}
use Rattle.expr_text.specs.GuardGrammarStates.{Conjoined, NoAtoms, JointAfter}
use Rattle.expr_text.specs.StateNames.{with_conjoined}
use Rattle.expr_text.specs.TermGrammarStates.{limited}
use Rattle.expr_text.proofs.Stability.{sum_is_read}
use Rattle.expr_text.proofs.NamesRead.{Extends, term_along, AtomReads, AtomsRead, atoms_are_read}
use Rattle.expr_reader.specs.GuardRepresentation.{limited_atom, atoms_before}

-- the term of an atom is the same over an extension of its names
atom_stays : (names more : List Name) (a : Atom) → Extends names more → AtomReads names a → atom_term more a ≡ atom_term names a
atom_stays names more (Always t) e h = refl
atom_stays names more (Compared l sign r) e h = rw (term_along names more l e h.0, term_along names more r e h.1) refl

atoms_stay : (names more : List Name) (atoms : Atoms) → Extends names more → AtomsRead names atoms → atoms_terms more atoms ≡ atoms_terms names atoms
atoms_stay names more (First a) e h = rw (atom_stays names more a e h) refl
atoms_stay names more (Joined atoms joint a) e h = rw (atoms_stay names more atoms e h.0, atom_stays names more a e h.1) refl

-- the atoms before an atom are the same over any extension of their variables
before_stay : (before names : List Name) (c : Conjoined) → Extends (with_conjoined before c) names → atoms_before names c ≡ atoms_before (with_conjoined before c) c
before_stay before names NoAtoms e = refl
before_stay before names (JointAfter atoms joint) e = ap (map limited_atom) (atoms_stay (with_atoms before atoms) names atoms e (atoms_are_read before atoms))

-- the atoms before an atom are the same over any two extensions of their variables
pub before_kept : (before names more : List Name) (c : Conjoined) → Extends (with_conjoined before c) names → Extends (with_conjoined before c) more → atoms_before names c ≡ atoms_before more c
before_kept before names more c a b = before_stay before names c a ∙ sym (before_stay before more c b)

-- an expression is the same over any two extensions of its variables
pub sum_kept : (before names more : List Name) (s : Sum) → Extends (with_sum before s) names → Extends (with_sum before s) more → limited (sum_term names s) ≡ limited (sum_term more s)
sum_kept before names more s a b = ap limited (term_along (with_sum before s) names s a (sum_is_read before s) ∙ sym (term_along (with_sum before s) more s b (sum_is_read before s)))
