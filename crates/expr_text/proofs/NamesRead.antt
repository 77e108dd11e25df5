-- The names of expressions and of atoms are among the variables known once they are read, and among any extension of
-- these: names that come later change no term.
use Rattle.std.proofs.Common.{◌≡◌, List, [], ◌++◌, append-nil, ap, sym, subst, ◌∙◌}
use Rattle.std.specs.Prelude.{⊤}
use Rattle.its_model.specs.model.Programs.{Name}
use Rattle.expr_text.specs.Trees.{Sum}
use Rattle.expr_text.specs.Terms.{with_sum, sum_term}
use Rattle.expr_text.specs.Guards.{Atom, Always, Compared, Atoms, First, Joined, with_atom, with_atoms}
use Rattle.expr_text.proofs.Stability.{extended, sum_extends, SumReads, sum_reads_more, sum_is_read, sum_term_stays}

-- a list of names extends another: its first names are those of the other
abbrev pub Extends : List Name → List Name → Type 0
Extends names more = (new : List Name) × (more ≡ names ++ new)

-- a list of names extends itself
pub extends_self : (names : List Name) → Extends names names
extends_self names = ([], sym (append-nil names))

-- if the names of an expression are among some, they are among any extension of these
pub sum_along : (names more : List Name) (s : Sum) → Extends names more → SumReads names s → SumReads more s
sum_along names more s e h = subst (λ ns. SumReads ns s) (sym e.1) (sum_reads_more names e.0 s h)

-- the term of an expression is the same over an extension of its names
pub term_along : (names more : List Name) (s : Sum) → Extends names more → SumReads names s
    → sum_term more s ≡ sum_term names s
term_along names more s e h = ap (λ ns. sum_term ns s) e.1 ∙ sum_term_stays names e.0 s h

-- the names of an atom are among these
abbrev pub AtomReads : List Name → Atom → Type 0
AtomReads names (Always t) = ⊤
AtomReads names (Compared l sign r) = SumReads names l × SumReads names r

abbrev pub AtomsRead : List Name → Atoms → Type 0
AtomsRead names (First a) = AtomReads names a
AtomsRead names (Joined atoms joint a) = AtomsRead names atoms × AtomReads names a

-- if the names of an atom are among some, they are among any extension of these
atom_along : (names more : List Name) (a : Atom) → Extends names more → AtomReads names a → AtomReads more a
atom_along names more (Always t) e h = tt
atom_along names more (Compared l sign r) e h = (sum_along names more l e h.0, sum_along names more r e h.1)

-- if the names of several atoms are among some, they are among any extension of these
pub atoms_along : (names more : List Name) (atoms : Atoms) → Extends names more → AtomsRead names atoms
    → AtomsRead more atoms
atoms_along names more (First a) e h = atom_along names more a e h
atoms_along names more (Joined atoms joint a) e h = (atoms_along names more atoms e h.0, atom_along names more a e h.1)

-- The variables known after an atom extend those before it.
atom_extends : (names : List Name) (a : Atom) → Extends names (with_atom names a)
atom_extends names (Always t) = extends_self names
atom_extends names (Compared l sign r) =
    extended names (with_sum names l) (with_sum (with_sum names l) r) (sum_extends names l)
    (sum_extends (with_sum names l) r)

-- the variables known after several atoms extend those before them
pub atoms_extends : (names : List Name) (atoms : Atoms) → Extends names (with_atoms names atoms)
atoms_extends names (First a) = atom_extends names a
atoms_extends names (Joined atoms joint a) =
    extended names (with_atoms names atoms) (with_atom (with_atoms names atoms) a) (atoms_extends names atoms)
    (atom_extends (with_atoms names atoms) a)

-- the names of an atom are among the variables known once it is read
atom_is_read : (names : List Name) (a : Atom) → AtomReads (with_atom names a) a
atom_is_read names (Always t) = tt
atom_is_read names (Compared l sign r) = (
  sum_along (with_sum names l) (with_sum (with_sum names l) r) l (sum_extends (with_sum names l) r)
      (sum_is_read names l),
  sum_is_read (with_sum names l) r,
)

-- the names of several atoms are among the variables known once they are read
pub atoms_are_read : (names : List Name) (atoms : Atoms) → AtomsRead (with_atoms names atoms) atoms
atoms_are_read names (First a) = atom_is_read names a
atoms_are_read names (Joined atoms joint a) = (
  atoms_along (with_atoms names atoms) (with_atom (with_atoms names atoms) a) atoms
      (atom_extends (with_atoms names atoms) a) (atoms_are_read names atoms),
  atom_is_read (with_atoms names atoms) a,
)
