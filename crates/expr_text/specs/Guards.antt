-- Guards as they are written: atoms that are joined.
use Rattle.std.specs.Prelude.{ℕ, suc, List, [], ◌∷◌, ◌++◌, codes}
use Rattle.its_model.specs.model.Programs as plain
use Rattle.its_model.specs.model.Programs.{Name, Relation, AtLeast, MoreThan, AtMost, LessThan, EqualTo}
use Rattle.expr_text.specs.Pieces.{Sign, AtLeastSign, MoreThanSign, AtMostSign, LessThanSign, EqualSign}
use Rattle.expr_text.specs.Pieces.{DoubleEqualSign, Joint, Piece, Word, Related, Joining}
use Rattle.expr_text.specs.Trees.{Sum, sum_behind}
use Rattle.expr_text.specs.Terms.{with_sum, sum_term}

-- the atom that always holds is written in capital letters or in small ones
pub data Truth : Type 0 where
  Capitals : Truth
  Smalls : Truth

-- an atom: the one that always holds, or two expressions and a relation
pub data Atom : Type 0 where
  Always : Truth → Atom
  Compared : Sum → Sign → Sum → Atom

-- one atom or more, with conjunction signs between them, from the left
pub data Atoms : Type 0 where
  First : Atom → Atoms
  Joined : Atoms → Joint → Atom → Atoms

-- the word of the atom that always holds
abbrev pub truth_word : Truth → Name
truth_word Capitals = codes "TRUE"
truth_word Smalls = codes "true"

module _ {P : Type 0} (into : Piece → P) where
  -- the pieces of an atom, appended to those before them, the last one first
  abbrev pub atom_behind : Atom → List P → List P
  atom_behind (Always t) before = into (Word (truth_word t)) ∷ before
  atom_behind (Compared l sign r) before = sum_behind into r (into (Related sign) ∷ sum_behind into l before)

  -- the pieces of atoms, appended to those before them, the last one first
  abbrev pub atoms_behind : Atoms → List P → List P
  atoms_behind (First a) before = atom_behind a before
  atoms_behind (Joined atoms joint a) before = atom_behind a (into (Joining joint) ∷ atoms_behind atoms before)

-- how many atoms there are
abbrev pub count_of : Atoms → ℕ
count_of (First a) = 1
count_of (Joined atoms joint a) = suc (count_of atoms)

-- the relation that a sign denotes
abbrev pub relation_of : Sign → Relation
relation_of AtLeastSign = AtLeast
relation_of MoreThanSign = MoreThan
relation_of AtMostSign = AtMost
relation_of LessThanSign = LessThan
relation_of EqualSign = EqualTo
relation_of DoubleEqualSign = EqualTo

-- the variables known once an atom is read
abbrev pub with_atom : List Name → Atom → List Name
with_atom names (Always t) = names
with_atom names (Compared l sign r) = with_sum (with_sum names l) r

-- the variables known once atoms are read
abbrev pub with_atoms : List Name → Atoms → List Name
with_atoms names (First a) = with_atom names a
with_atoms names (Joined atoms joint a) = with_atom (with_atoms names atoms) a

-- the atom, with its variables numbered by these names
abbrev pub atom_term : List Name → Atom → plain.Atom
atom_term names (Always t) = plain.Always
atom_term names (Compared l sign r) = plain.Compare (sum_term names l) (relation_of sign) (sum_term names r)

-- the atoms, with their variables numbered by these names
abbrev pub atoms_terms : List Name → Atoms → List plain.Atom
atoms_terms names (First a) = atom_term names a ∷ []
atoms_terms names (Joined atoms joint a) = atoms_terms names atoms ++ atom_term names a ∷ []
