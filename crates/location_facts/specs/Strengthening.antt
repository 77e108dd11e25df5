-- Programs strengthened by facts: each guard also states the facts that hold at the source of its rule.
use Rattle.std.specs.Prelude.{ℕ, zero, suc, ◌+◌, ◌-◌, ◌&&◌, nat_eq, if◌then◌else◌, List, [], ◌∷◌, ◌++◌, map, take}
use Rattle.std.specs.Prelude.{length}
use Rattle.std.specs.Prelude.{Option, Some, None, ℤ, pos, int_lt}
use Rattle.std.specs.List.{range_with_len}
use Rattle.poly_terms.specs.model.Limits.{atom_limit}
use Rattle.poly_terms.specs.model.Terms.{Term, Literal, Variable, Negation, Subtraction}
use Rattle.poly_terms.specs.model.Programs.{Atom, Compare, AtLeast, Rule, Program}
use Rattle.its_model.specs.Valid.{cost_atoms}
use Rattle.location_facts.specs.declared.fact.LocFact.{LocFact}
use Rattle.location_facts.specs.Rows.{facts_at}

-- the value at one place less that at another, over the left variables of a rule; place 0 stands for the number 0
abbrev pub difference_term : ℕ → ℕ → Term
difference_term zero zero = Literal (pos 0)
difference_term zero (suc j) = Negation (Variable j)
difference_term (suc i) zero = Variable i
difference_term (suc i) (suc j) = Subtraction (Variable i) (Variable j)

-- the atom that says that this difference is at least a number
abbrev pub fact_atom : ℕ → ℕ → ℤ → Atom
fact_atom i j least = Compare (difference_term i j) AtLeast (Literal least)

-- the greater of a number and an optional one
abbrev pub greater : ℤ → Option ℤ → ℤ
greater a None = a
greater a (Some b) = if int_lt a b then b else a

-- the greatest least of the facts with these places and an optional earlier one; none if there is neither
abbrev pub greatest_least : ℕ → ℕ → Option ℤ → List LocFact → Option ℤ
greatest_least i j best [] = best
greatest_least i j best (f ∷ facts) =
    greatest_least i j (if nat_eq f.plus i && nat_eq f.minus j then Some (greater f.least best) else best) facts

-- the atom of two places with their greatest least, if there is one
abbrev pub atom_by : ℕ → ℕ → Option ℤ → List Atom
atom_by i j None = []
atom_by i j (Some least) = fact_atom i j least ∷ []

-- the atoms with this plus and a minus among places
abbrev pub atoms_with_plus : List LocFact → ℕ → List ℕ → List Atom
atoms_with_plus facts i [] = []
atoms_with_plus facts i (j ∷ js) = atom_by i j (greatest_least i j None facts) ++ atoms_with_plus facts i js

-- the atoms with a plus among these places, and any minus
abbrev pub atoms_with : List LocFact → List ℕ → List Atom
atoms_with facts [] = []
atoms_with facts (i ∷ places) = atoms_with_plus facts i (range_with_len 0 9) ++ atoms_with facts places

-- for each plus and minus, in order, the atom with the greatest least
abbrev pub strongest_atoms : List LocFact → List Atom
strongest_atoms facts = atoms_with facts (range_with_len 0 9)

-- how many more atoms a rule can have; its cost counts as one
abbrev pub room_for : Rule → ℕ
room_for r = atom_limit - (length r.guard + cost_atoms r.cost)

-- a rule whose guard is followed by the atoms of the facts at its source, as many as it can have
abbrev pub strengthened_rule : List LocFact → Rule → Rule
strengthened_rule kept r = record {
  source = r.source;
  target = r.target;
  left = r.left;
  free = r.free;
  names = r.names;
  updates = r.updates;
  guard = r.guard ++ take (room_for r) (strongest_atoms (facts_at r.source kept));
  cost = r.cost;
}

-- a program with each of its rules strengthened
abbrev pub strengthened : List LocFact → Program → Program
strengthened kept p = record {
  symbols = p.symbols;
  start = p.start;
  start_names = p.start_names;
  rules = map (strengthened_rule kept) p.rules;
}
