-- Sections with certificates: multipliers show that each guard that has to be unsatisfiable has no point.
use Rattle.std.specs.Prelude.{ℕ, List}
use Rattle.refinement.specs.model.Programs.{Atom, Rule, Program}
use Rattle.refinement.specs.Sections.{Section}
use Rattle.refinement.specs.Obligations.{IsShownBy}
use Rattle.guard_prep.specs.linear_forms.Certificates.{Implies, minus_one}
use Rattle.guard_prep.specs.Laws.{IsPreparable}
use Rattle.guard_prep.specs.Prepared.{rows_of}

-- a rule with another guard
abbrev pub with_guard : Rule → List Atom → Rule
with_guard r atoms = record {
  source = r.source;
  target = r.target;
  left = r.left;
  free = r.free;
  names = r.names;
  updates = r.updates;
  guard = atoms;
  cost = r.cost;
}

-- the rule with the atoms as its guard has rows, and the multipliers show that -1 follows from them
pub record Refutes (r : Rule) (atoms : List Atom) (multipliers : List ℕ) : Type 0 where
  pub preparable : IsPreparable (with_guard r atoms)
  pub shows : Implies (rows_of (with_guard r atoms)) multipliers minus_one

-- some multipliers refute the atoms as the rule's guard
pub record IsRefuted (r : Rule) (atoms : List Atom) : Type 0 where
  pub multipliers : List ℕ
  pub refutes : Refutes r atoms multipliers

-- a section is certified if each guard that has to be unsatisfiable is refuted
abbrev pub IsCertified : Program → Section → Type 0
IsCertified p section = IsShownBy IsRefuted p section
