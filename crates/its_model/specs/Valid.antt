-- Valid programs: the properties of every program that is read, on which callers rely.
use Rattle.std.specs.Prelude.{◌≡◌, ℕ, ◌+◌, ◌≤◌, ◌<◌, nat_eq, length, map, pos, Option, Some, None, IsTrue, ⊤}
use Rattle.std.specs.List.{AllByRecursion, list_any}
use Rattle.poly_terms.specs.model.Limits.{rule_limit, place_limit, variable_limit, atom_limit}
use Rattle.poly_terms.specs.model.Terms.{Term, Literal, Subtraction}
use Rattle.poly_terms.specs.model.Programs.{Relation, AtLeast, MoreThan, AtMost, LessThan, EqualTo, Atom, Always}
use Rattle.poly_terms.specs.model.Programs.{Compare, Symbol}
use Rattle.poly_terms.specs.model.Programs.{Rule, Program, arity_of}
use Rattle.poly_terms.specs.Checked.{ReadsBelow}
use Rattle.poly_terms.specs.Faults.{first_fault}
use Rattle.text_core.specs.Names.{IsName, AreDistinct}

-- The difference of a comparison, which is at least 0 exactly if the comparison holds: over integers, x > y is x - y -
-- 1 >= 0. That of an equation is its left side minus its right one, which has to be 0.
abbrev pub difference_of : Term → Relation → Term → Term
difference_of d AtLeast e = Subtraction d e
difference_of d MoreThan e = Subtraction (Subtraction d e) (Literal (pos 1))
difference_of d AtMost e = Subtraction e d
difference_of d LessThan e = Subtraction (Subtraction e d) (Literal (pos 1))
difference_of d EqualTo e = Subtraction d e

-- An expression over the variables below n can be expanded.
pub record IsValidTerm (n : ℕ) (t : Term) : Type 0 where
  pub variables : ReadsBelow n t
  pub expands : first_fault t ≡ None

-- A comparison is over the variables below n, and its difference can be expanded.
pub record IsValidComparison (n : ℕ) (d : Term) (r : Relation) (e : Term) : Type 0 where
  pub left : ReadsBelow n d
  pub right : ReadsBelow n e
  pub expands : first_fault (difference_of d r e) ≡ None

-- An atom is the one that always holds, or a valid comparison.
abbrev pub IsValidAtom : ℕ → Atom → Type 0
IsValidAtom n Always = ⊤
IsValidAtom n (Compare d r e) = IsValidComparison n d r e

-- A cost annotation, if there is one, is an expression that can be expanded.
abbrev pub IsValidCost : ℕ → Option Term → Type 0
IsValidCost n None = ⊤
IsValidCost n (Some c) = IsValidTerm n c

-- A cost annotation counts as one atom.
abbrev pub cost_atoms : Option Term → ℕ
cost_atoms None = 0
cost_atoms (Some c) = 1

-- A symbol has a name, and at most 32 places.
pub record IsValidSymbol (s : Symbol) : Type 0 where
  pub name : IsName s.name
  pub arity : s.arity ≤ place_limit

-- A rule leads from one symbol of the program to another; it has a left variable for each place of the source, an
-- update for each place of the target, distinct names for all its variables, at most 64 of them, and at most 64 atoms,
-- of which its cost counts as one.
pub record IsValidRule (p : Program) (r : Rule) : Type 0 where
  pub source : r.source < length p.symbols
  pub target : r.target < length p.symbols
  pub left : r.left ≡ arity_of p r.source
  pub places : length r.updates ≡ arity_of p r.target
  pub named : length r.names ≡ r.left + r.free
  pub names : AllByRecursion IsName r.names
  pub distinct : AreDistinct r.names
  pub few_variables : r.left + r.free ≤ variable_limit
  pub few_atoms : length r.guard + cost_atoms r.cost ≤ atom_limit
  pub updates : AllByRecursion (IsValidTerm (r.left + r.free)) r.updates
  pub guard : AllByRecursion (IsValidAtom (r.left + r.free)) r.guard
  pub cost : IsValidCost (r.left + r.free) r.cost

-- A program is valid: it has at most 1,000 rules; its rules and symbols are valid; the names of the symbols differ; and
-- the start symbol is the source of some rule and has a name for each of its places.
pub record IsValid (p : Program) : Type 0 where
  pub symbols : AllByRecursion IsValidSymbol p.symbols
  pub distinct : AreDistinct (map (λ s. s.name) p.symbols)
  pub few_rules : length p.rules ≤ rule_limit
  pub rules : AllByRecursion (IsValidRule p) p.rules
  pub start : p.start < length p.symbols
  pub start_is_source : IsTrue (list_any (λ r. nat_eq p.start r.source) p.rules)
  pub start_places : length p.start_names ≡ arity_of p p.start
  pub start_names : AllByRecursion IsName p.start_names
  pub start_distinct : AreDistinct p.start_names
