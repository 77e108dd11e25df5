-- Copies of a program's symbols, cases by which its rules lead from copy to copy, and the program that these spell.
use Rattle.std.specs.Prelude.{◌≡◌, ℕ, zero, suc, ◌≤ℤ◌, List, [], ◌∷◌, ◌++◌, map, ℤ, pos, Option, Some, None, slice_get}
use Rattle.std.specs.List.{All}
use Rattle.model.specs.Terms.{Term, Literal, value}
use Rattle.model.specs.Programs.{Name, AtLeast, LessThan, Atom, Compare, Symbol, Rule, Program, rule_at, arity_of}
use Rattle.model.specs.Runs.{Config}
use Rattle.refinement.specs.Simulation.{Projection}

-- a copy of a symbol: its name, the symbol, and the expressions over its places that are at least 0 there
pub record Copy : Type 0 where
  pub name : Name
  pub over : ℕ
  pub facts : List Term

-- how a rule leads from a copy: to a copy; nowhere, since it is never enabled there; or by whether an expression over
-- the rule's variables is at least 0
pub data Cases : Type 0 where
  To : ℕ → Cases
  Never : Cases
  If : Term → Cases → Cases → Cases

-- a rule at a copy of its source, with its cases
pub record Branch : Type 0 where
  pub source : ℕ
  pub rule : ℕ
  pub cases : Cases

-- copies of a program's symbols, the first one being the start, and the branches of its rules
pub record Section : Type 0 where
  pub copies : List Copy
  pub branches : List Branch

-- the atom that the expression is at least 0
abbrev pub passes : Term → Atom
passes f = Compare f AtLeast (Literal (pos 0))

-- the atom that the expression is below 0
abbrev pub fails : Term → Atom
fails f = Compare f LessThan (Literal (pos 0))

-- a path through cases to a copy, with the atoms that hold along it
pub record Path : Type 0 where
  pub atoms : List Atom
  pub copy : ℕ

-- the paths to copies, in order, after these atoms
abbrev pub paths : List Atom → Cases → List Path
paths atoms (To k) = record { atoms = atoms; copy = k } ∷ []
paths atoms Never = []
paths atoms (If f yes_cases no_cases) =
    paths (atoms ++ passes f ∷ []) yes_cases ++ paths (atoms ++ fails f ∷ []) no_cases

-- the symbol of a copy, 0 if there is no copy
abbrev pub symbol_below : Option Copy → ℕ
symbol_below None = 0
symbol_below (Some c) = c.over

-- the facts of a copy, none if there is no copy
abbrev pub facts_in : Option Copy → List Term
facts_in None = []
facts_in (Some c) = c.facts

-- the facts of the copy with a number
abbrev pub facts_of : Section → ℕ → List Term
facts_of section k = facts_in (slice_get section.copies k)

-- a rule from a copy of its source to the end of a path, with the atoms along the path in its guard
abbrev pub rule_along : ℕ → Rule → Path → Rule
rule_along source r path = record {
  source = source;
  target = path.copy;
  left = r.left;
  free = r.free;
  names = r.names;
  updates = r.updates;
  guard = r.guard ++ path.atoms;
  cost = r.cost;
}

-- a rule of the spelled program, and the number of the rule that it is a copy of
pub record RuleCopy : Type 0 where
  pub of_rule : ℕ
  pub rule : Rule

-- the copies of a rule, if there is one, along the paths of a branch
abbrev pub copies_along : Branch → Option Rule → List Path → List RuleCopy
copies_along b None ends = []
copies_along b (Some r) ends = map (λ path. record { of_rule = b.rule; rule = rule_along b.source r path }) ends

-- the copies of a branch's rule: one for each path to a copy, after the facts of its source
abbrev pub copies_by : Program → Section → Branch → List RuleCopy
copies_by p section b =
    copies_along b (rule_at p b.rule) (paths (map passes (facts_of section b.source)) b.cases)

-- the copies of all rules, by branches in order
abbrev pub rule_copies : Program → Section → List Branch → List RuleCopy
rule_copies p section [] = []
rule_copies p section (b ∷ branches) = copies_by p section b ++ rule_copies p section branches

-- the symbol that a copy becomes: it has as many places as the symbol below
abbrev pub symbol_by : Program → Copy → Symbol
symbol_by p c = record { name = c.name; arity = arity_of p c.over }

-- the program that a section spells: its symbols are the copies, the first one is the start, and its rules are the
-- copies of rules
abbrev pub spelled : Program → Section → Program
spelled p section = record {
  symbols = map (symbol_by p) section.copies;
  start = 0;
  start_names = p.start_names;
  rules = map (λ c. c.rule) (rule_copies p section section.branches);
}

-- the number of the rule below a copy of a rule, 0 if there is none
abbrev pub rule_below : Option RuleCopy → ℕ
rule_below None = 0
rule_below (Some c) = c.of_rule

-- the rule below the rule with a number; the virtual entry is below itself
abbrev pub rule_number_below : List RuleCopy → ℕ → ℕ
rule_number_below copies zero = 0
rule_number_below copies (suc t) = rule_below (slice_get copies t)

-- the spelled program projects to the program by the symbols below its copies and the rules below its rules
abbrev pub projection_of : Program → Section → Projection
projection_of p section = record {
  symbol = λ k. symbol_below (slice_get section.copies k);
  rule = rule_number_below (rule_copies p section section.branches);
}

-- each of the expressions is at least 0 at the values
abbrev pub AreAtLeastZero : List Term → List ℤ → Type 0
AreAtLeastZero facts values = All (λ f. pos 0 ≤ℤ value f values) facts

-- the configuration is at a copy, and its values meet the copy's facts
pub record HasFactsOf (section : Section) (c : Config) : Type 0 where
  pub copy : Copy
  pub there : slice_get section.copies c.at ≡ Some copy
  pub facts : AreAtLeastZero copy.facts c.values
