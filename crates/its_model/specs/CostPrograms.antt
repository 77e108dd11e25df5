-- The program of a rule's cost, whose one rule leads to a configuration with the cost.
use Rattle.std.specs.Prelude.{◌≡◌, ◌↔◌, ℕ, List, [], ◌∷◌, ◌++◌, length, take, if◌then◌else◌, ℤ, pos, ◌≤ℤ◌, Some}
use Rattle.std.specs.Prelude.{slice_get}
use Rattle.poly_terms.specs.model.Terms.{Term, value}
use Rattle.poly_terms.specs.model.Programs.{Name, Symbol, Rule, Program, rule_at, GuardHolds}
use Rattle.poly_terms.specs.model.Runs.{Config, Step, IsStep}
use Rattle.poly_terms.specs.model.Spending.{cost}
use Rattle.poly_terms.specs.model.Costs.{cost_rule, HasCost, entering_cost}
use Rattle.text_core.specs.Names.{is_same}
use Rattle.its_model.specs.Valid.{IsValid}

-- The name of the symbol that a cost rule leads to: `$`, or `$$` if the source is named `$`.
abbrev pub cost_name : Name → Name
cost_name source = if is_same source (36 ∷ []) then 36 ∷ 36 ∷ [] else 36 ∷ []

-- The program of the cost c of a rule with source s: it starts at s with the rule's left names, and its one rule leads
-- to the cost.
abbrev pub cost_program : Symbol → Rule → Term → Program
cost_program s r c = record {
  symbols = s ∷ record { name = cost_name s.name; arity = 1 } ∷ [];
  start = 0;
  start_names = take r.left r.names;
  rules = cost_rule r c ∷ [];
}

-- The program q is the program of the cost of rule t.
pub record IsCostProgram (p : Program) (t : ℕ) (q : Program) : Type 0 where
  pub costs : HasCost p t
  pub symbol : Symbol
  pub source : slice_get p.symbols costs.rule.source ≡ Some symbol
  pub program : q ≡ cost_program symbol costs.rule costs.cost

-- At the values of c and these free values, the rule's guard holds and its cost k is at least 0; c is at symbol 0, and
-- d is at symbol 1 with the cost as its only value.
pub record LeadsToCost (r : Rule) (k : Term) (c : Config) (free : List ℤ) (d : Config) : Type 0 where
  pub source : c.at ≡ 0
  pub left : length c.values ≡ r.left
  pub free_ones : length free ≡ r.free
  pub guard : GuardHolds (c.values ++ free) r.guard
  pub at_least_0 : pos 0 ≤ℤ value k (c.values ++ free)
  pub target : d.at ≡ 1
  pub cost : d.values ≡ value k (c.values ++ free) ∷ []

-- The configuration that such a step ends in: at symbol 1, with one value.
abbrev pub at_cost : ℤ → Config
at_cost z = record { at = 1; values = z ∷ [] }

-- The program of a cost of a valid program is valid; its steps are those by rule 1 that lead to the cost; and each step
-- of the program by the rule with a nonnegative cost is one that leads to its cost.
pub record CostProgramsStateCosts : Type 0 where
  pub valid : (p q : Program) (t : ℕ) → IsValid p → IsCostProgram p t q → IsValid q
  pub steps : (p q : Program) (t : ℕ) (k : IsCostProgram p t q) (c d : Config) (s : Step)
      → IsStep q c s d ↔ ((s.rule ≡ 1) × LeadsToCost k.costs.rule k.costs.cost c s.free d)
  pub charged : (p q : Program) (t : ℕ) (k : IsCostProgram p t q) (c d : Config) (free : List ℤ)
      → IsStep p c (record { rule = t; free = free }) d → pos 0 ≤ℤ value k.costs.cost (c.values ++ free)
      → IsStep q (entering_cost c) (record { rule = 1; free = free }) (at_cost (pos (cost p t (c.values ++ free))))
