-- Costs: the cost rule of a rule, programs without costs, and laws of what steps cost.
use Rattle.std.specs.Prelude.{◌≡◌, ℕ, List, [], ◌∷◌, ◌++◌, length, map, ℤ, pos, Some, None}
use Rattle.std.specs.List.{range_with_len, sum_by}
use Rattle.model.specs.Terms.{Term, Literal}
use Rattle.model.specs.Programs.{Program, Rule, rule_at, AtLeast, Compare}
use Rattle.model.specs.Runs.{Config, Step, IsRun, count}
use Rattle.model.specs.Spending.{values_after, spent, spent_all}
use Rattle.model.specs.Bounds.{Bound}
use Rattle.model.specs.Facts.{HoldsTotal, HoldsLength}

-- the cost rule of a rule with cost c: it leads from symbol 0 to symbol 1, which has one place, has the variables of
-- the rule, its guard and the atom c >= 0, the single update c, and no cost
abbrev pub cost_rule : Rule → Term → Rule
cost_rule r c = record {
  source = 0;
  target = 1;
  left = r.left;
  free = r.free;
  names = r.names;
  updates = c ∷ [];
  guard = r.guard ++ Compare c AtLeast (Literal (pos 0)) ∷ [];
  cost = None;
}

-- the number is that of a rule with a written cost
pub record HasCost (p : Program) (t : ℕ) : Type 0 where
  pub rule : Rule
  pub numbered : rule_at p t ≡ Some rule
  pub cost : Term
  pub written : rule.cost ≡ Some cost

-- the configuration at which a step by a cost rule begins: symbol 0, with the values of this configuration
abbrev pub entering_cost : Config → Config
entering_cost c = record { at = 0; values = c.values }

-- a rule without its cost, and a program without its costs
abbrev pub without_cost : Rule → Rule
without_cost r = record {
  source = r.source;
  target = r.target;
  left = r.left;
  free = r.free;
  names = r.names;
  updates = r.updates;
  guard = r.guard;
  cost = None;
}

abbrev pub without_costs : Program → Program
without_costs p = record {
  symbols = p.symbols;
  start = p.start;
  start_names = p.start_names;
  rules = map without_cost p.rules;
}

-- costs neither prevent steps nor change values: a program has the same runs as without its costs
pub record CostsChangeNoRun : Type 0 where
  pub without : (p : Program) (start : List ℤ) (steps : List Step) (c : Config) → IsRun p start steps c
      → IsRun (without_costs p) start steps c
  pub back : (p : Program) (start : List ℤ) (steps : List Step) (c : Config) → IsRun (without_costs p) start steps c
      → IsRun p start steps c

-- a run ends at the values to which its steps lead, so each step is charged at the values before it
pub record RunsAreAtTheirValues : Type 0 where
  pub each : (p : Program) (start : List ℤ) (steps : List Step) (c : Config) → IsRun p start steps c
      → c.values ≡ values_after p start steps

-- a rule without a cost spends in every run as much as it occurs
pub record PlainRulesSpendTheirCount : Type 0 where
  pub each : (p : Program) (t : ℕ) (r : Rule) → rule_at p t ≡ Some r → r.cost ≡ None → (start : List ℤ)
      (steps : List Step) → spent p t start steps ≡ count t steps

-- what all steps cost is the sum over the rules of what each rule spends; a step whose number is no rule's costs
-- nothing
pub record SpendingIsByRules : Type 0 where
  pub each : (p : Program) (start : List ℤ) (steps : List Step)
      → spent_all p start steps ≡ sum_by (λ t. spent p t start steps) (range_with_len 1 (length p.rules))

-- if no rule has a cost, every run costs as much as it has steps, so a bound on its cost is a bound on its length, and
-- conversely
pub record PlainTotalsAreLengths : Type 0 where
  pub spends : (p : Program) → ((t : ℕ) → ¬ (HasCost p t)) → (start : List ℤ) (steps : List Step) (c : Config)
      → IsRun p start steps c → spent_all p start steps ≡ length steps
  pub bounds_length : (p : Program) (bound : Bound) → ((t : ℕ) → ¬ (HasCost p t)) → HoldsTotal p bound → HoldsLength p bound
  pub bounds_cost : (p : Program) (bound : Bound) → ((t : ℕ) → ¬ (HasCost p t)) → HoldsLength p bound → HoldsTotal p bound
