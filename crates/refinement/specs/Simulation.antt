-- A program that simulates another: each run of the other is the projection of one of its runs. It may have more runs.
use Rattle.std.specs.Prelude.{◌≡◌, ℕ, List, ◌++◌, length, ℤ, Some}
use Rattle.model.specs.Programs.{Program, Rule, rule_at, arity_of, GuardHolds}
use Rattle.model.specs.Runs.{Config, Step, Leads}

-- a map from the symbols and the rules of one program to those of another, by their numbers
pub record Projection : Type 0 where
  pub symbol : ℕ → ℕ
  pub rule : ℕ → ℕ

-- a configuration projects to the symbol below its symbol, with the same values
abbrev pub config_below : Projection → Config → Config
config_below o c = record { at = o.symbol c.at; values = c.values }

-- a step projects to a step by the rule below its rule, with the same values of the free variables
abbrev pub step_below : Projection → Step → Step
step_below o s = record { rule = o.rule s.rule; free = s.free }

-- a rule is enabled at a configuration with these values of its free variables: it leaves the symbol, each of its
-- variables has a value, and its guard holds
pub record IsEnabled (r : Rule) (c : Config) (free : List ℤ) : Type 0 where
  pub source : c.at ≡ r.source
  pub left : length c.values ≡ r.left
  pub free_ones : length free ≡ r.free
  pub guard : GuardHolds (c.values ++ free) r.guard

-- a rule is a copy of another: it has the same variables, updates and cost, and its symbols project to those of the
-- other
pub record IsCopy (o : Projection) (r copy : Rule) : Type 0 where
  pub left : copy.left ≡ r.left
  pub free : copy.free ≡ r.free
  pub updates : copy.updates ≡ r.updates
  pub cost : copy.cost ≡ r.cost
  pub source : o.symbol copy.source ≡ r.source
  pub target : o.symbol copy.target ≡ r.target

-- the rule is a copy of the rule of p below it
pub record HasRuleBelow (p : Program) (o : Projection) (t : ℕ) (copy : Rule) : Type 0 where
  pub rule : Rule
  pub numbered : rule_at p (o.rule t) ≡ Some rule
  pub copies : IsCopy o rule copy

-- some copy of rule t in q is enabled at the configuration, with these values of its free variables
pub record HasEnabledCopy (q : Program) (o : Projection) (t : ℕ) (c : Config) (free : List ℤ) : Type 0 where
  pub number : ℕ
  pub rule : Rule
  pub numbered : rule_at q number ≡ Some rule
  pub above : o.rule number ≡ t
  pub enabled : IsEnabled rule c free

-- the program q simulates p, with facts that hold at the configurations of q: starts and rules of q project to those of
-- p; the facts hold at each start; where they hold, if a rule of p is enabled below, some copy of it is enabled; and a
-- step by a copy, if the guard of the rule below holds too, leads to where they hold
pub record Simulates (q p : Program) (o : Projection) (HasFacts : Config → Type 0) : Type 0 where
  pub start : o.symbol q.start ≡ p.start
  pub places : arity_of q q.start ≡ arity_of p p.start
  pub entry : o.rule 0 ≡ 0
  pub first : (c : Config) → c.at ≡ q.start → HasFacts c
  pub copies : (t : ℕ) (copy : Rule) → rule_at q t ≡ Some copy → HasRuleBelow p o t copy
  pub covered : (t : ℕ) (r : Rule) (c : Config) (free : List ℤ) → HasFacts c → rule_at p t ≡ Some r
      → IsEnabled r (config_below o c) free → HasEnabledCopy q o t c free
  pub kept : (t : ℕ) (r copy : Rule) (c d : Config) (free : List ℤ) → HasFacts c → rule_at q t ≡ Some copy
      → rule_at p (o.rule t) ≡ Some r → GuardHolds (c.values ++ free) r.guard → Leads copy c free d → HasFacts d
