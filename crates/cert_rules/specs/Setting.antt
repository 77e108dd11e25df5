-- The setting in which acceptance is defined: a program, the rows and new values of its rules and of their cost rules,
-- and the rewriting of bounds; and when these are true.
use Rattle.std.specs.Prelude.{◌≡◌, ℕ, zero, suc, ◌<◌, ◌≤◌, Bool, true, List, [], ◌∷◌, ◌++◌, length, ℤ, pos, Option}
use Rattle.std.specs.Prelude.{Some, None}
use Rattle.run_counting.specs.model.Terms.{Term}
use Rattle.run_counting.specs.model.Programs.{Program, Rule, rule_at, arity_of}
use Rattle.run_counting.specs.model.Runs.{Config, Step, IsStep, Leads}
use Rattle.run_counting.specs.model.Costs.{cost_rule, entering_cost}
use Rattle.run_counting.specs.model.Bounds.{Bound, val, IsBased}
use Rattle.run_counting.specs.model.Polynomials.{Polynomial, polynomial_value}
use Rattle.rule_forms.specs.linear_forms.Forms.{Form, at, form_value}
use Rattle.rule_forms.specs.linear_forms.Points.{IsPoint}
use Rattle.cert_rules.specs.Combined.{form_at}

-- a program; for each rule its rows, the forms of its new values and, of each new value of degree 2 and more, its
-- polynomial over the left and then the free variables, places being numbered from 0; the same of the cost rule of each
-- rule with a cost, whose one new value is the cost; the rewriting of bounds, and the order below
pub record Setting : Type 0 where
  pub program : Program
  pub rows : ℕ → List Form
  pub new_values : ℕ → List Form
  pub poly : ℕ → ℕ → Option Polynomial
  pub cost_rows : ℕ → List Form
  pub cost_value : ℕ → Form
  pub cost_poly : ℕ → Option Polynomial
  pub rewrite : Bound → Bound
  pub below : Bound → Bound → Bool

-- the polynomials of a cost rule, which has only one place: a further place has none
abbrev pub only_place : Option Polynomial → ℕ → Option Polynomial
only_place poly zero = poly
only_place poly (suc i) = None

-- the setting with the cost rule of each rule in the rule's place
abbrev pub costs_of : Setting → Setting
costs_of s = record {
  program = s.program;
  rows = s.cost_rows;
  new_values = λ t. s.cost_value t ∷ [];
  poly = λ t. only_place (s.cost_poly t);
  cost_rows = s.cost_rows;
  cost_value = s.cost_value;
  cost_poly = s.cost_poly;
  rewrite = s.rewrite;
  below = s.below;
}

-- a step by rule t from c with these free values to d, as a point of t's rows over the denominator 1: its first
-- coordinates are c's values, the forms of the new values give d's values there, and so do the polynomials
pub record StepPoint (s : Setting) (t : ℕ) (c : Config) (free : List ℤ) (d : Config) : Type 0 where
  pub z : ℕ → ℤ
  pub point : IsPoint (s.rows t) z (pos 1)
  pub left : (j : ℕ) → j < length c.values → z j ≡ at c.values j
  pub new_values : (i : ℕ) → form_value (form_at (s.new_values t) i) z (pos 1) ≡ at d.values i
  pub nonlinear : (i : ℕ) (q : Polynomial) → s.poly t i ≡ Some q → polynomial_value q (c.values ++ free) ≡ at d.values i

-- a step by the cost rule of a rule with a cost: at the values of c and these free values the rule's guard holds, the
-- cost is at least 0, and the only value of d is the cost
pub record IsCostStep (p : Program) (c : Config) (s : Step) (d : Config) : Type 0 where
  pub rule : Rule
  pub numbered : rule_at p s.rule ≡ Some rule
  pub cost : Term
  pub written : rule.cost ≡ Some cost
  pub leads : Leads (cost_rule rule cost) (entering_cost c) s.free d

-- the setting is true of its program: a rule has as many left variables as its source has places, each step is a point
-- of its rule's rows, each step by a cost rule is a point of the cost rows, a rewriting keeps values and bases, and if
-- one bound is below another, its value is never greater
pub record IsFaithful (s : Setting) : Type 0 where
  pub places : (t : ℕ) (r : Rule) → rule_at s.program t ≡ Some r → r.left ≡ arity_of s.program r.source
  pub steps : (c : Config) (step : Step) (d : Config) → IsStep s.program c step d → StepPoint s step.rule c step.free d
  pub costs : (c : Config) (step : Step) (d : Config) → IsCostStep s.program c step d
      → StepPoint (costs_of s) step.rule c step.free d
  pub values : (b : Bound) → IsBased b → (m : List ℕ) → val (s.rewrite b) m ≡ val b m
  pub bases : (b : Bound) → IsBased b → IsBased (s.rewrite b)
  pub order : (a b : Bound) → IsBased a → IsBased b → s.below a b ≡ true → (m : List ℕ) → val a m ≤ val b m
