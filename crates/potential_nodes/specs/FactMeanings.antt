-- What signed facts mean for runs: bounds on how often a rule occurs, on how long a run is, on costs, and on values.
use Rattle.std.specs.Prelude.{◌≡◌, ◌≢◌, ◌≤◌, ℕ, zero, suc, List, [], ◌∷◌, length, ℤ, pos, neg_ℤ, ◌≤ℤ◌, Some, slice_get}
use Rattle.potentials.specs.model.Terms.{Term, value}
use Rattle.potentials.specs.model.Programs.{Program, Rule, rule_at}
use Rattle.potentials.specs.model.Polynomials.{Polynomial, polynomial_value}
use Rattle.potentials.specs.model.Runs.{Config, Step, IsRun, count, last_rule, place_value}
use Rattle.potentials.specs.model.Spending.{spent}
use Rattle.potentials.specs.Sums.{Charge}
use Rattle.signed_bounds.specs.poly_terms.Laws.{HasTheValueOf}
use Rattle.signed_bounds.specs.Bounds.{Signed, MaximumOf, NoParts, Part, signed_val}
use Rattle.potential_nodes.specs.Facts.{SignedFact, SumFact, PeakFact, SizeFact, HoldsSigned, once_charge}

-- the charges of 1 for each step by n rules, numbered from t on
abbrev pub once_charges : ℕ → ℕ → List Charge
once_charges t zero = []
once_charges t (suc n) = once_charge t ∷ once_charges (suc t) n

-- the rule with a number has an update for a place, which is numbered from 0
pub record HasUpdate (p : Program) (t i : ℕ) (u : Term) : Type 0 where
  pub rule : Rule
  pub numbered : rule_at p t ≡ Some rule
  pub update : slice_get rule.updates i ≡ Some u

-- the rule with a number has a cost
pub record HasCost (p : Program) (t : ℕ) (cost : Term) : Type 0 where
  pub rule : Rule
  pub numbered : rule_at p t ≡ Some rule
  pub written : rule.cost ≡ Some cost

-- a bound on the sum of 1 for each step by a rule is one on how often the rule occurs, and the other way round; a bound
-- on the sum of 1 for each step by each rule is one on the length of a run; a bound on the sum of a rule's cost is one
-- on its spending; bounds on the peaks of a new value and of its negation are bounds on the value after the step from
-- above and from below, and together one on its absolute value
pub record FactsBoundRuns : Type 0 where
  pub counts : (p : Program) (t : ℕ) (b : Signed) → t ≢ 0 → HoldsSigned p (SumFact (once_charge t ∷ []) b)
      → (start : List ℤ) (steps : List Step) (c : Config) → IsRun p start steps c → count t steps ≤ signed_val b start
  pub counted : (p : Program) (t : ℕ) (b : Signed)
      → ((start : List ℤ) (steps : List Step) (c : Config) → IsRun p start steps c → count t steps ≤ signed_val b start)
      → HoldsSigned p (SumFact (once_charge t ∷ []) b)
  pub lengths : (p : Program) (b : Signed) → HoldsSigned p (SumFact (once_charges 1 (length p.rules)) b)
      → (start : List ℤ) (steps : List Step) (c : Config) → IsRun p start steps c → length steps ≤ signed_val b start
  pub costs : (p : Program) (t : ℕ) (cost : Term) (form : Polynomial) (b : Signed) → HasCost p t cost
      → HasTheValueOf cost form → HoldsSigned p (SumFact (record { rule = t; form = form } ∷ []) b)
      → (start : List ℤ) (steps : List Step) (c : Config) → IsRun p start steps c → spent p t start steps ≤ signed_val b start
  pub above : (p : Program) (t i : ℕ) (u : Term) (form : Polynomial) (b : Signed) → HasUpdate p t i u
      → HasTheValueOf u form → HoldsSigned p (PeakFact t form b)
      → (start : List ℤ) (s : Step) (earlier : List Step) (c : Config) → IsRun p start (s ∷ earlier) c → s.rule ≡ t
      → place_value c (suc i) ≤ℤ pos (signed_val b start)
  pub below : (p : Program) (t i : ℕ) (u : Term) (form : Polynomial) (b : Signed) → HasUpdate p t i u
      → ((env : List ℤ) → polynomial_value form env ≡ neg_ℤ (value u env)) → HoldsSigned p (PeakFact t form b)
      → (start : List ℤ) (s : Step) (earlier : List Step) (c : Config) → IsRun p start (s ∷ earlier) c → s.rule ≡ t
      → neg_ℤ (place_value c (suc i)) ≤ℤ pos (signed_val b start)
  pub sizes : (p : Program) (t i : ℕ) (u : Term) (form opposite : Polynomial) (a b : Signed) → t ≢ 0 → HasUpdate p t i u
      → HasTheValueOf u form → ((env : List ℤ) → polynomial_value opposite env ≡ neg_ℤ (value u env))
      → HoldsSigned p (PeakFact t form a) → HoldsSigned p (PeakFact t opposite b)
      → HoldsSigned p (SizeFact t (suc i) (MaximumOf (Part a (Part b NoParts))))
