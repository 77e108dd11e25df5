-- What a step costs, and what the steps of a run spend.
use Rattle.std.specs.Prelude.{ℕ, ◌+◌, List, [], ◌∷◌, ◌++◌, map, ℤ, pos, negsuc, Option, Some, None, if◌then◌else◌}
use Rattle.std.specs.Prelude.{◌==◌}
use Rattle.model.specs.Terms.{Term, value}
use Rattle.model.specs.Programs.{Program, Rule, rule_at}
use Rattle.model.specs.Runs.{Step}

-- an integer, or 0 if it is negative
abbrev pub or_zero : ℤ → ℕ
or_zero (pos n) = n
or_zero (negsuc n) = 0

-- the cost of a rule at these values of its variables: the value of the written cost, or 0 if that is negative; 1 if
-- none is written
abbrev pub cost_at : Option Term → List ℤ → ℕ
cost_at None env = 1
cost_at (Some c) env = or_zero (value c env)

-- the cost of a step by a rule at these values of its variables; 0 if there is no rule
abbrev pub cost_by : Option Rule → List ℤ → ℕ
cost_by None env = 0
cost_by (Some r) env = cost_at r.cost env

-- the cost of a step by the rule with a number, at these values of its variables (those before the step)
abbrev pub cost : Program → ℕ → List ℤ → ℕ
cost p t env = cost_by (rule_at p t) env

-- the values after a step by a rule at these values of its variables
abbrev pub updated : Option Rule → List ℤ → List ℤ
updated None env = []
updated (Some r) env = map (λ u. value u env) r.updates

-- the values to which steps lead from these start values, last step first
abbrev pub values_after : Program → List ℤ → List Step → List ℤ
values_after p start [] = start
values_after p start (s ∷ earlier) = updated (rule_at p s.rule) (values_after p start earlier ++ s.free)

-- the cost of a step after earlier ones
abbrev pub step_cost : Program → List ℤ → Step → List Step → ℕ
step_cost p start s earlier = cost p s.rule (values_after p start earlier ++ s.free)

-- the cost of all steps by rule t together
abbrev pub spent : Program → ℕ → List ℤ → List Step → ℕ
spent p t start [] = 0
spent p t start (s ∷ earlier) =
    (if s.rule == t then step_cost p start s earlier else 0) + spent p t start earlier

-- the cost of all steps together
abbrev pub spent_all : Program → List ℤ → List Step → ℕ
spent_all p start [] = 0
spent_all p start (s ∷ earlier) = step_cost p start s earlier + spent_all p start earlier
