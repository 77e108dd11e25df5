-- What the steps by one rule weigh, and bounds on its copies taken together.
use Rattle.std.specs.Prelude.{ℕ, ◌+◌, max, ◌==◌, if◌then◌else◌, List, [], ◌∷◌, ◌++◌, ℤ}
use Rattle.refinement.specs.Simulation.{Projection}
use Rattle.potentials.specs.Sums.{Weight, Charge}
use Rattle.program_claims.specs.Copies.{charge_each}

-- a weight for the steps by one rule, and nothing for others
abbrev pub at_rule : ℕ → Weight → Weight
at_rule n w t env = if t == n then w t env else 0

-- a step weighs what the step below it does
abbrev pub weight_below : Projection → Weight → Weight
weight_below o w t env = w (o.rule t) env

-- the sum of what the bounds of these rules say at start values
abbrev pub sum_at : (ℕ → List ℤ → ℕ) → List ℕ → List ℤ → ℕ
sum_at bound [] start = 0
sum_at bound (t ∷ ts) start = bound t start + sum_at bound ts start

-- the greatest of what they say
abbrev pub greatest_at : (ℕ → List ℤ → ℕ) → List ℕ → List ℤ → ℕ
greatest_at bound [] start = 0
greatest_at bound (t ∷ ts) start = max (bound t start) (greatest_at bound ts start)

-- each charge at a rule is one at all copies of the rule
abbrev pub charges_above : (ℕ → List ℕ) → List Charge → List Charge
charges_above copies [] = []
charges_above copies (c ∷ cs) = charge_each c.form (copies c.rule) ++ charges_above copies cs
