-- The rows of a program's steps: expressions that are at least 0 at each step, and the new values as expressions.
use Rattle.std.specs.Prelude.{◌≡◌, ℕ, List, ◌++◌, length, map, ℤ, Bool}
use Rattle.potentials.specs.model.Terms.{Term, value}
use Rattle.potentials.specs.model.Programs.{Program}
use Rattle.potentials.specs.model.Runs.{Config, Step}
use Rattle.potentials.specs.Potentials.{IsTaken}
use Rattle.potential_nodes.specs.Certificates.{RowsHoldAt}

-- a program; for each rule its rows, its new values and its number of variables; for each symbol its number of places;
-- and a test that accepts only expressions that are never negative
pub record Ground : Type 0 where
  pub program : Program
  pub rows : ℕ → List Term
  pub new_values : ℕ → List Term
  pub variables : ℕ → ℕ
  pub places : ℕ → ℕ
  pub is_safe : Term → Bool

-- the values of a rule's unknowns at a step: those of its variables, and some more; there the rows are at least 0 and
-- the new values are those after the step
pub record IsGroundOf (g : Ground) (c : Config) (s : Step) (d : Config) : Type 0 where
  pub more : List ℤ
  pub rows : RowsHoldAt (g.rows s.rule) ((c.values ++ s.free) ++ more)
  pub new_values : map (λ t. value t ((c.values ++ s.free) ++ more)) (g.new_values s.rule) ≡ d.values
  pub variables : length (c.values ++ s.free) ≡ g.variables s.rule
  pub places : length c.values ≡ g.places c.at

-- the rows and new values are true of each step of each run
pub record IsTrueGround (g : Ground) : Type 0 where
  pub each : (start : List ℤ) (c : Config) (s : Step) (d : Config) → IsTaken g.program start c s d
      → IsGroundOf g c s d
