-- Laws of the verdicts on lassos.
use Rattle.std.specs.Prelude.{◌≡◌, ◌≤◌, ℕ, length}
use Rattle.std.specs.List.{All}
use Rattle.its_model.specs.model.Programs.{Program}
use Rattle.its_model.specs.model.Bounds.{Bound}
use Rattle.its_model.specs.model.Facts.{HoldsTime, HoldsTotal}
use Rattle.lassos.specs.Lassos.{Endless}
use Rattle.lasso_check.specs.Lassos.{Lasso}
use Rattle.lasso_check.specs.Checks.{Turn, Verdict, Round}
use Rattle.lasso_check.specs.CheckAnswers.{IsTurn, HasVerdict}

-- If a turn leads back, each of its rules occurs arbitrarily often, so that no runtime bound of it holds; and if the
-- turn costs something, no bound on the cost of all steps holds.
pub record ListedRulesAreEndless : Type 0 where
  pub endless : (p : Program) (l : Lasso) (t : Turn) → IsTurn p l t → All (Endless p l.start) t.rules
  pub no_time : (p : Program) (l : Lasso) (t : Turn) → IsTurn p l t
      → All (λ rule. (bound : Bound) → ¬ (HoldsTime p rule bound)) t.rules
  pub no_total : (p : Program) (l : Lasso) (t : Turn) → IsTurn p l t → 1 ≤ t.cost
      → (bound : Bound) → ¬ (HoldsTotal p bound)

-- a lasso has at most one right verdict
pub record LassosHaveOneVerdict : Type 0 where
  pub one : (p : Program) (l : Lasso) (v w : Verdict) → HasVerdict p l v → HasVerdict p l w → v ≡ w
