-- Laws of lassos whose turns move on.
use Rattle.std.specs.Prelude.{◌≡◌, ℕ, List, ℤ}
use Rattle.std.specs.List.{All}
use Rattle.its_model.specs.model.Programs.{Program}
use Rattle.its_model.specs.model.Runs.{Config}
use Rattle.its_model.specs.model.Bounds.{Bound}
use Rattle.its_model.specs.model.Facts.{HoldsTime}
use Rattle.lassos.specs.Lassos.{Endless, GoesOnFor}
use Rattle.lasso_check.specs.Lassos.{Lasso, stem_back, turn_back}
use Rattle.moving_check.specs.Findings.{Moving, Moves, Verdict, Found, IsFound, HasVerdict}

-- a turn whose finding is that it moves on does so by the reported differences, from where the stem leads; and each
-- reported rule occurs arbitrarily often, so that no runtime bound of it holds
pub record MovingTurnsAreEndless : Type 0 where
  pub goes_on : (p : Program) (l : Lasso) (m : Moving) → IsFound p l (Moves m)
      → (at : Config) × GoesOnFor p l.start (stem_back l) (turn_back l) at m.differences
  pub endless : (p : Program) (l : Lasso) (m : Moving) → IsFound p l (Moves m) → All (Endless p l.start) m.rules
  pub no_time : (p : Program) (l : Lasso) (m : Moving) → IsFound p l (Moves m)
      → All (λ rule. (bound : Bound) → ¬ (HoldsTime p rule bound)) m.rules

-- a lasso has at most one right verdict
pub record LassosHaveOneVerdict : Type 0 where
  pub one : (p : Program) (l : Lasso) (v w : Verdict) → HasVerdict p l v → HasVerdict p l w → v ≡ w
