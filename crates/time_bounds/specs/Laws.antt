-- What the total proves.
use Rattle.std.specs.Prelude.{◌≡◌, ℕ, suc, ◌<◌, List, length, Option, Some, None, slice_index_or}
use Rattle.model.specs.Programs.{Program}
use Rattle.model.specs.Bounds.{Bound, IsBased}
use Rattle.model.specs.Facts.{HoldsCost, HoldsTotal}
use Rattle.time_bounds.specs.Totals.{total_of}

-- each bound of a list bounds what its rule spends, counted from 1, and has bases of at least 1
pub record SpendingsHold (p : Program) (bounds : List (Option Bound)) : Type 0 where
  pub one_each : length bounds ≡ length p.rules
  pub holds : (i : ℕ) (b : Bound) → i < length bounds → slice_index_or bounds i None ≡ Some b → HoldsCost p (suc i) b
  pub based : (i : ℕ) (b : Bound) → i < length bounds → slice_index_or bounds i None ≡ Some b → IsBased b

-- if these bounds hold of all rules, every run costs at most what their total says
pub record TotalsHold : Type 0 where
  pub each : (p : Program) (bounds : List (Option Bound)) (b : Bound) → SpendingsHold p bounds → total_of bounds ≡ Some b
      → HoldsTotal p b
