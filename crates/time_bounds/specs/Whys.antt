-- Why bounds are missing in a report: the meaning of each reason for the program.
use Rattle.std.specs.Prelude.{◌≡◌, ℕ, Some}
use Rattle.model.specs.Programs.{Program}
use Rattle.its_model.specs.Valid.{IsValid}
use Rattle.outcome.specs.Holding.{numbered_entry, place_entry}
use Rattle.outcome.specs.Reports.{NoTime, Untimed, NoSize, Unsized, Uncosted, Report}
use Rattle.time_bounds.specs.Analysis.{IsAnalysis}
use Rattle.time_bounds.specs.CostWhys.{HasNoCost}
use Rattle.time_bounds.specs.SaidBounds.{bounds_said}
use Rattle.time_bounds.specs.SizeWhys.{HasNoSize}
use Rattle.time_bounds.specs.TimeWhys.{HasNoTime}

-- each reason in a report is true of the program, over the times and sizes of the report itself
pub record ReasonsAreTrue (p : Program) (pivots : ℕ) (r : Report) : Type 0 where
  pub times : (t : ℕ) (why : NoTime) → numbered_entry r.times t ≡ Some (Untimed why)
      → HasNoTime p pivots (bounds_said p r) t why
  pub costs : (t : ℕ) (why : NoSize) → numbered_entry r.costs t ≡ Some (Some (Uncosted why))
      → HasNoCost p pivots (bounds_said p r) t why
  pub sizes : (t i : ℕ) (why : NoSize) → place_entry (numbered_entry r.sizes t) i ≡ Some (Unsized why)
      → HasNoSize p pivots (bounds_said p r) t i why

-- the same in the report of the analysis of a valid program
pub record AnalysesGiveReasons : Type 0 where
  pub each : (p : Program) (pivots : ℕ) (r : Report) → IsValid p → IsAnalysis p pivots r → ReasonsAreTrue p pivots r
