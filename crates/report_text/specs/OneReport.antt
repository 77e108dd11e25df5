-- A text states at most one report.
use Rattle.std.specs.Prelude.{◌≡◌, ℕ, List}
use Rattle.model.specs.Programs.{Program}
use Rattle.its_model.specs.Valid.{IsValid}
use Rattle.outcome.specs.Reports.{Report}
use Rattle.report_text.specs.Printable.{IsPrintableReport}
use Rattle.report_text.specs.States.{States}

-- two printable reports on a valid program with the same text are the same: a time, a cost or a size that is the
-- variable named `unknown` is distinguished from a missing one by the reason; and a missing total by the reasons, since
-- it is missing exactly where the time of a rule without a cost is, or the bound on some rule's cost
pub record TextsStateOneReport : Type 0 where
  pub each : (p : Program) (text : List ℕ) (r q : Report) → IsValid p → IsPrintableReport p r → IsPrintableReport p q
      → States p text r → States p text q → r ≡ q
