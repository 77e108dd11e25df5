-- The worked texts of facts are right.
use Rattle.std.proofs.Common.{refl}
use Rattle.std.specs.Fmt.{digits}
use Rattle.report_text.specs.Reports.{text_of_report}
use Rattle.facts_report.specs.FactTexts.{text_with_facts}
use Rattle.facts_report.specs.WorkedFactTexts.{DifferencesAreWorkedOut, FactLinesAreWorkedOut, FactTextsAreWorkedOut}

differences : DifferencesAreWorkedOut
unfolding digits
differences = record {
  place = refl;
  opposite = refl;
  difference = refl;
  reversed = refl;
  line = refl;
  negative = refl;
}

lines : FactLinesAreWorkedOut
unfolding text_with_facts text_of_report digits
lines = record {
  none = refl;
  greatest = refl;
  greatest_first = refl;
  ordered = refl;
  whole = refl;
  with_cost = refl;
}

pub texts_worked : FactTextsAreWorkedOut
texts_worked = record { differences = differences; lines = lines }
