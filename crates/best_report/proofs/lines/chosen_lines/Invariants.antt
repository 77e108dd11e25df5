use Rattle.std.proofs.Common.{◌≡◌, ◌++◌, map, drop, length}
use Rattle.std.specs.List.{AllByRecursion}
use Rattle.its_model.specs.Views.{program_of}
use Rattle.outcome.specs.Views.{report_of}
use Rattle.best_report.specs.Lines.{line_of, LinesHold}
use Rattle.signed_values.specs.Starts.{comparison_starts}
use Rattle.claims_check.specs.Views.{stated_of}
use Rattle.best_report.specs.Reports.{KeepsBound, IsNoWorseLine, IsChosenOn, IsLineAtMostStated}
use Rattle.best_report.proofs.lines.chosen_lines.Given as goal

-- the subjects of the lines, and those that are left, are all of them; the bounds of the lines hold, none is missing,
-- none is worse than that of the analysis, each is the chosen one, and at most the stated one, or the minimum passes the
-- limits
abbrev pub invariant-loop-i : goal.invariant-loop-i
invariant-loop-i l = record {
  subjects : map (λ line. line.subject) (map line_of l.lines.items) ++ drop l.i l.wanted.items ≡ l.wanted.items;
  hold : LinesHold (program_of l.p) (map line_of l.lines.items);
  complete : AllByRecursion (λ line. KeepsBound (report_of l.outcome) line) (map line_of l.lines.items);
  no_worse : AllByRecursion
      (λ line. IsNoWorseLine (comparison_starts (length (program_of l.p).start_names)) (report_of l.outcome) line)
      (map line_of l.lines.items);
  chosen : AllByRecursion (λ line. IsChosenOn (report_of l.outcome) (map stated_of l.stated) line.subject line.bound)
      (map line_of l.lines.items);
  at_most_stated : AllByRecursion
      (λ line. IsLineAtMostStated (comparison_starts (length (program_of l.p).start_names)) (report_of l.outcome)
      (map stated_of l.stated) line)
      (map line_of l.lines.items);
}
