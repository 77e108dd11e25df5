use Rattle.std.proofs.Common.{◌≡◌, drop, map}
use Rattle.best_report.specs.declared.subject.Subject.{Subject as AnySubject}
use Rattle.best_report.specs.Statements.{first_of, first_on, statements_in}
use Rattle.best_report.specs.Lines.{line_of}
use Rattle.best_report.specs.Spending.{bound_at}
use Rattle.best_report.proofs.spending.bounds_of_lines.Given as goal

-- on each subject the bound in the table, or else the first one among the lines that are left, is the first of all
abbrev pub invariant-loop-line : goal.invariant-loop-line
invariant-loop-line l =
    (s : AnySubject) → first_of (first_on (statements_in l.table.entries) s)
    (bound_at (map line_of (drop l.line-index l.lines)) s) ≡ bound_at (map line_of l.lines) s
