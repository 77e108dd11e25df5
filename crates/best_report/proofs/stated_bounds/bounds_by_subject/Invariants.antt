use Rattle.std.proofs.Common.{◌≡◌, drop, map}
use Rattle.claims_check.specs.Views.{stated_of}
use Rattle.best_report.specs.declared.subject.Subject.{Subject as AnySubject}
use Rattle.best_report.specs.Statements.{first_of, first_on, statements_in}
use Rattle.best_report.proofs.stated_bounds.bounds_by_subject.Given as goal

-- on each subject the bound in the table, or else the first one among the statements that are left, is the first of all
abbrev pub invariant-loop-statement : goal.invariant-loop-statement
invariant-loop-statement l =
    (s : AnySubject) → first_of (first_on (statements_in l.table.entries) s)
    (first_on (map stated_of (drop l.statement-index l.stated)) s) ≡ first_on (map stated_of l.stated) s
