use Rattle.std.proofs.Common.{sym, ◌∙◌, ap}
use Rattle.std.specs.Prelude.{option_copied}
use Rattle.signed_bounds.specs.Views.{signed_of}
use Rattle.best_report.specs.Statements.{first_on, statements_in}
use Rattle.best_report.proofs.StatementTables.{added, present}
use Rattle.best_report.proofs.stated_bounds.add_bound.Goals as goal

pub returns-in-Some : goal.returns-in-Some
returns-in-Some c s =
    present c.args.table.now.entries c.args.subject (signed_of c.args.bound.now) c.in-Some.field-0.now
    (sym (ap option_copied (sym c.in-Some.is) ∙ c.get.ensures.value)) s

pub returns-in_ok-insert-in-None : goal.returns-in_ok-insert-in-None
returns-in_ok-insert-in-None c s =
    ap (λ es. first_on (statements_in es) s) c.in_ok-insert-in-None.ensures.entries
    ∙ added c.args.table.now.entries c.args.subject c.args.bound
    (sym (ap option_copied (sym c.in-None.is) ∙ c.get.ensures.value)) s
