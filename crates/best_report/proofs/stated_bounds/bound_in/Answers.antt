use Rattle.std.proofs.Common.{sym, ◌∙◌, ap, option_map}
use Rattle.std.specs.Prelude.{option_copied}
use Rattle.signed_bounds.specs.Views.{signed_of}
use Rattle.best_report.proofs.StatementTables.{looked-up}
use Rattle.best_report.proofs.stated_bounds.bound_in.Goals as goal

pub returns-in-Some : goal.returns-in-Some
returns-in-Some c =
    ap (option_map (λ b. signed_of b.now)) (ap option_copied (sym c.in-Some.is) ∙ c.get.ensures.value)
    ∙ looked-up c.args.subject c.args.table.now.entries

pub returns-in-None : goal.returns-in-None
returns-in-None c =
    ap (option_map (λ b. signed_of b.now)) (ap option_copied (sym c.in-None.is) ∙ c.get.ensures.value)
    ∙ looked-up c.args.subject c.args.table.now.entries
