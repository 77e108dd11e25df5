use Rattle.std.proofs.Common.{◌≡◌, ◌∙◌, List, map, Option, option_map, sym, ap}
use Rattle.its_model.specs.declared.program.Rule.{Rule}
use Rattle.its_model.specs.Views.{rule_of, program_of}
use Rattle.signed_bounds.specs.Bounds as plain
use Rattle.signed_bounds.specs.Views.{signeds_of}
use Rattle.signed_bounds.proofs.Views.{signed_of-Sum}
use Rattle.best_report.specs.declared.subject.Subject.{Subject}
use Rattle.best_report.specs.Statements.{first_on, statements_in}
use Rattle.best_report.specs.Lines.{line_of}
use Rattle.best_report.specs.Spending.{bound_at, spending_subject, spending_bounds, within_limits, sum_within_limits}
use Rattle.best_report.proofs.SpendingTables.{bounds-same}
use Rattle.best_report.proofs.spending.sum_of_spendings.Goals as goal

pub returns : goal.returns
returns c =
    let f : Subject → Option plain.Signed = λ s. first_on (statements_in c.in_ok-table.table.entries) s in
    let lines = map line_of c.args.lines.now in
    let all : spending_bounds f 1 (map rule_of c.deref.result.now) ≡ spending_bounds (bound_at lines) 1 (program_of c.args.p.now).rules =
    ap (λ (rs : List Rule). spending_bounds f 1 (map rule_of rs)) c.deref.ensures.value
    ∙ bounds-same f (bound_at lines) (λ t o. c.in_ok-table.ensures (spending_subject t o)) 1 (map rule_of c.args.p.now.rules.items) in
    c.within_limits.ensures
    ∙ (ap within_limits (signed_of-Sum c.in-Some.bounds)
    ∙ ap sum_within_limits
    (ap (option_map (λ bs. signeds_of bs.items)) (sym c.in-Some.is) ∙ (c.in_ok-found.ensures ∙ all)))

pub returns-in_default : goal.returns-in_default
returns-in_default c =
    let f : Subject → Option plain.Signed = λ s. first_on (statements_in c.in_ok-table.table.entries) s in
    let lines = map line_of c.args.lines.now in
    let all : spending_bounds f 1 (map rule_of c.deref.result.now) ≡ spending_bounds (bound_at lines) 1 (program_of c.args.p.now).rules =
    ap (λ (rs : List Rule). spending_bounds f 1 (map rule_of rs)) c.deref.ensures.value
    ∙ bounds-same f (bound_at lines) (λ t o. c.in_ok-table.ensures (spending_subject t o)) 1 (map rule_of c.args.p.now.rules.items) in
    ap sum_within_limits
    (ap (option_map (λ bs. signeds_of bs.items)) (sym c.in_default.is) ∙ (c.in_ok-found.ensures ∙ all))
