use Rattle.std.proofs.Common.{◌∙◌, ◌+◌, ◌++◌, List, [], ◌∷◌, map, drop, Option, option_map, sym, ap, arith}
use Rattle.std.proofs.lemmas.List.{map-append}
use Rattle.its_model.specs.Views.{rule_of}
use Rattle.signed_bounds.specs.Bounds as plain
use Rattle.signed_bounds.specs.Views.{signed_of, signeds_of}
use Rattle.best_report.specs.declared.subject.Subject.{Subject}
use Rattle.best_report.specs.Statements.{first_on, statements_in}
use Rattle.best_report.specs.Spending.{spending_bounds}
use Rattle.best_report.proofs.SpendingTables.{bounds-step, bounds-fail, bounds-done}
use Rattle.best_report.proofs.spending.spending_bounds.Goals as goal

pub loop-i-preserved : goal.loop-i-preserved
loop-i-preserved c =
    let f : Subject → Option plain.Signed = λ s. first_on (statements_in c.args.table.now.entries) s in
    let rules = c.args.rules.now in
    let i = c.loop-i.i in
    let old = c.loop-i.bounds.items in
    ap (λ (bs : List plain.Signed). option_map (λ more. bs ++ more) (spending_bounds f (i + 1 + 1) (map rule_of (drop (i + 1) rules))))
    (ap signeds_of c.in_ok-push.ensures.items
    ∙ (map-append signed_of old (c.in_ok-copy.copy ∷ []) ∙ ap (λ (b : plain.Signed). signeds_of old ++ b ∷ []) c.in_ok-copy.ensures))
    ∙ bounds-step f rules i c.index-rules-i.result (omega arith) c.index-rules-i.is (signeds_of old)
    (signed_of c.in-Some.bound.now) (spending_bounds f 1 (map rule_of rules))
    (ap f (sym c.spending_subject-subject.ensures)
    ∙ (sym c.bound_in-found.ensures ∙ ap (option_map (λ b. signed_of b.now)) c.in-Some.is))
    c.loop-i.invariant

pub returns-in_default : goal.returns-in_default
returns-in_default c =
    let f : Subject → Option plain.Signed = λ s. first_on (statements_in c.args.table.now.entries) s in
    let rules = c.args.rules.now in
    bounds-fail f rules c.loop-i.i c.index-rules-i.result (omega arith) c.index-rules-i.is
    (signeds_of c.loop-i.bounds.items) (spending_bounds f 1 (map rule_of rules))
    (ap f (sym c.spending_subject-subject.ensures)
    ∙ (sym c.bound_in-found.ensures ∙ ap (option_map (λ b. signed_of b.now)) c.in_default.is))
    c.loop-i.invariant

pub returns : goal.returns
returns c =
    let f : Subject → Option plain.Signed = λ s. first_on (statements_in c.args.table.now.entries) s in
    let rules = c.args.rules.now in
    bounds-done f rules c.loop-i.i (signeds_of c.loop-i.bounds.items) (spending_bounds f 1 (map rule_of rules)) (omega arith)
    c.loop-i.invariant
