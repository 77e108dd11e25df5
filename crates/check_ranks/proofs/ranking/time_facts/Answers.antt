use Rattle.std.proofs.Common.{◌∙◌, ℕ, List, [], ◌∷◌, map, ap, subst, sym}
use Rattle.std.specs.List.{AllByRecursion}
use Rattle.bound_table.specs.RewriteResult.{answer_of}
use Rattle.bound_table.specs.bound_expr.Views.{bound_of}
use Rattle.model.specs.Bounds.{Bound}
use Rattle.model.specs.Facts.{Time}
use Rattle.model.specs.Entries.{entries}
use Rattle.gap_checks.specs.GapTests.{IsFirstFailing}
use Rattle.cert_types.specs.Views.{rank_of, result_variable_of}
use Rattle.cert_types.specs.cert_rules.Checks.{needed_after_each}
use Rattle.cert_types.specs.cert_rules.Nodes.{ResultVariable}
use Rattle.cert_context.specs.CheckContexts.{program, setting}
use Rattle.cert_context.specs.Needed.{HasSize, HasTime}
use Rattle.check_ranks.proofs.LossRows.{forms-short}
use Rattle.check_ranks.proofs.RankAnswers.{untimed, missing, large, small}
use Rattle.check_ranks.proofs.ranking.time_facts.Goals as goal

pub returns-in-Some : goal.returns-in-Some
returns-in-Some g c =
    let p = program c.args.context.now in
    let table = g.K.Known.table c.args.known.now in
    untimed p table (rank_of c.args.node.now) c.in-Some.rule
    (subst (λ (es : List ℕ). IsFirstFailing (HasTime table) es c.in-Some.rule)
    (c.deref-2.ensures.value ∙ (c.in_ok-entering.ensures ∙ ap (entries p) c.deref.ensures.value)) c.in-Some.ensures)

pub returns-in-Some-first_missing : goal.returns-in-Some-first_missing
returns-in-Some-first_missing g c =
    let p = program c.args.context.now in
    let n = rank_of c.args.node.now in
    let table = g.K.Known.table c.args.known.now in
    let es = c.in_ok-entering.ensures ∙ ap (entries p) c.deref.ensures.value in
    missing p table n
    (subst (AllByRecursion (HasTime table)) (c.deref-2.ensures.value ∙ es) c.in_default.ensures)
    (result_variable_of c.in-Some-first_missing.result_variable)
    (subst (λ (result_variables : List ResultVariable). IsFirstFailing (HasSize table) result_variables (result_variable_of c.in-Some-first_missing.result_variable))
    (ap (map result_variable_of) c.deref-4.ensures.value
    ∙ (c.in_ok-needed.ensures ∙ ap (needed_after_each (setting c.args.context.now) n) (c.deref-3.ensures.value ∙ es)))
    c.in-Some-first_missing.ensures)

pub rank_time-requires-clause-few : goal.rank_time-requires-clause-few
rank_time-requires-clause-few g c =
    forms-short (program c.args.context.now) c.args.node.now.forms.items c.requires.context.valid c.requires.shape.forms

pub returns-in-Rewritten : goal.returns-in-Rewritten
returns-in-Rewritten g c =
    let p = program c.args.context.now in
    let n = rank_of c.args.node.now in
    let table = g.K.Known.table c.args.known.now in
    let es = c.in_ok-entering.ensures ∙ ap (entries p) c.deref.ensures.value in
    let w =
    small p table n
    (subst (AllByRecursion (HasTime table)) (c.deref-2.ensures.value ∙ es) c.in_default.ensures)
    (subst (AllByRecursion (HasSize table))
    (ap (map result_variable_of) c.deref-4.ensures.value
    ∙ (c.in_ok-needed.ensures ∙ ap (needed_after_each (setting c.args.context.now) n) (c.deref-3.ensures.value ∙ es)))
    c.in_default-first_missing.ensures)
    (bound_of c.in-Rewritten.bound) (ap answer_of (sym c.in-Rewritten.is) ∙ c.in_ok-bound.ensures) in
    record {
      passed = w.0;
      result_is = c.in_ok-one-in-Rewritten.ensures ∙ ap (λ (b : Bound). Time c.args.node.now.rule b ∷ []) w.1;
    }

pub returns : goal.returns
returns g c =
    let p = program c.args.context.now in
    let n = rank_of c.args.node.now in
    let table = g.K.Known.table c.args.known.now in
    let es = c.in_ok-entering.ensures ∙ ap (entries p) c.deref.ensures.value in
    large p table n
    (subst (AllByRecursion (HasTime table)) (c.deref-2.ensures.value ∙ es) c.in_default.ensures)
    (subst (AllByRecursion (HasSize table))
    (ap (map result_variable_of) c.deref-4.ensures.value
    ∙ (c.in_ok-needed.ensures ∙ ap (needed_after_each (setting c.args.context.now) n) (c.deref-3.ensures.value ∙ es)))
    c.in_default-first_missing.ensures)
    c.in-Large.nodes (ap answer_of (sym c.in-Large.is) ∙ c.in_ok-bound.ensures)
