use Rattle.std.proofs.Common.{◌∙◌, refl, sym, ap, map, Some, None}
use Rattle.std.proofs.lemmas.Result.{IfOk-weaker}
use Rattle.cert_types.specs.Views.{result_variable_of, side_bound_of}
use Rattle.size_bounds.specs.Tables.{table_of, number_at}
use Rattle.size_nodes.specs.Needs.{first_missing}
use Rattle.cost_bounds.specs.CostOutcomes.{question}
use Rattle.cost_bounds.specs.declared.answer.CostAnswer.TheVariants as answers
use Rattle.cost_bounds.proofs.FoundCosts.{composed-by, sized-by, time-missing, time-there, timed-by}
use Rattle.cost_bounds.proofs.bounding.cost_by_sizes.Goals as goal

pub returns-in-Some : goal.returns-in-Some
returns-in-Some c p given =
    let tab = table_of c.args.t.now in
    sized-by (question p tab c.args.cost.now.rule) (number_at c.args.t.now) (side_bound_of c.args.side_bound)
    (answers.Missing c.in-Some.result_variable) (Some (result_variable_of c.in-Some.result_variable))
    (ap (first_missing tab) (sym (ap (map result_variable_of) c.deref.ensures.value ∙ c.in_ok-needed.ensures p given))
    ∙ sym c.in-Some.ensures) refl

pub returns-then-is_none : goal.returns-then-is_none
returns-then-is_none c p given =
    let tab = table_of c.args.t.now in
    let q = question p tab c.args.cost.now.rule in
    let number = number_at c.args.t.now in
    let side_bound = side_bound_of c.args.side_bound in
    let a = answers.Untimed c.args.cost.now.rule in
    sized-by q number side_bound a None
    (ap (first_missing tab) (sym (ap (map result_variable_of) c.deref.ensures.value ∙ c.in_ok-needed.ensures p given))
    ∙ sym c.in_default.ensures)
    (timed-by q number side_bound a None
    (sym c.time.ensures ∙ time-missing c.time.result c.is_none.result c.is_none.ensures c.if-is_none.true) refl)

pub composed-requires-clause-needed : goal.composed-requires-clause-needed
composed-requires-clause-needed c p given = ap (map result_variable_of) c.deref-2.ensures.value
    ∙ c.in_ok-needed.ensures p given

pub returns : goal.returns
returns c =
    let tab = table_of c.args.t.now in
    let t = c.args.cost.now.rule in
    let number = number_at c.args.t.now in
    let side_bound = side_bound_of c.args.side_bound in
    IfOk-weaker c.composed.result _ _
    (λ a h p given. sized-by (question p tab t) number side_bound a None
    (ap (first_missing tab) (sym (ap (map result_variable_of) c.deref.ensures.value ∙ c.in_ok-needed.ensures p given))
    ∙ sym c.in_default.ensures)
    (timed-by (question p tab t) number side_bound a (tab.time t) refl
    (composed-by (question p tab t) number side_bound a (tab.time t)
    (λ e. time-there c.time.result c.is_none.result c.is_none.ensures c.if-is_none.false (c.time.ensures ∙ e))
    (h p given))))
    c.composed.ensures
