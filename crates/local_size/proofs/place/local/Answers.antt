use Rattle.std.proofs.Common.{◌∙◌, refl, sym, subst}
use Rattle.std.proofs.lemmas.Result.{IfOk-weaker}
use Rattle.guard_prep.specs.Views.{prepared_of}
use Rattle.cert_types.specs.cert_rules.AcceptsSizes.{Up, Low}
use Rattle.cert_types.specs.Views.{result_variable_of, side_bound_of}
use Rattle.local_size.specs.declared.search.SideAnswer.{SideAnswer}
use Rattle.local_size.specs.declared.search.SideAnswer.TheVariants as answers
use Rattle.local_size.specs.Asking.{side_outcome_of}
use Rattle.local_size.specs.LocalAnswers.{local_answer_of, SideHasResult}
use Rattle.local_size.proofs.Places.{lacking, passes}
use Rattle.local_size.proofs.place.local.Goals as goal

pub returns-in-SideBound : goal.returns-in-SideBound
returns-in-SideBound c =
    let m = prepared_of c.args.prepared_rule.now in
    let place = c.args.result_variable.place in
    let up = subst (λ (s : SideAnswer). SideHasResult m place c.args.pivots Up (side_outcome_of s)) c.in-SideBound.is
    c.in_ok-cause.ensures in
    let low = subst (λ (s : SideAnswer). SideHasResult m place c.args.pivots Low (side_outcome_of s)) c.in-UnboundedSide-2.is
    c.in_ok-cause-in-SideBound.ensures in
    IfOk-weaker c.unbounded_result.result _ _
    (λ a h. lacking m (result_variable_of c.args.result_variable) c.args.pivots c.args.empty.now
    (sym c.is_polynomial-by_itself.ensures ∙ c.if-by_itself.false) Low c.in-UnboundedSide-2.ray.items (local_answer_of a)
    ((side_bound_of c.in-SideBound.up, up), low) h) c.unbounded_result.ensures

pub returns : goal.returns
returns c =
    let m = prepared_of c.args.prepared_rule.now in
    let place = c.args.result_variable.place in
    let up = subst (λ (s : SideAnswer). SideHasResult m place c.args.pivots Up (side_outcome_of s)) c.in-UnboundedSide.is
    c.in_ok-cause.ensures in
    let low = passes m place c.args.pivots Low c.in_ok-cause-in-UnboundedSide.field-0 answers.SideBound answers.UnboundedSide side_bound_of
    (λ r. r.items) (λ a. refl) (λ r. refl) c.in-SideBound-3.is c.in_ok-cause-in-UnboundedSide.ensures in
    IfOk-weaker c.unbounded_result-in-SideBound-3.result _ _
    (λ a h. lacking m (result_variable_of c.args.result_variable) c.args.pivots c.args.empty.now
    (sym c.is_polynomial-by_itself.ensures ∙ c.if-by_itself.false) Up c.in-UnboundedSide.ray.items (local_answer_of a) (up, low) h)
    c.unbounded_result-in-SideBound-3.ensures
