use Rattle.std.proofs.Common.{List, sym, ◌∙◌, ap, map}
use Rattle.bound_fixpoint.specs.Answers.{are_open}
use Rattle.bound_fixpoint.specs.Keys.{Bounds}
use Rattle.size_bounds.specs.Tables.{bounds_in}
use Rattle.cert_types.specs.Views.{result_variable_of}
use Rattle.cert_types.specs.declared.side_bound.ResultVariable.{ResultVariable}
use Rattle.time_bounds.specs.Candidates.{result_variables_in}
use Rattle.time_bounds.specs.Questions.{program_in}
use Rattle.time_bounds.specs.RoundsMade.{known_with}
use Rattle.time_bounds.proofs.TrueAnswers.{some_holds, lacks-still}
use Rattle.time_bounds.proofs.TablesOver.{bounds_same}
use Rattle.time_bounds.proofs.ComponentTries.{known_step, failed_step}
use Rattle.time_bounds.proofs.sizing.try_component.Goals as goal

pub returns-then-not-are_open-clause-step : goal.returns-then-not-are_open-clause-step
returns-then-not-are_open-clause-step c =
    let p = program_in c.args.cx.now in
    let derivations = c.args.derived.now.derivations.items in
    known_step p c.args.cx.now.pivots derivations c.args.candidate.now
    (ap (λ (b : Bounds). are_open b (result_variables_in c.args.candidate.now)) (sym (bounds_same p c.args.derived.now.table derivations c.requires.derived))
    ∙ (ap (λ (ss : List ResultVariable). are_open (bounds_in c.args.derived.now.table) (map result_variable_of ss)) (sym c.deref.ensures.value)
    ∙ (sym c.are_open.ensures ∙ c.if-not-are_open.true)))

pub returns-in-Some-clause-step : goal.returns-in-Some-clause-step
returns-in-Some-clause-step c =
    let p = program_in c.args.cx.now in
    let derivations = c.args.derived.now.derivations.items in
    let b = known_with c.args.cx.now derivations in
    let lacking = ap (λ (b : Bounds). are_open b (result_variables_in c.args.candidate.now)) (sym (bounds_same p c.args.derived.now.table derivations c.requires.derived))
    ∙ (ap (λ (ss : List ResultVariable). are_open (bounds_in c.args.derived.now.table) (map result_variable_of ss)) (sym c.deref.ensures.value)
    ∙ (sym c.are_open.ensures ∙ c.if-not-are_open.false)) in
    let stands = some_holds c.args.again c.in-Some.answer _ c.in-Some.is c.requires.again in
    failed_step p c.args.cx.now.pivots derivations c.args.candidate.now c.in-Some.answer
    (lacks-still p c.args.cx.now.pivots stands.was.between b stands.was.before c.args.candidate.now c.in-Some.answer stands.stands lacking
    stands.was.attempt)

pub try_side_bounds-requires-clause-lacking : goal.try_side_bounds-requires-clause-lacking
try_side_bounds-requires-clause-lacking c =
    let p = program_in c.args.cx.now in
    let derivations = c.args.derived.now.derivations.items in
    ap (λ (b : Bounds). are_open b (result_variables_in c.args.candidate.now)) (sym (bounds_same p c.args.derived.now.table derivations c.requires.derived))
    ∙ (ap (λ (ss : List ResultVariable). are_open (bounds_in c.args.derived.now.table) (map result_variable_of ss)) (sym c.deref.ensures.value)
    ∙ (sym c.are_open.ensures ∙ c.if-not-are_open.false))
