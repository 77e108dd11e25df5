use Rattle.std.proofs.Common.{◌≡◌, ℕ, suc, ◌+◌, List, map, take, get_or, sym, ◌∙◌, ap, arith}
use Rattle.cert_types.specs.declared.side_bound.ResultVariable.{ResultVariable}
use Rattle.cert_types.specs.Views.{result_variable_of}
use Rattle.bound_fixpoint.specs.Answers.{are_open}
use Rattle.bound_fixpoint.specs.Keys.{at_key, lacks}
use Rattle.size_bounds.specs.Tables.{stored_in}
use Rattle.size_bounds.specs.Tables.{bounds_in}
use Rattle.time_bounds.proofs.OpenPlaces.{closed_more, open_at, stored_known, known-sound, missing-sound}
use Rattle.time_bounds.proofs.SaidRows.{take_past}
use Rattle.time_bounds.proofs.sizing.are_open.Goals as goal

pub loop-result_variable-preserved : goal.loop-result_variable-preserved
loop-result_variable-preserved c =
    let b = bounds_in c.args.table.now in
    let d : ResultVariable = record { rule = 0; place = 0 } in
    let i = c.loop-result_variable.result_variable-index in
    let known = known-sound c.is_known-known.result (lacks (at_key b (result_variable_of (get_or c.args.result_variables.now i d)))) (c.is_known-known.ensures
    ∙ stored_known (stored_in c.args.table.now (get_or c.args.result_variables.now i d).rule (get_or c.args.result_variables.now i d).place)) c.if-not-known.false in
    ap (λ (n : ℕ). are_open b (map result_variable_of (take n c.args.result_variables.now))) (let z : i + 1 ≡ suc i = omega arith in z)
    ∙ closed_more b c.args.result_variables.now i d c.loop-result_variable-test.true c.loop-result_variable.invariant known

pub returns-then-not-known : goal.returns-then-not-known
returns-then-not-known c =
    let b = bounds_in c.args.table.now in
    let d : ResultVariable = record { rule = 0; place = 0 } in
    let i = c.loop-result_variable.result_variable-index in
    sym (open_at b c.args.result_variables.now i d c.loop-result_variable-test.true
    (missing-sound c.is_known-known.result (lacks (at_key b (result_variable_of (get_or c.args.result_variables.now i d)))) (c.is_known-known.ensures
    ∙ stored_known (stored_in c.args.table.now (get_or c.args.result_variables.now i d).rule (get_or c.args.result_variables.now i d).place)) c.if-not-known.true))

pub returns : goal.returns
returns c =
    let b = bounds_in c.args.table.now in
    sym (ap (λ (ss : List ResultVariable). are_open b (map result_variable_of ss))
    (sym (take_past c.loop-result_variable.result_variable-index c.args.result_variables.now (omega (arith, c.loop-result_variable-test.false)))) ∙ c.loop-result_variable.invariant)
