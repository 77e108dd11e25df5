use Rattle.std.proofs.Common.{arith, ap, List, length}
use Rattle.std.proofs.lemmas.Result.{IfOk-weaker}
use Rattle.simplex_core.specs.linear_forms.Forms.{Form}
use Rattle.poly_terms.specs.declared.poly.Row.{Row}
use Rattle.rule_questions.proofs.EmptyProblems.{few-unknowns, few-rows, group-writable, problem-built}
use Rattle.rank_search.proofs.emptiness.empty_problem.Goals as goal

pub add_group-requires-clause-writable : goal.add_group-requires-clause-writable
add_group-requires-clause-writable c =
    group-writable c.args.prepared_rule.now c.requires _ c.deref.result.now c.constant_row-minus_one.result
    c.deref.ensures.value
    (ap (λ (f : Form). f.coefs) c.constant_row-minus_one.ensures)
    (ap (λ (f : Form). f.constant) c.constant_row-minus_one.ensures)

pub add_group-requires-clause-few_rows : goal.add_group-requires-clause-few_rows
add_group-requires-clause-few_rows c =
    let l = few-unknowns c.args.prepared_rule.now c.requires in
    let r = c.new-builder.ensures.rows in omega (arith, l, r)

pub add_group-requires-clause-few_columns : goal.add_group-requires-clause-few_columns
add_group-requires-clause-few_columns c =
    let l = few-rows c.args.prepared_rule.now c.requires in
    let r = c.new-builder.ensures.columns in
    let e = ap (λ (rows : List Row). length rows) c.deref.ensures.value in omega (arith, l, r, e)

pub returns : goal.returns
returns c =
    IfOk-weaker c.finish.result _ _
    (λ p built. problem-built c.args.prepared_rule.now c.requires c.new-builder.result.parameters c.deref.result.now
    c.constant_row-minus_one.result c.add_group.new.self p
    c.new-builder.ensures.parameters c.deref.ensures.value (ap (λ (f : Form). f.coefs) c.constant_row-minus_one.ensures)
    (ap (λ (f : Form). f.constant) c.constant_row-minus_one.ensures)
    (c.in_ok-add_group.ensures.holds _ c.new-builder.ensures.holds) built) c.finish.ensures
