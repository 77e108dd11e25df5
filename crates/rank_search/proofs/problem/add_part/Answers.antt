use Rattle.std.proofs.Common.{ap, sym, ◌∙◌, subst, arith, length, map, List}
use Rattle.std.proofs.lemmas.Result.{IfOk-weaker}
use Rattle.simplex_core.specs.linear_forms.RuleQuestions.{RuleForms}
use Rattle.poly_terms.specs.declared.poly.Row.{Row}
use Rattle.lp_builder.specs.Builders.{parameter_count, Adds}
use Rattle.lp_builder.specs.Descriptions.{goal_forms}
use Rattle.rank_search.specs.Coefficients.{coefficient_of}
use Rattle.rank_search.specs.Goals.{part_group}
use Rattle.rule_questions.proofs.EmptyProblems.{few-unknowns, few-rows}
use Rattle.rank_search.proofs.RankProblems.{forms-are, is-prepared, fits-listed, part-writable, group-is}
use Rattle.rule_questions.proofs.NewValues.{new_values-small}
use Rattle.rank_search.proofs.problem.add_part.Goals as goal

pub goals_of-requires-clause-new_values : goal.goals_of-requires-clause-new_values
goals_of-requires-clause-new_values c =
    new_values-small c.index-prepared_rules-rule.result
    (is-prepared c.args.p.now c.args.prepared_rules.now c.requires.valid c.requires.rows c.args.rule c.requires.rule
    c.index-r.result.now c.index-prepared_rules-rule.result c.index-r.ensures c.index-prepared_rules-rule.is)

pub goals_of-requires-clause-fit : goal.goals_of-requires-clause-fit
goals_of-requires-clause-fit c =
    fits-listed c.args.part _ _ c.args.coefficients.now
    (forms-are c.args.p.now c.args.prepared_rules.now c.requires.valid c.requires.rows c.args.rule c.requires.rule
    c.index-r.result.now c.index-prepared_rules-rule.result c.index-r.ensures c.index-prepared_rules-rule.is)
    c.requires.fit

pub add_group-requires-clause-writable : goal.add_group-requires-clause-writable
add_group-requires-clause-writable c =
    part-writable c.args.part c.index-prepared_rules-rule.result (parameter_count c.args.builder.now)
    (length c.args.coefficients.now) c.deref.result.now c.deref-2.result.now
    c.in_ok-goals.goals.items c.fixed_row-fixed.result
    (is-prepared c.args.p.now c.args.prepared_rules.now c.requires.valid c.requires.rows c.args.rule c.requires.rule
    c.index-r.result.now c.index-prepared_rules-rule.result c.index-r.ensures c.index-prepared_rules-rule.is)
    c.requires.parameters c.deref.ensures.value c.deref-2.ensures.value c.in_ok-goals.ensures.listed
    c.in_ok-goals.ensures.writable c.fixed_row-fixed.ensures

pub add_group-requires-clause-few_rows : goal.add_group-requires-clause-few_rows
add_group-requires-clause-few_rows c =
    let l = few-unknowns c.index-prepared_rules-rule.result
    (is-prepared c.args.p.now c.args.prepared_rules.now c.requires.valid c.requires.rows c.args.rule c.requires.rule
    c.index-r.result.now c.index-prepared_rules-rule.result c.index-r.ensures c.index-prepared_rules-rule.is) in
    let r = c.requires.few_rows in omega (arith, l, r)

pub add_group-requires-clause-few_columns : goal.add_group-requires-clause-few_columns
add_group-requires-clause-few_columns c =
    let l = few-rows c.index-prepared_rules-rule.result
    (is-prepared c.args.p.now c.args.prepared_rules.now c.requires.valid c.requires.rows c.args.rule c.requires.rule
    c.index-r.result.now c.index-prepared_rules-rule.result c.index-r.ensures c.index-prepared_rules-rule.is) in
    let r = c.requires.few_columns in
    let e = ap (λ (rows : List Row). length rows) c.deref.ensures.value in omega (arith, l, r, e)

pub returns : goal.returns
returns c =
    IfOk-weaker c.add_group.result _ _
    (λ x a. subst (Adds c.args.builder.now c.add_group.new.self)
    (group-is c.args.part c.index-r.result.now.source c.index-r.result.now.target c.index-prepared_rules-rule.result
    c.args.coefficients.now c.deref.result.now c.deref-2.result.now
    c.fixed_row-fixed.result (parameter_count c.args.builder.now) c.requires.parameters c.deref.ensures.value
    (ap (goal_forms 0 (length c.args.coefficients.now)) c.deref-2.ensures.value
    ∙ c.in_ok-goals.ensures.goals) c.fixed_row-fixed.ensures
    ∙ sym (ap (λ (r : RuleForms). part_group c.args.part r (map coefficient_of c.args.coefficients.now))
    (forms-are c.args.p.now c.args.prepared_rules.now c.requires.valid c.requires.rows c.args.rule c.requires.rule
    c.index-r.result.now c.index-prepared_rules-rule.result c.index-r.ensures c.index-prepared_rules-rule.is))) a)
    c.add_group.ensures
