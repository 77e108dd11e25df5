use Rattle.std.proofs.Common.{◌++◌, arith, ap, ◌∙◌, List, map, subst, sym}
use Rattle.std.specs.List.{All}
use Rattle.poly_terms.specs.declared.poly.Row.{Row}
use Rattle.poly_terms.specs.Views.{form_of}
use Rattle.lp_builder.specs.Descriptions.{IsWritable}
use Rattle.rule_questions.proofs.EmptyProblems.{few-unknowns, rows-all}
use Rattle.location_facts.specs.Rows.{row_before, facts_at}
use Rattle.location_facts.proofs.implied.rule_under_facts.Goals as goal

pub emptiness-requires-clause-few_unknowns : goal.emptiness-requires-clause-few_unknowns
emptiness-requires-clause-few_unknowns c = omega (arith, few-unknowns c.args.prepared_rule.now c.requires.prepared)

pub emptiness-requires-clause-rows : goal.emptiness-requires-clause-rows
emptiness-requires-clause-rows c =
    subst (All (λ (r : Row). IsWritable c.args.prepared_rule.now.unknowns (form_of r))) (sym c.deref-2.ensures.value)
    (rows-all (IsWritable c.args.prepared_rule.now.unknowns) c.in_ok-rows.rows.items
    (subst (All (IsWritable c.args.prepared_rule.now.unknowns))
    (sym (c.in_ok-rows.ensures {u = tt}
    ∙ ap (λ (rs : List Row). map form_of rs ++ map row_before (facts_at c.args.source c.args.kept.now))
    c.deref.ensures.value)) c.requires.writable))

pub returns-clause-writable : goal.returns-clause-writable
returns-clause-writable c =
    rows-all (IsWritable c.args.prepared_rule.now.unknowns) c.in_ok-rows.rows.items
    (subst (All (IsWritable c.args.prepared_rule.now.unknowns))
    (sym (c.in_ok-rows.ensures {u = tt}
    ∙ ap (λ (rs : List Row). map form_of rs ++ map row_before (facts_at c.args.source c.args.kept.now))
    c.deref.ensures.value)) c.requires.writable)
