use Rattle.std.proofs.Common.{◌≡◌, ◌++◌, ap, ◌∙◌, List, map, subst, sym}
use Rattle.std.specs.List.{All}
use Rattle.poly_terms.specs.declared.poly.Row.{Row}
use Rattle.poly_terms.specs.Views.{form_of}
use Rattle.lp_builder.specs.Descriptions.{IsWritable}
use Rattle.rule_questions.proofs.EmptyProblems.{rows-all}
use Rattle.location_facts.specs.Pointed.{HasPoint}
use Rattle.location_facts.specs.Rows.{row_before, facts_at}
use Rattle.location_facts.proofs.GoalProblems.{rows-fit}
use Rattle.location_facts.proofs.PointRules.{point-excludes}
use Rattle.location_facts.proofs.implied.feasible_rule_under_facts.Goals as goal

pub returns-clause-writable : goal.returns-clause-writable
returns-clause-writable c =
    rows-all (IsWritable c.args.prepared_rule.now.unknowns) c.in_ok-rows.rows.items
    (subst (All (IsWritable c.args.prepared_rule.now.unknowns))
    (sym (c.in_ok-rows.ensures {u = tt}
    ∙ ap (λ (rs : List Row). map form_of rs ++ map row_before (facts_at c.args.source c.args.kept.now))
    c.deref.ensures.value)) c.requires.writable)

pub returns-clause-empty : goal.returns-clause-empty
returns-clause-empty c pivots =
    let made : map form_of c.in_ok-rows.rows.items ≡ map form_of c.args.prepared_rule.now.rows.items
    ++ map row_before (facts_at c.args.source c.args.kept.now) =
    c.in_ok-rows.ensures {u = tt}
    ∙ ap (λ (rs : List Row). map form_of rs ++ map row_before (facts_at c.args.source c.args.kept.now))
    c.deref.ensures.value in
    point-excludes pivots c.args.prepared_rule.now.unknowns (map form_of c.in_ok-rows.rows.items)
    (rows-fit c.args.prepared_rule.now.unknowns c.in_ok-rows.rows.items
    (rows-all (IsWritable c.args.prepared_rule.now.unknowns) c.in_ok-rows.rows.items
    (subst (All (IsWritable c.args.prepared_rule.now.unknowns)) (sym made) c.requires.writable)))
    (subst HasPoint (sym made) c.requires.point)
