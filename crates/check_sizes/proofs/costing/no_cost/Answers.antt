use Rattle.std.proofs.Common.{◌∙◌, List, map, ap, subst, sym}
use Rattle.bound_expr.proofs.Views.{bound_of-Const}
use Rattle.farkas_cert.specs.Sizes.{AreSmall}
use Rattle.poly_terms.specs.Views.{form_of}
use Rattle.poly_terms.specs.declared.poly.Row.{Row}
use Rattle.poly_terms.specs.linear_forms.Certificates.{Implies, minus_one}
use Rattle.poly_terms.specs.linear_forms.Forms.{Form}
use Rattle.cert_types.specs.cert_rules.Nodes.{EmptyCost}
use Rattle.cert_context.specs.CheckContexts.{program}
use Rattle.check_sizes.specs.CostAnswers.{ComposesCost, cost_setting}
use Rattle.check_sizes.proofs.CostAnswers.{free, not-free}
use Rattle.check_sizes.proofs.CostRows.{cost-side_bounds, cost-own}
use Rattle.check_sizes.proofs.costing.no_cost.Goals as goal

pub empty-is_empty-requires-clause-multipliers_small : goal.empty-is_empty-requires-clause-multipliers_small
empty-is_empty-requires-clause-multipliers_small c = c.requires.numbers.within

pub empty-is_empty-requires-clause-rows_small : goal.empty-is_empty-requires-clause-rows_small
empty-is_empty-requires-clause-rows_small c =
    let k = c.args.costing.now in
    subst (λ (rs : List Row). AreSmall (map form_of rs)) (sym c.deref.ensures.value)
    (cost-side_bounds (program k.context.now) k.rule k.prepared.now c.requires.rule.rows c.requires.rule.context.valid).small

pub returns-then-is_empty : goal.returns-then-is_empty
returns-then-is_empty c = λ table.
    let k = c.args.costing.now in
    subst (ComposesCost (cost_setting k) table k.rule (EmptyCost c.args.multipliers.now)) (sym (bound_of-Const 0))
    (free (cost_setting k) table k.rule c.args.multipliers.now
    (subst (λ (fs : List Form). Implies fs c.args.multipliers.now minus_one)
    (ap (map form_of) c.deref.ensures.value ∙ (cost-own (program k.context.now) k.rule k.prepared.now c.requires.rule.rows).rows)
    (c.empty-is_empty.ensures.0 c.if-is_empty.true)))

pub returns-else-is_empty : goal.returns-else-is_empty
returns-else-is_empty c = λ table.
    let k = c.args.costing.now in
    not-free (cost_setting k) table k.rule c.args.multipliers.now
    (λ h. let f = c.empty-is_empty.ensures.1
    (subst (λ (fs : List Form). Implies fs c.args.multipliers.now minus_one)
    (sym (ap (map form_of) c.deref.ensures.value ∙ (cost-own (program k.context.now) k.rule k.prepared.now c.requires.rule.rows).rows)) h) in
    let no : ⊥ = cc in no)
