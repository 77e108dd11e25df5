use Rattle.std.proofs.Common.{◌↔◌, ◌∙◌, ℕ, List, map, ap, subst, sym}
use Rattle.std.specs.Bool.{IsTrue}
use Rattle.farkas_cert.specs.Sizes.{AreSmall}
use Rattle.poly_terms.specs.Views.{form_of}
use Rattle.poly_terms.specs.declared.poly.Row.{Row}
use Rattle.poly_terms.specs.linear_forms.Certificates.{Implies}
use Rattle.cert_types.specs.Views.{form_of as form_at_symbol}
use Rattle.cert_types.specs.cert_rules.Composed.{rank_form}
use Rattle.cert_types.specs.cert_rules.Limits.{AreInLimit}
use Rattle.cert_types.specs.declared.rank.Form.{Form}
use Rattle.cert_types.specs.cert_rules.Numbers.{IsAscending}
use Rattle.cert_context.specs.CheckContexts.{program, setting}
use Rattle.check_ranks.specs.RankShapes.{symbol_in}
use Rattle.check_ranks.proofs.OrderedForms.{shape-ascends}
use Rattle.check_ranks.proofs.LossRows.{found-limited, found-width, floor-by, strict-rule}
use Rattle.check_ranks.proofs.losing.has_floor.Goals as goal

pub form_at-before-requires : goal.form_at-before-requires
form_at-before-requires c =
    subst (λ (fs : List Form). IsAscending (map symbol_in fs)) (sym c.deref.ensures.value)
    (shape-ascends (setting c.args.context.now) c.args.node.now c.requires.shape)

pub prepared_rule-rows-requires-clause-rule : goal.prepared_rule-rows-requires-clause-rule
prepared_rule-rows-requires-clause-rule c = strict-rule (program c.args.context.now) c.args.node.now c.requires.shape

pub floor_row-requires-clause-before : goal.floor_row-requires-clause-before
floor_row-requires-clause-before c =
    found-limited (program c.args.context.now) c.args.node.now c.requires.shape c.form_at-before.result c.source_of.result
    (c.form_at-before.ensures ∙ ap (λ fs. rank_form (map form_at_symbol fs) c.source_of.result) c.deref.ensures.value)

pub floor_row-requires-clause-least : goal.floor_row-requires-clause-least
floor_row-requires-clause-least c = c.requires.shape.den_limit

pub floor_row-requires-clause-within : goal.floor_row-requires-clause-within
floor_row-requires-clause-within c =
    found-width (program c.args.context.now) c.args.node.now c.requires.shape c.args.node.now.rule c.prepared_rule-rows.result.now
    c.prepared_rule-rows.ensures.suits c.form_at-before.result
    (c.form_at-before.ensures
    ∙ (λ i. rank_form (map form_at_symbol (c.deref.ensures.value i)) (c.source_of.ensures i)))

pub implies-requires-clause-multipliers_small : goal.implies-requires-clause-multipliers_small
implies-requires-clause-multipliers_small c = subst AreInLimit (sym c.deref-3.ensures.value) c.requires.shape.floor.limit

pub implies-requires-clause-rows_small : goal.implies-requires-clause-rows_small
implies-requires-clause-rows_small c =
    subst (λ (rs : List Row). AreSmall (map form_of rs)) (sym c.deref-2.ensures.value) c.prepared_rule-rows.ensures.small

pub returns : goal.returns
returns c =
    floor-by (program c.args.context.now) c.args.node.now c.requires.shape c.implies.result c.in_ok-goal.goal
    (map form_of c.deref-2.result.now) c.form_at-before.result
    (subst (λ (ms : List ℕ). IsTrue c.implies.result ↔ Implies (map form_of c.deref-2.result.now) ms (form_of c.in_ok-goal.goal))
    c.deref-3.ensures.value c.implies.ensures)
    c.in_ok-goal.ensures
    (ap (map form_of) c.deref-2.ensures.value ∙ c.prepared_rule-rows.ensures.rows)
    (c.form_at-before.ensures
    ∙ (λ i. rank_form (map form_at_symbol (c.deref.ensures.value i)) (c.source_of.ensures i)))
