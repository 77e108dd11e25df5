use Rattle.std.proofs.Common.{◌≤◌, ◌∙◌, List, length, map, ap, subst, sym}
use Rattle.farkas_cert.specs.Sizes.{AreSmall, HasRowNumbers}
use Rattle.std.specs.List.{All}
use Rattle.poly_terms.specs.Views.{form_of}
use Rattle.poly_terms.specs.declared.poly.Row.{Row}
use Rattle.cert_types.specs.Sizes.{form_found}
use Rattle.cert_types.specs.Views.{form_of as form_at_symbol}
use Rattle.cert_types.specs.cert_rules.Composed.{rank_form}
use Rattle.cert_types.specs.declared.rank.Form.{Form}
use Rattle.cert_types.specs.cert_rules.Numbers.{IsAscending}
use Rattle.cert_context.specs.CheckContexts.{program, setting}
use Rattle.check_ranks.specs.Goals.{AreWithin}
use Rattle.check_ranks.specs.RankShapes.{symbol_in}
use Rattle.check_ranks.proofs.OrderedForms.{shape-ascends}
use Rattle.check_ranks.proofs.LossRows.{found-limited, found-within, losing-by}
use Rattle.check_ranks.proofs.losing.is_losing.Goals as goal

pub form_at-before-requires : goal.form_at-before-requires
form_at-before-requires c =
    subst (λ (fs : List Form). IsAscending (map symbol_in fs)) (sym c.deref.ensures.value)
    (shape-ascends (setting c.args.context.now) c.args.node.now c.requires.shape)

pub form_at-after-requires : goal.form_at-after-requires
form_at-after-requires c =
    subst (λ (fs : List Form). IsAscending (map symbol_in fs)) (sym c.deref-2.ensures.value)
    (shape-ascends (setting c.args.context.now) c.args.node.now c.requires.shape)

pub loss_row-requires-clause-before : goal.loss_row-requires-clause-before
loss_row-requires-clause-before c =
    found-limited (program c.args.context.now) c.args.node.now c.requires.shape c.form_at-before.result c.source_of.result
    (c.form_at-before.ensures ∙ ap (λ fs. rank_form (map form_at_symbol fs) c.source_of.result) c.deref.ensures.value)

pub loss_row-requires-clause-after : goal.loss_row-requires-clause-after
loss_row-requires-clause-after c =
    found-limited (program c.args.context.now) c.args.node.now c.requires.shape c.form_at-after.result c.target_of.result
    (c.form_at-after.ensures ∙ ap (λ fs. rank_form (map form_at_symbol fs) c.target_of.result) c.deref-2.ensures.value)

pub loss_row-requires-clause-few : goal.loss_row-requires-clause-few
loss_row-requires-clause-few c = c.prepared_rule-rows.ensures.suits.few

pub loss_row-requires-clause-new_values : goal.loss_row-requires-clause-new_values
loss_row-requires-clause-new_values c = c.prepared_rule-rows.ensures.suits.new_values

pub loss_row-requires-clause-within : goal.loss_row-requires-clause-within
loss_row-requires-clause-within c =
    found-within (program c.args.context.now) c.args.node.now c.requires.shape c.args.rule c.prepared_rule-rows.result.now
    c.prepared_rule-rows.ensures.suits c.form_at-before.result
    (c.form_at-before.ensures
    ∙ (λ i. rank_form (map form_at_symbol (c.deref.ensures.value i)) (c.source_of.ensures i)))

pub implies-requires-clause-rows_small : goal.implies-requires-clause-rows_small
implies-requires-clause-rows_small c =
    subst (λ (rs : List Row). AreSmall (map form_of rs)) (sym c.deref-3.ensures.value) c.prepared_rule-rows.ensures.small

pub returns : goal.returns
returns c =
    losing-by (program c.args.context.now) c.args.node.now c.requires.shape c.args.rule c.least_of-least.result
    c.implies.result c.in_ok-goal.goal (map form_of c.deref-3.result.now) (map form_of c.prepared_rule-rows.result.now.new_values.items) c.args.moves.now
    c.form_at-before.result c.form_at-after.result c.implies.ensures c.in_ok-goal.ensures
    (ap (map form_of) c.deref-3.ensures.value ∙ c.prepared_rule-rows.ensures.rows)
    c.prepared_rule-rows.ensures.new_values
    (c.form_at-before.ensures
    ∙ (λ i. rank_form (map form_at_symbol (c.deref.ensures.value i)) (c.source_of.ensures i)))
    (c.form_at-after.ensures
    ∙ (λ i. rank_form (map form_at_symbol (c.deref-2.ensures.value i)) (c.target_of.ensures i)))
    c.least_of-least.ensures.least
