use Rattle.std.proofs.Common.{◌-◌, ◌^◌, ◌++◌, length, sym, ◌∙◌}
use Rattle.std.proofs.lemmas.Bool.{eqb-true, eqb-false}
use Rattle.bound_expr.specs.Views.{bound_of, bounds_of}
use Rattle.bound_table.proofs.NodeCounts.{in_place-single, in_place-product}
use Rattle.bound_table.proofs.distribution.nodes_in_place.Goals as goal

pub returns-then-is_single : goal.returns-then-is_single
returns-then-is_single c =
    let before = bounds_of c.args.before.now in
    let after = bounds_of c.args.after.now in
    let fs = bounds_of c.factors_of-factors.result.now in
    in_place-single before after fs (bound_of c.args.part.now) c.args.others c.nodes_in_all.result
    c.saturating_add-nodes.result (2 ^ 64 - 1) c.factors_of-factors.ensures
    (eqb-true (length (before ++ (fs ++ after))) 1 (sym c.is_single.ensures ∙ c.if-is_single.true))
    c.requires c.nodes_in_all.ensures c.saturating_add-nodes.ensures

pub returns : goal.returns
returns c =
    let before = bounds_of c.args.before.now in
    let after = bounds_of c.args.after.now in
    let fs = bounds_of c.factors_of-factors.result.now in
    in_place-product before after fs (bound_of c.args.part.now) c.args.others c.nodes_in_all.result
    c.saturating_add-nodes.result c.saturating_add.result (2 ^ 64 - 1) c.factors_of-factors.ensures
    (eqb-false (length (before ++ (fs ++ after))) 1 (sym c.is_single.ensures ∙ c.if-is_single.false))
    c.requires c.nodes_in_all.ensures c.saturating_add-nodes.ensures c.saturating_add.ensures
