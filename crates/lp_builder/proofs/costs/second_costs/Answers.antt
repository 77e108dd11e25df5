use Rattle.std.proofs.Common.{◌≡◌, ◌++◌, List, ap, arith, rules, ◌∙◌, map, take, replicate, refl, to_z, of_z}
use Rattle.std.specs.Prelude.{ℤ, pos}
use Rattle.std.specs.Int.{w128}
use Rattle.std.proofs.lemmas.Result.{IfOk-weaker}
use Rattle.std.proofs.lemmas.List.{take_all}
use Rattle.simplex_core.specs.linear_forms.Questions.{on_plus}
use Rattle.lp_builder.specs.declared.description.Cost.{Cost}
use Rattle.lp_builder.proofs.CostLists.{second-step}
use Rattle.lp_builder.proofs.costs.second_costs.Goals as goal

pub loop-cost-preserved : goal.loop-cost-preserved
loop-cost-preserved c =
    let plain : to_z w128 (of_z w128 c.from-height.result) ≡ c.from-height.result = search rules in
    let value = plain ∙ c.from-height.ensures in
    second-step c.args.costs.now c.loop-cost.cost-index _ _ _ _ _ _ c.loop-cost.invariant c.in_ok-push.ensures.items c.in_ok-push-2.ensures.items value refl c.loop-cost-test.true

pub returns : goal.returns
returns c =
    let all : take c.loop-cost.cost-index c.args.costs.now ≡ c.args.costs.now = take_all c.loop-cost.cost-index c.args.costs.now (omega (arith, c.loop-cost-test.false)) in
    IfOk-weaker c.with_zeros.result _ _
    (λ v e. e ∙ ap (λ (xs : List ℤ). xs ++ replicate c.args.columns (pos 0)) (c.loop-cost.invariant ∙ ap (λ (cs : List Cost). on_plus (map (λ (x : Cost). x.height) cs)) all)) c.with_zeros.ensures
