-- The costs so far are those of the text, as signed numbers.
use Rattle.std.proofs.Common.{◌≤◌, ℕ, ap, arith, length, map, refl, ◌∙◌, List}
use Rattle.std.specs.Prelude.{pos}
use Rattle.std.specs.Int.{w128}
use Rattle.std.proofs.lemmas.Int.{to_z_pos}
use Rattle.std.proofs.lemmas.List.{take_all}
use Rattle.lp_text.proofs.LpEntries.{costs-more, cost-in_range}
use Rattle.lp_text.proofs.problem.costs_of.Goals as goal

pub overflow_cast-cost : goal.overflow_cast-cost
overflow_cast-cost c =
    let l = cost-in_range c.args.costs.now c.loop-cost.cost-index 0 c.requires c.loop-cost-test.true in omega (arith, l)

pub loop-cost-preserved : goal.loop-cost-preserved
loop-cost-preserved c =
    let l = cost-in_range c.args.costs.now c.loop-cost.cost-index 0 c.requires c.loop-cost-test.true in
    costs-more c.loop-cost.numbers.items _ c.args.costs.now c.loop-cost.cost-index 0 _ c.loop-cost.invariant
    c.in_ok-push.ensures.items (to_z_pos w128 _ (omega (arith, l))) c.loop-cost-test.true

pub returns : goal.returns
returns c =
    let past : length c.args.costs.now ≤ c.loop-cost.cost-index = omega (arith, c.loop-cost-test.false) in
    c.loop-cost.invariant ∙ ap (λ (ks : List ℕ). map pos ks) (take_all c.loop-cost.cost-index c.args.costs.now past)
