use Rattle.std.proofs.Common.{◌≡◌, ◌*◌, ◌-◌, ◌<◌, ◌≤◌, arith, ◌∙◌, length, Some}
use Rattle.std.specs.Prelude.{pos, slice_get}
use Rattle.std.specs.Int.{w128}
use Rattle.std.proofs.lemmas.Int.{to_z-of_z}
use Rattle.std.proofs.lemmas.List.{length-replicate}
use Rattle.lp_builder.proofs.Pieces.{slice_get_read, goals-step, goals-end}
use Rattle.lp_builder.proofs.line.put_goals.Goals as goal

pub loop-goal-preserved : goal.loop-goal-preserved
loop-goal-preserved c =
    let inv = c.loop-goal.invariant in
    let g = c.goal-item.result in
    let goals = c.args.goals.now in
    let i = c.loop-goal.goal-index in
    let is : slice_get goals i ≡ Some g = slice_get_read goals i g c.loop-goal-test.true c.goal-item.is in
    let least : c.loop-goal.next ≤ g.parameter = inv.3 i g (omega arith) is in
    let below : g.parameter < c.args.parameters = c.requires.listed.below i g is in
    let pair = c.in_ok-put_pair.ensures in (
      goals-step _ _ _ _ c.args.line.unknowns c.args.line.number c.args.parameters c.loop-goal.next i goals g _ inv.0.0 _ inv.0.1 inv.0.2 c.skip.ensures pair (to_z-of_z w128 c.of.result (record { sfits = c.of.type_inv }) ∙ c.of.ensures) c.loop-goal-test.true c.goal-item.is,
      omega (arith, pair.col, c.skip.ensures.col, inv.1, least, length-replicate (2 * (g.parameter - c.loop-goal.next)) (pos 0)),
      omega (arith, below),
      λ k h l at. let above = c.requires.listed.ascending i k g h (omega (arith, l)) is at in omega (arith, above),
    )

pub returns : goal.returns
returns c =
    let inv = c.loop-goal.invariant in
    let past : length c.args.goals.now ≤ c.loop-goal.goal-index = omega (arith, c.loop-goal-test.false) in (
      goals-end _ _ _ c.args.line.unknowns c.args.line.number c.args.parameters c.loop-goal.next c.loop-goal.goal-index c.args.goals.now inv.0.0 _ inv.0.1 inv.0.2 c.skip-2.ensures past,
      omega (arith, c.skip-2.ensures.col, inv.1, inv.2, length-replicate (2 * (c.args.parameters - c.loop-goal.next)) (pos 0)),
    )
