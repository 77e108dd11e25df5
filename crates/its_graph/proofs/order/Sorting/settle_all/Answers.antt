use Rattle.std.proofs.Common.{ℕ, ◌+◌, List, Contains, get_or, drop, arith, sym, ◌∙◌, subst}
use Rattle.std.proofs.lemmas.List.{drop_more}
use Rattle.its_graph.specs.Orders.{IsSorting}
use Rattle.its_graph.proofs.Elements.{Contains-first}
use Rattle.its_graph.proofs.Sorting.{settled, needs-within}
use Rattle.its_graph.proofs.order.Sorting.settle_all.Goals as goal

-- The leader that settles next is a node.
pub settle-requires-clause-within : goal.settle-requires-clause-within
settle-requires-clause-within c =
    let xs = c.args.unsettled.now in
    let i = c.loop-leader.leader-index in
    let first : Contains (drop i xs) (get_or xs i 0) = subst (λ (ys : List ℕ). Contains ys (get_or xs i 0)) (sym (drop_more xs i 0 c.loop-leader-test.true)) (Contains-first (get_or xs i 0) (drop (i + 1) xs)) in
    omega (arith, c.requires.orderable.size, (c.loop-leader.invariant.sorting.open_ones (get_or xs i 0) first).0.0)

pub settle-requires-clause-needs_within : goal.settle-requires-clause-needs_within
settle-requires-clause-needs_within c = needs-within c.args.needs.now c.args.leaders.now c.requires.orderable (get_or c.args.unsettled.now c.loop-leader.leader-index 0)

-- One more leader has settled.
pub loop-leader-preserved : goal.loop-leader-preserved
loop-leader-preserved c =
    let xs = c.args.unsettled.now in
    let i = c.loop-leader.leader-index in
    let now = subst (λ (ys : List ℕ). IsSorting c.args.needs.now c.args.leaders.now ys c.loop-leader.self) (drop_more xs i 0 c.loop-leader-test.true) c.loop-leader.invariant.sorting in
    record {
      sorting = settled c.args.needs.now c.args.leaders.now (get_or xs i 0) (drop (i + 1) xs) c.loop-leader.self c.settle.new.self now c.in_ok-settle.ensures;
      marks = c.in_ok-settle.ensures.marks ∙ c.loop-leader.invariant.marks;
    }
