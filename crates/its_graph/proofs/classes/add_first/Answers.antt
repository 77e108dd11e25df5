use Rattle.std.proofs.Common.{ℕ, ◌+◌, ◌<◌, List, length, get_or, arith, refl, sym, subst}
use Rattle.std.proofs.lemmas.List.Elements.{All-get_or}
use Rattle.its_graph.proofs.Naming.{AreFirstSoFar, first-goes_on}
use Rattle.its_graph.proofs.classes.add_first.Goals as goal

-- With one more node, the first nodes of the names stay right.
pub loop-node-preserved : goal.loop-node-preserved
loop-node-preserved c =
    let names = c.args.names.now in
    let i = c.loop-node.node in
    let name : ℕ = get_or names i 0 in
    let in_table : name < length c.loop-node.first = omega (arith, All-get_or (λ (x : ℕ). x < length names) names i 0 c.loop-node-test.true c.requires.within, c.loop-node.invariant.table) in
    subst (λ (xs : List ℕ). AreFirstSoFar names c.first_or.new.first xs (i + 1)) (sym c.in_ok-push.ensures.items)
    (first-goes_on names c.loop-node.first c.first_or.new.first c.loop-node.leaders.items i name c.first_or.result c.loop-node-test.true in_table refl c.loop-node.invariant c.first_or.ensures)
