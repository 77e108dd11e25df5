use Rattle.std.proofs.Common.{◌≡◌, ℕ, ◌<◌, List, All, length, arith, sym, ◌∙◌, subst}
use Rattle.std.proofs.lemmas.List.Elements.{All-get_or}
use Rattle.its_graph.specs.Groups.{values_in}
use Rattle.its_graph.proofs.Filling.{values-at}
use Rattle.its_graph.proofs.roots.Walk.go_on.Goals as goal

-- A successor of one of the nodes is one of them.
pub enter-requires-clause-within : goal.enter-requires-clause-within
enter-requires-clause-within c =
    let next = c.args.next.now in
    let node = c.args.visit.node in
    let row = c.deref.result.now in
    let successor = c.in-Some.successor.now in
    let items : values_in next node ≡ row = values-at next node c.index-next-node.result c.requires.node_within c.index-next-node.is ∙ sym c.deref.ensures.value in
    let all : All (λ b. b < length next) row = subst (λ (xs : List ℕ). All (λ b. b < length next) xs) items (c.requires.edges_within node) in
    let in_row : c.args.visit.done < length row = c.in-Some.ensures.lookup.3.0 in
    let low : successor < length next = subst (λ (x : ℕ). x < length next) (sym c.in-Some.ensures.lookup.1) (All-get_or (λ (b : ℕ). b < length next) row c.args.visit.done successor in_row all) in
    omega (arith, low, c.requires.walk.seen)
