use Rattle.std.proofs.Common.{◌≡◌, ℕ, ◌<◌, List, All, Contains, length, arith, sym, ◌∙◌, subst, ap}
use Rattle.std.proofs.lemmas.List.{get_or_default}
use Rattle.its_graph.specs.Groups.{values_in, Joins}
use Rattle.its_graph.specs.Floods.{Painting, painted, all_painted}
use Rattle.its_graph.proofs.PaintedNodes.{Paints, paints_all}
use Rattle.its_graph.proofs.Filling.{filling_begins, filling_goes_on, filling_ends, values-at}
use Rattle.its_graph.proofs.flood.fill.Goals as goal

-- The start was painted.
pub loop-done-init : goal.loop-done-init
loop-done-init c =
    filling_begins (Joins c.args.next.now) c.args.colors.now c.args.start c.args.old c.args.new (record { colors = c.paint.new.colors; found = c.paint.new.found.items })
    c.requires.other c.requires.start_in_range c.requires.start_old
    (c.in_ok-paint.ensures ∙ ap (λ (xs : List ℕ). painted c.args.old c.args.new c.args.start (record { colors = c.args.colors.now; found = xs })) c.new-found.ensures.items)

-- The visited node is one of the nodes.
pub bounds-next-node : goal.bounds-next-node
bounds-next-node c =
    let node = c.index-node.result.now in
    let found : Contains c.loop-done.found.items node = (c.loop-done.done, omega arith, sym c.index-node.ensures) in
    let within : node < length c.args.colors.now = (c.loop-done.invariant.from node found).1 in
    omega (arith, c.requires.one_each)

-- The successors are nodes.
pub paint_all-requires : goal.paint_all-requires
paint_all-requires c =
    let node = c.index-node.result.now in
    let lists = c.args.next.now in
    let found : Contains c.loop-done.found.items node = (c.loop-done.done, omega arith, sym c.index-node.ensures) in
    let within : node < length c.args.colors.now = (c.loop-done.invariant.from node found).1 in
    let below : node < length lists = omega (arith, c.requires.one_each) in
    let items : values_in lists node ≡ c.deref.result.now = values-at lists node c.index-next-node.result below c.index-next-node.is ∙ sym c.deref.ensures.value in
    let size : length c.args.colors.now ≡ length c.loop-done.colors = sym c.loop-done.invariant.size in
    subst (λ (n : ℕ). All (λ b. b < n) c.deref.result.now) size (subst (λ (xs : List ℕ). All (λ b. b < length c.args.colors.now) xs) items (c.requires.edges_in_range node))

-- The effect of painting the successors.
paints : (c : goal.In_ok-paint_all) → Paints c.args.old c.args.new (values_in c.args.next.now c.index-node.result.now) (record { colors = c.loop-done.colors; found = c.loop-done.found.items }) (record { colors = c.paint_all.new.colors; found = c.paint_all.new.found.items })
paints c =
    let node = c.index-node.result.now in
    let lists = c.args.next.now in
    let m : Painting = record { colors = c.loop-done.colors; found = c.loop-done.found.items } in
    let found : Contains c.loop-done.found.items node = (c.loop-done.done, omega arith, sym c.index-node.ensures) in
    let within : node < length c.args.colors.now = (c.loop-done.invariant.from node found).1 in
    let below : node < length lists = omega (arith, c.requires.one_each) in
    let size : length c.args.colors.now ≡ length c.loop-done.colors = sym c.loop-done.invariant.size in
    let in_range : All (λ b. b < length c.loop-done.colors) c.deref.result.now = subst (λ (n : ℕ). All (λ b. b < n) c.deref.result.now) size (subst (λ (xs : List ℕ). All (λ b. b < length c.args.colors.now) xs) (values-at lists node c.index-next-node.result below c.index-next-node.is ∙ sym c.deref.ensures.value) (c.requires.edges_in_range node)) in
    let items : values_in lists node ≡ c.deref.result.now = values-at lists node c.index-next-node.result below c.index-next-node.is ∙ sym c.deref.ensures.value in
    let all = paints_all c.args.old c.args.new c.deref.result.now m c.requires.other in_range in
    subst (λ (n : Painting). Paints c.args.old c.args.new (values_in lists node) m n) (sym c.in_ok-paint_all.ensures)
    (subst (λ (xs : List ℕ). Paints c.args.old c.args.new xs m (all_painted c.args.old c.args.new c.deref.result.now m)) (sym items) all)

pub loop-done-smaller : goal.loop-done-smaller
loop-done-smaller c = let work = (paints c).work in let passed = (paints c).longer in omega arith

pub loop-done-preserved : goal.loop-done-preserved
loop-done-preserved c =
    let node = c.index-node.result.now in
    let found = c.loop-done.found.items in
    let i = c.loop-done.done in
    filling_goes_on c.args.next.now c.args.colors.now c.args.start c.args.old c.args.new (record { colors = c.loop-done.colors; found = found }) (record { colors = c.paint_all.new.colors; found = c.paint_all.new.found.items })
    i node c.requires.other (omega arith) (c.index-node.ensures ∙ get_or_default found i node 0 (omega arith)) c.loop-done.invariant (paints c)

pub returns : goal.returns
returns c = filling_ends (Joins c.args.next.now) c.args.colors.now c.args.start c.args.old c.args.new (record { colors = c.loop-done.colors; found = c.loop-done.found.items }) c.loop-done.done (omega arith) c.loop-done.invariant
