use Rattle.std.proofs.Common.{◌≡◌, ◌↔◌, ℕ, ◌<◌, List, All, Contains, Vec, length, sym, ◌∙◌, ap, subst}
use Rattle.std.specs.declared.alloc.Global.{Global}
use Rattle.std.proofs.lemmas.Result.{IfOk-weaker}
use Rattle.its_graph.specs.Groups.{values_in, values_of, Joins, IsPair}
use Rattle.its_graph.specs.Orders.{IsLeader, Needs, AreLeadersInOrder, AreOrderable, needs_among}
use Rattle.its_graph.proofs.PairLists.{Pair}
use Rattle.its_graph.proofs.LeaderNeeds.{needs-table, needs-keys, orderable, order-by-edges}
use Rattle.its_graph.proofs.order.order_of.Goals as goal

-- The leaders that have needs are nodes.
pub grouped-requires : goal.grouped-requires
grouped-requires c =
    let n : ℕ = length c.args.leaders.now in
    subst (λ (xs : List Pair). All (λ (e : Pair). e.0 < n) xs) (sym (c.deref.ensures.value ∙ c.in_ok-needs_of.ensures)) (needs-keys c.args.leaders.now c.args.edges.now c.requires.leaders_are c.requires.edges_within)

-- The leaders can be put in order by the table.
pub sorted-requires-clause-orderable : goal.sorted-requires-clause-orderable
sorted-requires-clause-orderable c =
    let values : (a : ℕ) → values_in c.in_ok-needs.needs.items a ≡ values_of (needs_among c.args.leaders.now c.args.edges.now) a =
    λ a. c.in_ok-needs.ensures.values a ∙ ap (λ (xs : List Pair). values_of xs a) (c.deref.ensures.value ∙ c.in_ok-needs_of.ensures) in
    subst (λ (t : List (Vec ℕ Global)). AreOrderable c.args.leaders.now t) (sym c.deref-2.ensures.value)
    (orderable (IsPair c.args.edges.now) c.args.leaders.now c.requires.leaders_are c.in_ok-needs.needs.items c.in_ok-needs.ensures.one_each (needs-table c.args.leaders.now c.args.edges.now c.in_ok-needs.needs.items c.requires.edges_within values))

pub sorted-requires-clause-own_leaders : goal.sorted-requires-clause-own_leaders
sorted-requires-clause-own_leaders c = λ q. subst (λ (xs : List ℕ). Contains xs q ↔ IsLeader c.args.leaders.now q) (sym c.deref-3.ensures.value) (c.in_ok-own_leaders.ensures q)

-- The order by the table is the one by the edges.
pub returns : goal.returns
returns c =
    let values : (a : ℕ) → values_in c.deref-2.result.now a ≡ values_of (needs_among c.args.leaders.now c.args.edges.now) a =
    λ a. ap (λ (t : List (Vec ℕ Global)). values_in t a) c.deref-2.ensures.value ∙ (c.in_ok-needs.ensures.values a ∙ ap (λ (xs : List Pair). values_of xs a) (c.deref.ensures.value ∙ c.in_ok-needs_of.ensures)) in
    IfOk-weaker c.sorted.result (λ (order : Vec ℕ Global). AreLeadersInOrder (Joins c.deref-2.result.now) c.args.leaders.now order.items) (λ (order : Vec ℕ Global). AreLeadersInOrder (Needs (IsPair c.args.edges.now) c.args.leaders.now) c.args.leaders.now order.items)
    (λ order h. order-by-edges (IsPair c.args.edges.now) c.args.leaders.now c.requires.leaders_are (Joins c.deref-2.result.now) (needs-table c.args.leaders.now c.args.edges.now c.deref-2.result.now c.requires.edges_within values) order.items h) c.sorted.ensures
