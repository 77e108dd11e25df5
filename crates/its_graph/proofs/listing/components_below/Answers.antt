use Rattle.std.proofs.Common.{◌≡◌, ℕ, ◌<◌, ◌≤◌, arith, List, Vec, length, map, get_or, sym, ◌∙◌, subst}
use Rattle.std.specs.declared.alloc.Global.{Global}
use Rattle.std.proofs.lemmas.Result.{IfOk-weaker}
use Rattle.its_graph.specs.Groups.{IsPair, items_of, values_in}
use Rattle.its_graph.specs.Components.{IsListing}
use Rattle.its_graph.specs.Classes.{AreLeaders}
use Rattle.its_graph.specs.Orders.{Needs, AreLeadersInOrder}
use Rattle.its_graph.specs.Members.{AreMembers}
use Rattle.its_graph.proofs.Membership.{found-listing, order-few, order-within, leaders-within, order-distinct}
use Rattle.its_graph.proofs.Membership.{order-all, ok-both}
use Rattle.its_graph.proofs.listing.components_below.Goals as goal

-- Leaders stay leaders when their list is replaced by an equal one.
leaders-read : (Edge : ℕ → ℕ → Type 0) (n : ℕ) (found leaders : List ℕ) → leaders ≡ found → AreLeaders Edge n found
    → AreLeaders Edge n leaders
leaders-read Edge n found leaders e h = subst (λ (xs : List ℕ). AreLeaders Edge n xs) (sym e) h

-- Leaders in order stay in order when the lists are replaced by equal ones.
order-read : (Edge : ℕ → ℕ → Type 0) (given leaders found order : List ℕ) → given ≡ leaders → order ≡ found
    → AreLeadersInOrder (Needs Edge given) given found → AreLeadersInOrder (Needs Edge leaders) leaders order
order-read Edge given leaders found order l o h =
    subst (λ (xs : List ℕ). AreLeadersInOrder (Needs Edge leaders) leaders xs) (sym o)
    (subst (λ (xs : List ℕ). AreLeadersInOrder (Needs Edge xs) xs found) l h)

-- There are at most as many leaders as nodes.
pub members_of-requires-clause-order_few : goal.members_of-requires-clause-order_few
members_of-requires-clause-order_few c =
    order-few (Needs (IsPair c.args.edges.now) c.deref-2.result.now) c.deref-2.result.now c.deref-3.result.now
    (order-read (IsPair c.args.edges.now) _ _ _ _ (c.deref.ensures.value ∙ sym c.deref-2.ensures.value)
    c.deref-3.ensures.value c.in_ok-order.ensures)

-- The leaders in order are nodes.
pub members_of-requires-clause-order_within : goal.members_of-requires-clause-order_within
members_of-requires-clause-order_within c =
    order-within (Needs (IsPair c.args.edges.now) c.deref-2.result.now) c.deref-2.result.now c.deref-3.result.now
    (order-read (IsPair c.args.edges.now) _ _ _ _ (c.deref.ensures.value ∙ sym c.deref-2.ensures.value)
    c.deref-3.ensures.value c.in_ok-order.ensures)

-- The leaders are nodes.
pub members_of-requires-clause-leaders_within : goal.members_of-requires-clause-leaders_within
members_of-requires-clause-leaders_within c =
    leaders-within (IsPair c.args.edges.now) c.args.nodes c.deref-2.result.now
    (leaders-read (IsPair c.args.edges.now) c.args.nodes _ _ c.deref-2.ensures.value c.in_ok-leaders.ensures)

-- The leaders in order differ.
pub members_of-requires-clause-distinct : goal.members_of-requires-clause-distinct
members_of-requires-clause-distinct c =
    let order : AreLeadersInOrder (Needs (IsPair c.args.edges.now) c.deref-2.result.now) c.deref-2.result.now
    c.deref-3.result.now =
    order-read (IsPair c.args.edges.now) _ _ _ _ (c.deref.ensures.value ∙ sym c.deref-2.ensures.value)
    c.deref-3.ensures.value c.in_ok-order.ensures in
    order-distinct (Needs (IsPair c.args.edges.now) c.deref-2.result.now) c.deref-2.result.now c.deref-3.result.now
    order.each

-- All leaders are in the order.
pub members_of-requires-clause-all : goal.members_of-requires-clause-all
members_of-requires-clause-all c =
    order-all (IsPair c.args.edges.now) c.args.nodes c.deref-2.result.now c.deref-3.result.now
    (Needs (IsPair c.args.edges.now) c.deref-2.result.now)
    (leaders-read (IsPair c.args.edges.now) c.args.nodes _ _ c.deref-2.ensures.value c.in_ok-leaders.ensures)
    (order-read (IsPair c.args.edges.now) _ _ _ _ (c.deref.ensures.value ∙ sym c.deref-2.ensures.value)
    c.deref-3.ensures.value c.in_ok-order.ensures)

-- The members of the leaders in order are the listing.
pub returns-clause-listing : goal.returns-clause-listing
returns-clause-listing c =
    let E : ℕ → ℕ → Type 0 = IsPair c.args.edges.now in
    let leaders = c.deref-2.result.now in
    let order = c.deref-3.result.now in
    let l : AreLeaders E c.args.nodes leaders = leaders-read E c.args.nodes _ _ c.deref-2.ensures.value
    c.in_ok-leaders.ensures in
    let o : AreLeadersInOrder (Needs E leaders) leaders order = order-read E _ _ _ _
    (c.deref.ensures.value ∙ sym c.deref-2.ensures.value) c.deref-3.ensures.value c.in_ok-order.ensures in
    ok-both c.members_of.result (λ (found : Vec (Vec ℕ Global) Global). length found.items ≡ length order)
    (λ (found : Vec (Vec ℕ Global) Global). (k : ℕ) → k < length order
    → AreMembers leaders (get_or order k 0) (values_in found.items k))
    (λ (found : Vec (Vec ℕ Global) Global). IsListing E c.args.nodes (map items_of found.items))
    (λ found size members. found-listing c.args.edges.now c.args.nodes leaders order found.items c.requires.within l o
    size members) c.members_of.ensures.one_each c.members_of.ensures.members

-- There are at most as many components as nodes.
pub returns-clause-few : goal.returns-clause-few
returns-clause-few c =
    let E : ℕ → ℕ → Type 0 = IsPair c.args.edges.now in
    let leaders = c.deref-2.result.now in
    let order = c.deref-3.result.now in
    let l : AreLeaders E c.args.nodes leaders = leaders-read E c.args.nodes _ _ c.deref-2.ensures.value
    c.in_ok-leaders.ensures in
    let few = order-few (Needs E leaders) leaders order (order-read E _ _ _ _
    (c.deref.ensures.value ∙ sym c.deref-2.ensures.value) c.deref-3.ensures.value c.in_ok-order.ensures) in
    IfOk-weaker c.members_of.result (λ (found : Vec (Vec ℕ Global) Global). length found.items ≡ length order)
    (λ (found : Vec (Vec ℕ Global) Global). length found.items ≤ c.args.nodes)
    (λ found size. omega (arith, size, few, l.size)) c.members_of.ensures.one_each
