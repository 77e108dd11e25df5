-- The worked values of components, and lists that aren't listings.
use Rattle.std.proofs.Common.{◌≡◌, ◌⊎◌, inl, inr, ℕ, zero, suc, List, [], ◌∷◌, Contains, refl, sym, subst, arith}
use Rattle.its_graph.specs.Components.{IsMutual, IsNext, IsListing}
use Rattle.its_graph.specs.WorkedComponents.{Loop, Backward, zero_alone, MutualNodesAreWorkedOut}
use Rattle.its_graph.specs.WorkedComponents.{ListedNodesAreWorkedOut, ReadyNodesAreWorkedOut}
use Rattle.its_graph.specs.WorkedComponents.{NextComponentsAreWorkedOut, ListingsAreWorkedOut, InnerLinksAreWorkedOut}
use Rattle.its_graph.specs.WorkedComponents.{ComponentsAreWorkedOut}
use Rattle.its_graph.specs.Cycles.{HasInnerLink}
use Rattle.its_graph.proofs.Routes.{mutual-self}
use Rattle.its_graph.proofs.ListedNodes.{in-first, in-one, in-two}
use Rattle.its_graph.proofs.Elements.{none_in_empty}
use Rattle.its_graph.proofs.Uniqueness.{one_listing}
use Rattle.its_graph.proofs.WorkedLoop as loop
use Rattle.its_graph.proofs.WorkedBackward as backward

mutual_nodes : MutualNodesAreWorkedOut
mutual_nodes = record { both = loop.both; one_way = loop.one_way; itself = mutual-self Loop 0; no_path = λ m. omega (arith, backward.apart 0 2 m) }

-- The number 3 is in neither of two components.
no_three : (c : List ℕ) → Contains ((0 ∷ []) ∷ (2 ∷ 1 ∷ []) ∷ []) c → Contains c 3 → ⊥
no_three c (zero, low, e) h = omega (arith, in-one 0 3 (subst (λ (d : List ℕ). Contains d 3) (sym e) h))
no_three c (suc zero, low, e) h = go (in-two 2 1 3 (subst (λ (d : List ℕ). Contains d 3) (sym e) h))
  where
    go : (◌≡◌ {A = ℕ} 3 2) ⊎ (◌≡◌ {A = ℕ} 3 1) → ⊥
    go (inl f) = omega (arith, f)
    go (inr f) = omega (arith, f)
no_three c (suc (suc k), low, e) h = omega (arith, low)

listed_nodes : ListedNodesAreWorkedOut
listed_nodes = record {
  second = record { component = 2 ∷ 1 ∷ []; listed = (1, omega arith, refl); member = (1, omega arith, refl) };
  none = λ l. no_three l.component l.listed l.member;
}

ready_nodes : ReadyNodesAreWorkedOut
ready_nodes = record {
  first = loop.first_ready;
  behind_another = loop.not_first;
  past_the_end = λ h. omega (arith, h.node);
  next = loop.next_ready;
  next_greater = loop.greater_ready;
  listed = λ h. h.unlisted in-first;
  without_edge = backward.without_edge;
  source = backward.source;
  target = λ h. backward.zero_waits [] (λ k. none_in_empty 2 k) h;
}

-- The component that comes first has the least node that may come first.
too_early : IsNext Loop 3 [] (1 ∷ 2 ∷ []) → ⊥
too_early h = go (in-two 1 2 h.least ((h.members h.least).1 (mutual-self Loop h.least)))
  where
    low : h.least ≡ 0
    low = omega (arith, h.first 0 loop.first_ready)

    go : (h.least ≡ 1) ⊎ (h.least ≡ 2) → ⊥
    go (inl e) = omega (arith, low, e)
    go (inr e) = omega (arith, low, e)

-- The node 2 is in the component of 1.
a_node_lacks : IsNext Loop 3 zero_alone (1 ∷ []) → ⊥
a_node_lacks h = omega (arith, in-one 1 2 ((h.members 2).1 (subst (λ (x : ℕ). IsMutual Loop x 2) (sym one) loop.both)))
  where
    one : h.least ≡ 1
    one = in-one 1 h.least ((h.members h.least).1 (mutual-self Loop h.least))

next_components : NextComponentsAreWorkedOut
next_components = record {
  first = loop.first_next;
  next = loop.then_next;
  too_early = too_early;
  not_ascending = λ h. let up = h.ascending 0 (omega arith) in omega (arith, up);
  a_node_lacks = a_node_lacks;
  least = backward.first_next;
  not_least = λ h. let two = in-one 2 h.least ((h.members h.least).1 (mutual-self Backward h.least)) in omega (arith, two, h.first 1 backward.without_edge);
}

-- No list but the right one is a listing.
other_loop : (cs : List (List ℕ)) → ((0 ∷ []) ∷ (1 ∷ 2 ∷ []) ∷ [] ≡ cs → ⊥) → IsListing Loop 3 cs → ⊥
other_loop cs other l = other (one_listing Loop 3 _ cs loop.loop_listing l)

other_backward : (cs : List (List ℕ)) → ((1 ∷ []) ∷ (2 ∷ []) ∷ (0 ∷ []) ∷ [] ≡ cs → ⊥) → IsListing Backward 3 cs → ⊥
other_backward cs other l = other (one_listing Backward 3 _ cs backward.backward_listing l)

listings : ListingsAreWorkedOut
listings = record {
  loop = loop.loop_listing;
  turned = other_loop ((1 ∷ 2 ∷ []) ∷ (0 ∷ []) ∷ []) (λ e. cc);
  last_lacks = other_loop zero_alone (λ e. cc);
  taken_apart = other_loop ((0 ∷ []) ∷ (1 ∷ []) ∷ (2 ∷ []) ∷ []) (λ e. cc);
  backward = backward.backward_listing;
  by_numbers = other_backward ((0 ∷ []) ∷ (1 ∷ []) ∷ (2 ∷ []) ∷ []) (λ e. cc);
  ends_first = other_backward ((2 ∷ []) ∷ (0 ∷ []) ∷ (1 ∷ []) ∷ []) (λ e. cc);
}

-- No component of one node has both ends of the edge from 2 to 0.
not_inside : (x a b : ℕ) → Contains (x ∷ []) a → Contains (x ∷ []) b → Backward a b → ⊥
not_inside x a b ha hb edge =
    let from = in-one x a ha in
    let to = in-one x b hb in
    let ends = backward.edge_of a b edge in
    let source : a ≡ 2 = ends.0 in
    let target : b ≡ 0 = ends.1 in
    omega (arith, from, to, source, target)

-- No component of the second graph has an inner edge.
no_inner_link : HasInnerLink ((2, 0) ∷ []) ((1 ∷ []) ∷ (2 ∷ []) ∷ (0 ∷ []) ∷ []) → ⊥
no_inner_link h = go h.component h.listed h.holds_from h.holds_to
  where
    go : (c : List ℕ) → Contains ((1 ∷ []) ∷ (2 ∷ []) ∷ (0 ∷ []) ∷ []) c → Contains c h.from → Contains c h.to → ⊥
    go c (zero, low, e) f t =
        not_inside 1 h.from h.to (subst (λ (d : List ℕ). Contains d h.from) (sym e) f)
        (subst (λ (d : List ℕ). Contains d h.to) (sym e) t) h.link
    go c (suc zero, low, e) f t =
        not_inside 2 h.from h.to (subst (λ (d : List ℕ). Contains d h.from) (sym e) f)
        (subst (λ (d : List ℕ). Contains d h.to) (sym e) t) h.link
    go c (suc (suc zero), low, e) f t =
        not_inside 0 h.from h.to (subst (λ (d : List ℕ). Contains d h.from) (sym e) f)
        (subst (λ (d : List ℕ). Contains d h.to) (sym e) t) h.link
    go c (suc (suc (suc k)), low, e) f t = omega (arith, low)

none_listed : (c : List ℕ) → Contains {X = List ℕ} [] c → ⊥
none_listed c (k, low, e) = omega (arith, low)

inner_links : InnerLinksAreWorkedOut
inner_links = record {
  loop = record {
    component = 1 ∷ 2 ∷ [];
    listed = (1, omega arith, refl);
    from = 1;
    to = 2;
    link = (1, omega arith, refl);
    holds_from = (0, omega arith, refl);
    holds_to = (1, omega arith, refl);
  };
  itself = record {
    component = 0 ∷ [];
    listed = (0, omega arith, refl);
    from = 0;
    to = 0;
    link = (0, omega arith, refl);
    holds_from = (0, omega arith, refl);
    holds_to = (0, omega arith, refl);
  };
  backward = no_inner_link;
  unlisted = λ h. none_listed h.component h.listed;
}

-- The worked values of components hold.
pub components-are-worked-out : ComponentsAreWorkedOut
components-are-worked-out = record { mutual_nodes = mutual_nodes; listed_nodes = listed_nodes; ready_nodes = ready_nodes; next_components = next_components; listings = listings; inner_links = inner_links }
