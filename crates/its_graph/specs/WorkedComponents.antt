-- Worked values, on two graphs: which nodes are in one component, which component comes next, which lists are right,
-- and which components have an edge inside.
use Rattle.std.specs.Prelude.{ℕ, List, [], ◌∷◌}
use Rattle.its_graph.specs.Groups.{IsPair}
use Rattle.its_graph.specs.Components.{IsMutual, IsListed, MayComeNext, IsNext, IsListing}
use Rattle.its_graph.specs.Cycles.{HasInnerLink}

-- The graph with an edge from 0 to 1, and edges from 1 to 2 and back.
abbrev pub Loop : ℕ → ℕ → Type 0
Loop = IsPair ((0, 1) ∷ (1, 2) ∷ (2, 1) ∷ [])

-- The graph whose only edge leads from 2 to 0.
abbrev pub Backward : ℕ → ℕ → Type 0
Backward = IsPair ((2, 0) ∷ [])

-- The list with the component of 0 alone.
abbrev pub zero_alone : List (List ℕ)
zero_alone = (0 ∷ []) ∷ []

-- In the first graph, 1 and 2 are in one component, 0 and 1 aren't, and each node is in its own.
pub record MutualNodesAreWorkedOut : Type 0 where
  pub both : IsMutual Loop 1 2
  pub one_way : ¬ (IsMutual Loop 0 1)
  pub itself : IsMutual Loop 0 0
  pub no_path : ¬ (IsMutual Backward 0 2)

-- Of the components [0] and [2, 1], the second has 1, and neither has 3.
pub record ListedNodesAreWorkedOut : Type 0 where
  pub second : IsListed ((0 ∷ []) ∷ (2 ∷ 1 ∷ []) ∷ []) 1
  pub none : ¬ (IsListed ((0 ∷ []) ∷ (2 ∷ 1 ∷ []) ∷ []) 3)

-- In the first graph of three nodes, 0 may come first, and neither 1 nor a node past the end; after [0], 1 and 2 may
-- come, and not 0; in the second graph, 1 and 2 may come first, and not 0.
pub record ReadyNodesAreWorkedOut : Type 0 where
  pub first : MayComeNext Loop 3 [] 0
  pub behind_another : ¬ (MayComeNext Loop 3 [] 1)
  pub past_the_end : ¬ (MayComeNext Loop 3 [] 3)
  pub next : MayComeNext Loop 3 zero_alone 1
  pub next_greater : MayComeNext Loop 3 zero_alone 2
  pub listed : ¬ (MayComeNext Loop 3 zero_alone 0)
  pub without_edge : MayComeNext Backward 3 [] 1
  pub source : MayComeNext Backward 3 [] 2
  pub target : ¬ (MayComeNext Backward 3 [] 0)

-- In the first graph, [0] comes first, and then [1, 2], but neither [2, 1] nor [1]; in the second one, [1] comes first,
-- and [2] doesn't, since 1 is less.
pub record NextComponentsAreWorkedOut : Type 0 where
  pub first : IsNext Loop 3 [] (0 ∷ [])
  pub next : IsNext Loop 3 zero_alone (1 ∷ 2 ∷ [])
  pub too_early : ¬ (IsNext Loop 3 [] (1 ∷ 2 ∷ []))
  pub not_ascending : ¬ (IsNext Loop 3 zero_alone (2 ∷ 1 ∷ []))
  pub a_node_lacks : ¬ (IsNext Loop 3 zero_alone (1 ∷ []))
  pub least : IsNext Backward 3 [] (1 ∷ [])
  pub not_least : ¬ (IsNext Backward 3 [] (2 ∷ []))

-- The list of components of the first graph is [0], [1, 2] and no other: not in another order, nor without the last,
-- nor split; that of the second one is [1], [2], [0], not in the order of their nodes, nor with the edge's ends first.
pub record ListingsAreWorkedOut : Type 0 where
  pub loop : IsListing Loop 3 ((0 ∷ []) ∷ (1 ∷ 2 ∷ []) ∷ [])
  pub turned : ¬ (IsListing Loop 3 ((1 ∷ 2 ∷ []) ∷ (0 ∷ []) ∷ []))
  pub last_lacks : ¬ (IsListing Loop 3 zero_alone)
  pub taken_apart : ¬ (IsListing Loop 3 ((0 ∷ []) ∷ (1 ∷ []) ∷ (2 ∷ []) ∷ []))
  pub backward : IsListing Backward 3 ((1 ∷ []) ∷ (2 ∷ []) ∷ (0 ∷ []) ∷ [])
  pub by_numbers : ¬ (IsListing Backward 3 ((0 ∷ []) ∷ (1 ∷ []) ∷ (2 ∷ []) ∷ []))
  pub ends_first : ¬ (IsListing Backward 3 ((2 ∷ []) ∷ (0 ∷ []) ∷ (1 ∷ []) ∷ []))

-- The second component of the first graph has an inner edge, and so has one whose only node leads to itself; no
-- component of the second graph has one; an unlisted component with both ends of a link doesn't count.
pub record InnerLinksAreWorkedOut : Type 0 where
  pub loop : HasInnerLink ((0, 1) ∷ (1, 2) ∷ (2, 1) ∷ []) ((0 ∷ []) ∷ (1 ∷ 2 ∷ []) ∷ [])
  pub itself : HasInnerLink ((0, 0) ∷ []) zero_alone
  pub backward : ¬ (HasInnerLink ((2, 0) ∷ []) ((1 ∷ []) ∷ (2 ∷ []) ∷ (0 ∷ []) ∷ []))
  pub unlisted : ¬ (HasInnerLink ((0, 0) ∷ []) [])

-- All worked values of components.
pub record ComponentsAreWorkedOut : Type 0 where
  pub mutual_nodes : MutualNodesAreWorkedOut
  pub listed_nodes : ListedNodesAreWorkedOut
  pub ready_nodes : ReadyNodesAreWorkedOut
  pub next_components : NextComponentsAreWorkedOut
  pub listings : ListingsAreWorkedOut
  pub inner_links : InnerLinksAreWorkedOut
