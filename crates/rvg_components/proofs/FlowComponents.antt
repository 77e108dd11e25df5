-- The found components, and the properties of each.
use Rattle.std.proofs.Common.{◌≡◌, ◌↔◌, ℕ, ◌<◌, Bool, true, false, List, [], length, get_or, map, take, replicate, All}
use Rattle.std.proofs.Common.{Contains, sym, ◌∙◌, ap, subst, arith}
use Rattle.std.proofs.lemmas.List.{length-map, get_or-map, get_or_default}
use Rattle.std.proofs.lemmas.List.Elements.{All-from_get_or, Contains-get_or}
use Rattle.its_graph.specs.Groups.{IsPair}
use Rattle.its_graph.specs.Components.{IsNext, IsListing}
use Rattle.its_graph.proofs.PairLists.{Pair}
use Rattle.cert_types.specs.cert_rules.Nodes.{ResultVariable}
use Rattle.cert_types.specs.cert_rules.Setting.{Setting}
use Rattle.rvg_components.specs.Flows.{Locals, loops}
use Rattle.rvg_components.specs.Listing.{result_variable_at, HasFlow, AreComponents, members_of, SaysWhetherItLoops}
use Rattle.rvg_components.specs.Inside.{marked, has_inside}
use Rattle.rvg_components.specs.FlowGraphs.{IsFlowGraph}
use Rattle.rvg_components.specs.declared.component.Component.{Component}
use Rattle.rvg_components.proofs.Listings.{listing-same, next-at, nodes-within}
use Rattle.rvg_components.proofs.InnerFlows.{own-flags, inside-loops}

module _ (s : Setting) (is_live : ℕ → Bool) (local : Locals) (result_variables : List ResultVariable) (edges : List Pair) (graph : IsFlowGraph s is_live local result_variables edges)
    (positions : List (List ℕ)) (listing : IsListing (IsPair edges) (length result_variables) positions) where
  -- the components of the graph of flows, by positions
  flow-listing : IsListing (HasFlow s local result_variables) (length result_variables) positions
  flow-listing = listing-same (IsPair edges) (HasFlow s local result_variables) (λ a b. (graph.flowing a b).0) (λ a b. (graph.flowing a b).1) (length result_variables) positions listing

  -- the component at a position comes next after those before it
  next-here : (k : ℕ) → k < length positions → IsNext (HasFlow s local result_variables) (length result_variables) (take k positions) (get_or positions k [])
  next-here k low = next-at (HasFlow s local result_variables) (length result_variables) positions flow-listing k (get_or positions k []) low
      (get_or_default positions k (get_or positions k []) [] low)

  -- the nodes of each component are nodes of the graph
  within-here : (k : ℕ) → k < length positions → (a : ℕ) → Contains (get_or positions k []) a → a < length result_variables
  within-here k low a among = nodes-within (HasFlow s local result_variables) (length result_variables) (λ x y f. f.to) (take k positions) (get_or positions k []) (next-here k low) a among

  -- the positions of all components are within the list
  pub all-within : All (λ c. All (λ a. a < length result_variables) c) positions
  all-within = All-from_get_or (λ (c : List ℕ). All (λ a. a < length result_variables) c) positions []
      (λ k low. All-from_get_or (λ a. a < length result_variables) (get_or positions k []) 0
      (λ i inside. within-here k low (get_or (get_or positions k []) i 0) (Contains-get_or (get_or positions k []) i 0 inside)))

  -- the lists found are the components
  pub found-components : (found : List (List ResultVariable)) → found ≡ map (map (result_variable_at result_variables)) positions → AreComponents s is_live local found
  found-components found e = record {
    positions = positions;
    listing = subst (λ (xs : List ResultVariable). IsListing (HasFlow s local xs) (length xs) positions) graph.places flow-listing;
    result_variables = e ∙ ap (λ (xs : List ResultVariable). map (map (result_variable_at xs)) positions) graph.places;
  }

  -- each flag is true exactly if its component loops
  pub found-looping : (found : List Component) (own : List Bool) → own ≡ marked edges (replicate (length result_variables) false)
      → map members_of found ≡ map (map (result_variable_at result_variables)) positions → map (λ c. c.looping) found ≡ map (has_inside own) positions → All (SaysWhetherItLoops s local) found
  found-looping found own made members looping k d low =
      sym (get_or-map (λ (c : Component). c.looping) found k d false low)
      ∙ (ap (λ (vs : List Bool). get_or vs k false) looping
      ∙ (get_or-map (has_inside own) positions k [] false here
      ∙ (inside-loops s local result_variables own flags (take k positions) (get_or positions k []) (within-here k here) (next-here k here)
      ∙ ap (loops s local) same)))
    where
      here : k < length positions
      here = omega (arith, low, length-map found members_of, ap length members, length-map positions (map (result_variable_at result_variables)))

      flags : (a : ℕ) → a < length result_variables → (get_or own a false ≡ true) ↔ HasFlow s local result_variables a a
      flags a inside = (
        λ h. (graph.flowing a a).0 ((own-flags edges (length result_variables) a inside).0 (ap (λ (xs : List Bool). get_or xs a false) (sym made) ∙ h)),
        λ h. ap (λ (xs : List Bool). get_or xs a false) made ∙ (own-flags edges (length result_variables) a inside).1 ((graph.flowing a a).1 h),
      )

      same : map (result_variable_at result_variables) (get_or positions k []) ≡ members_of (get_or found k d)
      same = sym (get_or-map (map (result_variable_at result_variables)) positions k [] [] here)
          ∙ (ap (λ (ms : List (List ResultVariable)). get_or ms k []) (sym members) ∙ get_or-map members_of found k d [] low)
