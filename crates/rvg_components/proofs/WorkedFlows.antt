-- The worked values of components hold: the graphs of places are those whose components are worked out by numbers.
use Rattle.std.proofs.Common.{◌≡◌, ℕ, zero, suc, ◌<◌, true, false, List, [], ◌∷◌, length, map, refl, ◌∙◌}
use Rattle.std.proofs.Common.{ap, subst, arith}
use Rattle.its_graph.specs.Components.{IsListing}
use Rattle.its_graph.specs.WorkedComponents.{Loop, Backward, ListingsAreWorkedOut}
use Rattle.its_graph.proofs.PairLists.{Pair}
use Rattle.its_graph.proofs.Uniqueness.{one_listing}
use Rattle.cert_types.specs.cert_rules.Nodes.{ResultVariable}
use Rattle.cert_types.specs.cert_rules.Setting.{Setting}
use Rattle.rvg_components.specs.Flows.{value_flows, live_result_variables}
use Rattle.rvg_components.specs.Listing.{result_variable_at, HasFlow, AreComponents}
use Rattle.rvg_components.specs.WorkedFlows.{result_variable, all_read, all_live, ring, last_first, FlowComponentsAreWorkedOut}
use Rattle.rvg_components.proofs.Listings.{listing-same}

-- false isn't true
no_flow : false ≡ true → ⊥
no_flow e = cc

-- three places, one after each rule
abbrev three : List ResultVariable
three = result_variable 1 1 ∷ result_variable 2 1 ∷ result_variable 3 1 ∷ []

-- a value flows from one of the three places into another, by positions
abbrev Flow : Setting → ℕ → ℕ → Type 0
Flow s = HasFlow s all_read three

-- the flow of an edge is that of an equal edge
ends_flow : (s : Setting) (written edge : Pair) → written ≡ edge → Flow s written.0 written.1 → Flow s edge.0 edge.1
ends_flow s written edge e h = subst (λ (p : Pair). Flow s p.0 p.1) e h

-- an edge of the graph with a loop is a flow of the program with a cycle
loop_flows : (a b : ℕ) → Loop a b → Flow ring a b
loop_flows a b (zero, low, e) =
    ends_flow ring (0, 1) (a, b) e (record { from = omega arith; to = omega arith; flow = refl })
loop_flows a b (suc zero, low, e) =
    ends_flow ring (1, 2) (a, b) e (record { from = omega arith; to = omega arith; flow = refl })
loop_flows a b (suc (suc zero), low, e) =
    ends_flow ring (2, 1) (a, b) e (record { from = omega arith; to = omega arith; flow = refl })
loop_flows a b (suc (suc (suc k)), low, e) = absurd (omega (arith, low))

-- each flow of that program is an edge of the graph with a loop
flows_loop : (a b : ℕ) → Flow ring a b → Loop a b
flows_loop a b h = go a b h.from h.to h.flow
  where
    go : (a b : ℕ) → a < 3 → b < 3 → value_flows ring all_read (result_variable_at three a) (result_variable_at three b) ≡ true → Loop a b
    go zero zero from to e = absurd (no_flow e)
    go zero (suc zero) from to e = (0, omega arith, refl)
    go zero (suc (suc zero)) from to e = absurd (no_flow e)
    go (suc zero) zero from to e = absurd (no_flow e)
    go (suc zero) (suc zero) from to e = absurd (no_flow e)
    go (suc zero) (suc (suc zero)) from to e = (1, omega arith, refl)
    go (suc (suc zero)) zero from to e = absurd (no_flow e)
    go (suc (suc zero)) (suc zero) from to e = (2, omega arith, refl)
    go (suc (suc zero)) (suc (suc zero)) from to e = absurd (no_flow e)
    go (suc (suc (suc a))) b from to e = absurd (omega (arith, from))
    go a (suc (suc (suc b))) from to e = absurd (omega (arith, to))

-- the edge of the other graph is the flow into the first place
backward_flows : (a b : ℕ) → Backward a b → Flow last_first a b
backward_flows a b (zero, low, e) =
    ends_flow last_first (2, 0) (a, b) e (record { from = omega arith; to = omega arith; flow = refl })
backward_flows a b (suc k, low, e) = absurd (omega (arith, low))

-- the flow into the first place is the only one
flows_backward : (a b : ℕ) → Flow last_first a b → Backward a b
flows_backward a b h = go a b h.from h.to h.flow
  where
    go : (a b : ℕ) → a < 3 → b < 3
        → value_flows last_first all_read (result_variable_at three a) (result_variable_at three b) ≡ true → Backward a b
    go zero zero from to e = absurd (no_flow e)
    go zero (suc zero) from to e = absurd (no_flow e)
    go zero (suc (suc zero)) from to e = absurd (no_flow e)
    go (suc zero) zero from to e = absurd (no_flow e)
    go (suc zero) (suc zero) from to e = absurd (no_flow e)
    go (suc zero) (suc (suc zero)) from to e = absurd (no_flow e)
    go (suc (suc zero)) zero from to e = (0, omega arith, refl)
    go (suc (suc zero)) (suc zero) from to e = absurd (no_flow e)
    go (suc (suc zero)) (suc (suc zero)) from to e = absurd (no_flow e)
    go (suc (suc (suc a))) b from to e = absurd (omega (arith, from))
    go a (suc (suc (suc b))) from to e = absurd (omega (arith, to))

-- the places at these positions, component by component
abbrev at_positions : List (List ℕ) → List (List ResultVariable)
at_positions positions = map (map (result_variable_at three)) positions

-- the components are the places at the positions of a listing, which is unique
only : (s : Setting) (Edge : ℕ → ℕ → Type 0) → ((a b : ℕ) → Edge a b → Flow s a b)
    → ((a b : ℕ) → Flow s a b → Edge a b) → live_result_variables s.program all_live ≡ three → (positions : List (List ℕ))
    → IsListing Edge 3 positions → (cs : List (List ResultVariable)) → AreComponents s all_live all_read cs
    → cs ≡ at_positions positions
only s Edge on back places positions listing cs h =
    let counted : IsListing (Flow s) 3 h.positions = subst
    (λ (xs : List ResultVariable). IsListing (HasFlow s all_read xs) (length xs) h.positions) places h.listing in
    let same : h.positions ≡ positions = one_listing Edge 3 h.positions positions
    (listing-same (Flow s) Edge back on 3 h.positions counted) listing in
    h.result_variables ∙ ap (λ (xs : List ResultVariable). map (map (result_variable_at xs)) h.positions) places ∙ ap at_positions same

-- the rules of the places of components
abbrev rules : List (List ResultVariable) → List (List ℕ)
rules cs = map (map (λ m. m.rule)) cs

-- two lists of components are the same
abbrev AreSame : List (List ℕ) → List (List ℕ) → Type 0
AreSame a b = a ≡ b

-- if the listings of the graphs by numbers are as worked out, so are the components of the programs
pub components-sound : ListingsAreWorkedOut → FlowComponentsAreWorkedOut
components-sound told = record {
  round = record {
    positions = (0 ∷ []) ∷ (1 ∷ 2 ∷ []) ∷ [];
    listing = listing-same Loop (Flow ring) loop_flows flows_loop 3 ((0 ∷ []) ∷ (1 ∷ 2 ∷ []) ∷ []) told.loop;
    result_variables = refl;
  };
  turned = λ h. turned (ap rules (only_round ((result_variable 2 1 ∷ result_variable 3 1 ∷ []) ∷ (result_variable 1 1 ∷ []) ∷ []) h));
  descending = λ h. descending (ap rules (only_round ((result_variable 1 1 ∷ []) ∷ (result_variable 3 1 ∷ result_variable 2 1 ∷ []) ∷ []) h));
  taken_apart = λ h. taken_apart
      (ap rules (only_round ((result_variable 1 1 ∷ []) ∷ (result_variable 2 1 ∷ []) ∷ (result_variable 3 1 ∷ []) ∷ []) h));
  together = λ h. together (ap rules (only_round ((result_variable 1 1 ∷ result_variable 2 1 ∷ result_variable 3 1 ∷ []) ∷ []) h));
  lacking = λ h. lacking (ap rules (only_round ((result_variable 1 1 ∷ []) ∷ []) h));
  each_alone = record {
    positions = (1 ∷ []) ∷ (2 ∷ []) ∷ (0 ∷ []) ∷ [];
    listing = listing-same Backward (Flow last_first) backward_flows flows_backward 3
        ((1 ∷ []) ∷ (2 ∷ []) ∷ (0 ∷ []) ∷ []) told.backward;
    result_variables = refl;
  };
  by_rules = λ h. by_rules (ap rules (only_each ((result_variable 1 1 ∷ []) ∷ (result_variable 2 1 ∷ []) ∷ (result_variable 3 1 ∷ []) ∷ []) h));
  ends_first = λ h. ends_first (ap rules (only_each ((result_variable 3 1 ∷ []) ∷ (result_variable 1 1 ∷ []) ∷ (result_variable 2 1 ∷ []) ∷ []) h));
}
  where
    only_round : (cs : List (List ResultVariable)) → AreComponents ring all_live all_read cs
        → cs ≡ (result_variable 1 1 ∷ []) ∷ (result_variable 2 1 ∷ result_variable 3 1 ∷ []) ∷ []
    only_round = only ring Loop loop_flows flows_loop refl ((0 ∷ []) ∷ (1 ∷ 2 ∷ []) ∷ []) told.loop

    only_each : (cs : List (List ResultVariable)) → AreComponents last_first all_live all_read cs
        → cs ≡ (result_variable 2 1 ∷ []) ∷ (result_variable 3 1 ∷ []) ∷ (result_variable 1 1 ∷ []) ∷ []
    only_each =
        only last_first Backward backward_flows flows_backward refl ((1 ∷ []) ∷ (2 ∷ []) ∷ (0 ∷ []) ∷ []) told.backward

    turned : AreSame ((2 ∷ 3 ∷ []) ∷ (1 ∷ []) ∷ []) ((1 ∷ []) ∷ (2 ∷ 3 ∷ []) ∷ []) → ⊥
    turned e = let first : ◌≡◌ {A = ℕ} 2 1 = cc in omega (arith, first)

    descending : AreSame ((1 ∷ []) ∷ (3 ∷ 2 ∷ []) ∷ []) ((1 ∷ []) ∷ (2 ∷ 3 ∷ []) ∷ []) → ⊥
    descending e = let second : ◌≡◌ {A = ℕ} 3 2 = cc in omega (arith, second)

    taken_apart : AreSame ((1 ∷ []) ∷ (2 ∷ []) ∷ (3 ∷ []) ∷ []) ((1 ∷ []) ∷ (2 ∷ 3 ∷ []) ∷ []) → ⊥
    taken_apart e = cc

    together : AreSame ((1 ∷ 2 ∷ 3 ∷ []) ∷ []) ((1 ∷ []) ∷ (2 ∷ 3 ∷ []) ∷ []) → ⊥
    together e = cc

    lacking : AreSame ((1 ∷ []) ∷ []) ((1 ∷ []) ∷ (2 ∷ 3 ∷ []) ∷ []) → ⊥
    lacking e = cc

    by_rules : AreSame ((1 ∷ []) ∷ (2 ∷ []) ∷ (3 ∷ []) ∷ []) ((2 ∷ []) ∷ (3 ∷ []) ∷ (1 ∷ []) ∷ []) → ⊥
    by_rules e = let first : ◌≡◌ {A = ℕ} 1 2 = cc in omega (arith, first)

    ends_first : AreSame ((3 ∷ []) ∷ (1 ∷ []) ∷ (2 ∷ []) ∷ []) ((2 ∷ []) ∷ (3 ∷ []) ∷ (1 ∷ []) ∷ []) → ⊥
    ends_first e = let first : ◌≡◌ {A = ℕ} 3 2 = cc in omega (arith, first)
