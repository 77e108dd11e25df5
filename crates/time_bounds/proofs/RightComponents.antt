-- The components that are found of a program are those of the places of live rules.
use Rattle.std.proofs.Common.{◌≡◌, inl, inr, ℕ, zero, suc, ◌<◌, Bool, true, List, [], ◌∷◌, ◌++◌, length, map, refl, sym}
use Rattle.std.proofs.Common.{◌∙◌}
use Rattle.std.proofs.Common.{ap, subst, arith, append_assoc, Contains, All}
use Rattle.std.proofs.lemmas.List.Elements.{All-nil, All-cons}
use Rattle.std.specs.List.{range_with_len}
use Rattle.model.specs.Programs.{Program}
use Rattle.cert_types.specs.cert_rules.Nodes.{ResultVariable}
use Rattle.cert_types.specs.cert_rules.AcceptsPlain.{IsRule}
use Rattle.its_graph.specs.Components.{IsMutual, IsListing}
use Rattle.its_graph.proofs.Routes.{join, path-within}
use Rattle.rvg_components.specs.Flows.{Locals, live_result_variables}
use Rattle.rvg_components.specs.Listing.{result_variable_at, HasFlow, AreComponents}
use Rattle.cert_types.specs.cert_program.Setting.{setting_of}
use Rattle.bound_fixpoint.specs.Keys.{IsPlace}
use Rattle.bound_fixpoint.specs.Components.{IsDead}
use Rattle.bound_fixpoint.specs.Keys.{has_key}
use Rattle.bound_fixpoint.specs.Components.{AreResultVariablesAscending, IsCovered, AreApart, AreComponentsOf}
use Rattle.time_bounds.specs.ProgramSearches.{searches_of_program}
use Rattle.time_bounds.specs.ProgramSizes.{AreLive}
use Rattle.time_bounds.proofs.ResultVariableLists.{Ascend, at-one, member-at, at-member, ascending-chosen, chosen-sound}
use Rattle.time_bounds.proofs.ResultVariableLists.{chosen-complete}
use Rattle.time_bounds.proofs.LiveResultVariables.{live-ascend, listed-live, live-listed}

-- a list between others is an element of all together
contains-middle : (before : List (List ℕ)) (c : List ℕ) (after : List (List ℕ)) → Contains (before ++ c ∷ after) c
contains-middle [] c after = (zero, omega arith, refl)
contains-middle (x ∷ before) c after =
    let there = contains-middle before c after in (suc there.0, omega (arith, there.1), there.2)

-- components of positions in a list of places that ascends, as components of places
module _ (result_variables : List ResultVariable) (up : Ascend result_variables) (Edge : ℕ → ℕ → Type 0)
    (within : (a b : ℕ) → Edge a b → b < length result_variables) (positions : List (List ℕ))
    (listing : IsListing Edge (length result_variables) positions) where
  -- the places at these positions
  abbrev places : List ℕ → List ResultVariable
  places ps = map (result_variable_at result_variables) ps

  abbrev all_places : List (List ℕ) → List (List ResultVariable)
  all_places pss = map (map (result_variable_at result_variables)) pss

  member-within : (before after : List (List ℕ)) (c : List ℕ) → positions ≡ before ++ c ∷ after → (b : ℕ) → Contains c b
      → b < length result_variables
  member-within before after c e b h =
      let next = listing.each before after c e in
      path-within Edge (length result_variables) within next.least b next.ready.node ((next.members b).0 h).onward

  -- the members of each component ascend
  ascends : (before rest : List (List ℕ)) → positions ≡ before ++ rest → All AreResultVariablesAscending (all_places rest)
  ascends before [] e = All-nil AreResultVariablesAscending
  ascends before (c ∷ rest) e =
      All-cons AreResultVariablesAscending (places c) (all_places rest)
      (ascending-chosen result_variables up c (listing.each before rest c e).ascending (member-within before rest c e))
      (ascends (before ++ c ∷ []) rest (e ∙ sym (append_assoc before (c ∷ []) rest)))

  -- no place is a member of two components
  twice : (before between : List (List ℕ)) (c d : List ℕ) (rest : List (List ℕ))
      → positions ≡ before ++ c ∷ (between ++ d ∷ rest)
      → (t i : ℕ) → has_key (places c) t i ≡ true → has_key (places d) t i ≡ true → ⊥
  twice before between c d rest e t i h k =
      let x = chosen-sound result_variables c t i h in
      let y = chosen-sound result_variables d t i k in
      let later : positions ≡ (before ++ c ∷ between) ++ d ∷ rest =
      e ∙ sym (append_assoc before (c ∷ between) (d ∷ rest)) in
      let first = listing.each before (between ++ d ∷ rest) c e in
      let second = listing.each (before ++ c ∷ between) rest d later in
      let same : y.0 ≡ x.0 =
      at-one result_variables up y.0 x.0 (member-within (before ++ c ∷ between) rest d later y.0 y.1)
      (member-within before (between ++ d ∷ rest) c e x.0 x.1) (y.2 ∙ sym x.2) in
      let here = (first.members x.0).0 x.1 in
      let there = (second.members x.0).0 (subst (λ (n : ℕ). Contains d n) same y.1) in
      let both : IsMutual Edge first.least second.least = record {
        onward = join Edge first.least x.0 second.least here.onward there.back;
        back = join Edge second.least x.0 first.least there.onward here.back;
      } in
      second.ready.unlisted record {
        component = c;
        listed = contains-middle before c between;
        member = (first.members second.least).1 both;
      }

  elsewhere : (before : List (List ℕ)) (c : List ℕ) (between rest : List (List ℕ))
      → positions ≡ before ++ c ∷ (between ++ rest) → (t i : ℕ) → has_key (places c) t i ≡ true
      → IsCovered (all_places rest) t i → ⊥
  elsewhere before c between [] e t i h l = l
  elsewhere before c between (d ∷ rest) e t i h (inl k) = twice before between c d rest e t i h k
  elsewhere before c between (d ∷ rest) e t i h (inr l) =
      elsewhere before c (between ++ d ∷ []) rest
      (e ∙ ap (λ (pss : List (List ℕ)). before ++ c ∷ pss) (sym (append_assoc between (d ∷ []) rest))) t i h l

  apart : (before rest : List (List ℕ)) → positions ≡ before ++ rest → AreApart (all_places rest)
  apart before [] e = tt
  apart before (c ∷ rest) e = (
    λ t i h l. elsewhere before c [] rest e t i h l,
    apart (before ++ c ∷ []) rest (e ∙ sym (append_assoc before (c ∷ []) rest)),
  )

  -- a member of a component is one of the places
  is_place : (before rest : List (List ℕ)) → positions ≡ before ++ rest → (t i : ℕ) → IsCovered (all_places rest) t i
      → has_key result_variables t i ≡ true
  is_place before [] e t i l = absurd l
  is_place before (c ∷ rest) e t i (inl h) =
      let x = chosen-sound result_variables c t i h in
      at-member result_variables x.0 t i (member-within before rest c e x.0 x.1) x.2
  is_place before (c ∷ rest) e t i (inr l) =
      is_place (before ++ c ∷ []) rest (e ∙ sym (append_assoc before (c ∷ []) rest)) t i l

  -- each of the places is a member of a component
  listed_in : (pss : List (List ℕ)) (c : List ℕ) (t i : ℕ) → Contains pss c → has_key (places c) t i ≡ true
      → IsCovered (all_places pss) t i
  listed_in [] c t i (n, l, same) h = absurd (omega (arith, l))
  listed_in (d ∷ pss) c t i (zero, l, same) h =
      inl (subst (λ (ps : List ℕ). has_key (places ps) t i ≡ true) (sym same) h)
  listed_in (d ∷ pss) c t i (suc n, l, same) h = inr (listed_in pss c t i (n, omega (arith, l), same) h)

  place_listed : (t i : ℕ) → has_key result_variables t i ≡ true → IsCovered (all_places positions) t i
  place_listed t i h =
      let x = member-at result_variables t i h in
      let there = listing.all x.0 x.1 in
      listed_in positions there.component t i there.listed (chosen-complete result_variables there.component x.0 t i there.member x.2)

  -- the members of each component ascend
  pub chosen_ascend : All AreResultVariablesAscending (all_places positions)
  chosen_ascend = ascends [] positions refl

  -- no place is a member of two components
  pub chosen_apart : AreApart (all_places positions)
  chosen_apart = apart [] positions refl

  -- each member of a component is one of the places
  pub chosen_place : (t i : ℕ) → IsCovered (all_places positions) t i → has_key result_variables t i ≡ true
  chosen_place t i l = is_place [] positions refl t i l

  -- each of the places is a member of a component
  pub place_chosen : (t i : ℕ) → has_key result_variables t i ≡ true → IsCovered (all_places positions) t i
  place_chosen t i h = place_listed t i h

module _ (p : Program) (pivots : ℕ) (is_live : ℕ → Bool) (lives : AreLive p pivots is_live) (local : Locals)
    (cs : List (List ResultVariable)) (found : AreComponents (setting_of p) is_live local cs) where
  abbrev result_variables : List ResultVariable
  result_variables = live_result_variables p is_live

  abbrev listed : List (List ResultVariable)
  listed = map (map (result_variable_at (live_result_variables p is_live))) found.positions

  onward : (t i : ℕ) → has_key (live_result_variables p is_live) t i ≡ true
      → IsRule p t × (¬ (IsDead p lives.is_empty t)) × IsPlace p t i
  onward t i h =
      let x = listed-live p is_live (range_with_len 1 (length p.rules)) t i h in
      let live = (lives.live t).0 x.0 in
      (live.0, live.1, x.1)

  back : (t i : ℕ) → IsRule p t × (¬ (IsDead p lives.is_empty t)) × IsPlace p t i
      → has_key (live_result_variables p is_live) t i ≡ true
  back t i (rule, alive, place) = live-listed p is_live t i rule ((lives.live t).1 (rule, alive)) place

  -- the components are those of the places of live rules
  pub components_of : AreComponentsOf (searches_of_program p pivots) p cs
  components_of = subst (λ (ds : List (List ResultVariable)). AreComponentsOf (searches_of_program p pivots) p ds) (sym found.result_variables)
      record {
        is_empty = lives.is_empty;
        empty = λ t rule. (
          λ e. let x = (lives.empty t rule).0 e in record { multipliers = x.0; shown = x.1 },
          λ h. (lives.empty t rule).1 (h.multipliers, h.shown),
        );
        ascending =
            chosen_ascend (live_result_variables p is_live) (live-ascend p is_live)
            (HasFlow (setting_of p) local (live_result_variables p is_live)) (λ a b e. e.to) found.positions found.listing;
        apart =
            chosen_apart (live_result_variables p is_live) (live-ascend p is_live)
            (HasFlow (setting_of p) local (live_result_variables p is_live)) (λ a b e. e.to) found.positions found.listing;
        live = λ t i. (
          λ l. onward t i
              (chosen_place (live_result_variables p is_live) (live-ascend p is_live)
              (HasFlow (setting_of p) local (live_result_variables p is_live)) (λ a b e. e.to) found.positions found.listing t i l),
          λ h. place_chosen (live_result_variables p is_live) (live-ascend p is_live)
              (HasFlow (setting_of p) local (live_result_variables p is_live)) (λ a b e. e.to) found.positions found.listing t i
              (back t i h),
        );
      }

-- each answer of the search for components is right
pub components_right : (p : Program) (pivots : ℕ) (cs : List (List ResultVariable))
    → (searches_of_program p pivots).AreComponents cs → AreComponentsOf (searches_of_program p pivots) p cs
components_right p pivots cs (is_live, lives, (local, locals, found)) =
    components_of p pivots is_live lives local cs found
