-- Components with the side bounds of their members are those of the program.
use Rattle.std.proofs.Common.{◌≡◌, inl, inr, ℕ, zero, suc, ◌≤◌, ◌==◌, ◌&&◌, ◌||◌, Bool, true, false, List, [], ◌∷◌}
use Rattle.std.proofs.Common.{length, map, Some, refl, sym, ◌∙◌, ap, subst, arith}
use Rattle.std.specs.List.{All}
use Rattle.std.proofs.lemmas.Bool.{and_from, or_left}
use Rattle.std.proofs.lemmas.List.Elements.{All-head, All-tail, All-cons, All-nil, All-weaker}
use Rattle.model.specs.Programs.{Program, rule_at, arity_of}
use Rattle.model.specs.Paths.{target_of, target_in}
use Rattle.model.proofs.Membership.{same_number, no_is_not_yes}
use Rattle.its_model.specs.Valid.{IsValid}
use Rattle.local_size.specs.LocalAnswers.{Local, HasBound}
use Rattle.local_size.specs.LocalLaws.{IsResultVariableOf}
use Rattle.local_size.specs.declared.answer.LocalAnswer.{LocalAnswer}
use Rattle.local_size.proofs.Accepted.{bounds-accepted}
use Rattle.cert_types.specs.cert_rules.Nodes.{ResultVariable, Member}
use Rattle.cert_types.specs.cert_rules.AcceptsSizes as accepts
use Rattle.cert_types.specs.cert_rules.AcceptsSizes.{HasMemberShape, AcceptsUp, AcceptsLow}
use Rattle.cert_types.specs.cert_program.Setting.{setting_of}
use Rattle.cert_types.specs.Views.{member_of}
use Rattle.bound_fixpoint.specs.Keys.{IsPlace}
use Rattle.bound_fixpoint.specs.Keys.{has_key}
use Rattle.cert_types.specs.cert_rules.Setting.{Setting}
use Rattle.bound_fixpoint.specs.Components.{IsCovered, IsOneOf, AreResultVariablesAscending, AreComponentsOf}
use Rattle.bound_fixpoint.proofs.DeadRules.{dead_by}
use Rattle.rvg_components.specs.declared.component.Component.{Component}
use Rattle.rvg_components.specs.Flows.{Locals, loops}
use Rattle.rvg_components.specs.Listing.{AreComponents, SaysWhetherItLoops, members_of, local_from}
use Rattle.time_bounds.specs.declared.candidates.Candidate.{Candidate}
use Rattle.time_bounds.specs.declared.candidates.SideBounds.{SideBounds}
use Rattle.time_bounds.specs.declared.candidates.SideBounds.TheVariants as side_bounds
use Rattle.time_bounds.specs.ProgramSearches.{searches_of_program}
use Rattle.bound_fixpoint.specs.Keys.{key as result_variable}
use Rattle.time_bounds.specs.ProgramSizes.{AreLive, IsLocalOf, AreLocals, AreLocalsOf, AreMembers}
use Rattle.time_bounds.specs.Locals.{AreAnswered}
use Rattle.time_bounds.specs.Candidates.{result_variables_in, IsAnswered, AreSideBounds, IsArmed, AreArmed, IsAccepted, AreAccepted}
use Rattle.time_bounds.specs.Candidates.{HasAccepted, IsRightCandidate, AreCandidatesOf}
use Rattle.time_bounds.proofs.LoneComponents.{lone}
use Rattle.time_bounds.proofs.PlaceAnswers.{any_answer}
use Rattle.time_bounds.proofs.RightComponents.{components_of}

-- a property of each place is one of all places of a list
pub of_all : (P : ResultVariable → Type 0) (result_variables : List ResultVariable) → ((t i : ℕ) → has_key result_variables t i ≡ true → P (result_variable t i)) → All P result_variables
of_all P [] f = All-nil P
of_all P (m ∷ result_variables) f = All-cons P m result_variables (f m.rule m.place here) (of_all P result_variables (λ t i e. f t i (onward ((m.rule == t) && (m.place == i)) (has_key result_variables t i) e)))
  where
    here : (((m.rule == m.rule) && (m.place == m.place)) || has_key result_variables m.rule m.place) ≡ true
    here =
        or_left ((m.rule == m.rule) && (m.place == m.place)) (has_key result_variables m.rule m.place)
        (and_from (m.rule == m.rule) (m.place == m.place) (same_number m.rule) (same_number m.place))

    onward : (v w : Bool) → w ≡ true → (v || w) ≡ true
    onward true w e = refl
    onward false w e = e

module _ (p : Program) (pivots : ℕ) (valid : IsValid p) (is_live : ℕ → Bool) (lives : AreLive p pivots is_live) (local : Locals)
    (locals : AreLocals p pivots is_live local) (found : List Component)
    (components : AreComponents (setting_of p) is_live local (map members_of found)) where
  live_places : AreComponentsOf (searches_of_program p pivots) p (map members_of found)
  live_places = components_of p pivots is_live lives local (map members_of found) components

  -- a listed place is one of a live rule
  listed_live : (t i : ℕ) → IsCovered (map members_of found) t i → (is_live t ≡ true) × IsPlace p t i
  listed_live t i l =
      let x = (live_places.live t i).0 l in (
        (lives.live t).1 (
          x.0,
          λ dead. x.1 (dead_by p lives.is_empty live_places.is_empty (λ e r h. (live_places.empty e r).1 (let x = (lives.empty e r).0 h in record { multipliers = x.0; shown = x.1 })) t x.0 dead),
        ),
        x.2,
      )

  -- each member of a component has an answer
  pub answered_all : (P : ResultVariable → Type 0) → ((t i : ℕ) → is_live t ≡ true → IsPlace p t i → P (result_variable t i)) → All (λ (c : Component). All P (members_of c)) found
  answered_all P f = go found listed_live
    where
      go : (cs : List Component) → ((t i : ℕ) → IsCovered (map members_of cs) t i → (is_live t ≡ true) × IsPlace p t i)
          → All (λ (c : Component). All P (members_of c)) cs
      go [] g = All-nil (λ (c : Component). All P (members_of c))
      go (c ∷ cs) g =
          All-cons (λ (c : Component). All P (members_of c)) c cs (of_all P (members_of c) (λ t i m. let x = g t i (inl m) in f t i x.0 x.1))
          (go cs (λ t i l. g t i (inr l)))

  -- the side bounds of a place with this answer are accepted
  accepted_at : (m : Member) → IsLocalOf p pivots m.result_variable.rule m.result_variable.place (HasBound m.local) → IsAccepted p m
  accepted_at m h =
      let is : IsResultVariableOf p m.result_variable h.rule = record {
        numbered = h.numbered;
        is_result_variable = record {
          rule = h.rule;
          numbered = h.numbered;
          least = h.place.least;
          most = subst (λ (n : ℕ). m.result_variable.place ≤ n) (ap (arity_of p) (sym (target m.result_variable.rule h.numbered h.place.target))) h.place.last;
        };
      } in record {
        shape = bounds-accepted.shape p h.rule m.result_variable pivots any_answer m.local valid is h.local;
        up = bounds-accepted.up p h.rule m.result_variable pivots any_answer m.local valid is h.local;
        low = bounds-accepted.low p h.rule m.result_variable pivots any_answer m.local valid is h.local;
      }
    where
      target : (t : ℕ) → rule_at p t ≡ Some h.rule → target_of p t ≡ Some h.place.symbol → h.rule.target ≡ h.place.symbol
      target zero n e = absurd (let f : ⊥ = cc in f)
      target (suc t) n e = let x : Some h.rule.target ≡ Some h.place.symbol = sym (ap target_in n) ∙ e in cc

  each_accepted : (result_variables : List ResultVariable) (members : List Member) → result_variables ≡ map (λ m. m.result_variable) members → AreLocalsOf p pivots local result_variables
      → All (λ m. local m.result_variable.rule m.result_variable.place ≡ HasBound m.local) members → All (IsAccepted p) members
  each_accepted result_variables [] e h b = All-nil (IsAccepted p)
  each_accepted [] (m ∷ members) e h b = absurd (let f : ⊥ = cc in f)
  each_accepted (x ∷ result_variables) (m ∷ members) e h b =
      let same : x ≡ m.result_variable = cc in
      let rest : result_variables ≡ map (λ m. m.result_variable) members = cc in
      let first = All-head (λ m. IsLocalOf p pivots m.rule m.place (local m.rule m.place)) x result_variables h in
      let here = subst (λ (y : ResultVariable). IsLocalOf p pivots y.rule y.place (local y.rule y.place)) same first in
      All-cons (IsAccepted p) m members
      (accepted_at m (subst (λ (l : Local). IsLocalOf p pivots m.result_variable.rule m.result_variable.place l)
      (All-head (λ m. local m.result_variable.rule m.result_variable.place ≡ HasBound m.local) m members b) here))
      (each_accepted result_variables members rest (All-tail (λ m. IsLocalOf p pivots m.rule m.place (local m.rule m.place)) x result_variables h)
      (All-tail (λ m. local m.result_variable.rule m.result_variable.place ≡ HasBound m.local) m members b))

  ascend : (members : List Member) → AreResultVariablesAscending (map (λ m. m.result_variable) members) → accepts.AreAscending members
  ascend [] h = tt
  ascend (m ∷ []) h = tt
  ascend (m ∷ n ∷ members) h = (h.0, ascend (n ∷ members) h.1)

  -- the side bounds of the members of a loop are accepted
  together : (result_variables : List ResultVariable) (members : List Member) → AreResultVariablesAscending result_variables → AreLocalsOf p pivots local result_variables → AreMembers local result_variables members
      → loops (setting_of p) local result_variables ≡ true → AreAccepted p members
  together result_variables members up h are turns =
      let all = each_accepted result_variables members are.result_variables_are h are.bounds_are in record {
        shape = record {
          some = some members are.result_variables_are;
          ascending = ascend members (subst AreResultVariablesAscending are.result_variables_are up);
          each = All-weaker (IsAccepted p) (HasMemberShape (setting_of p)) (λ m a. a.shape) members all;
        };
        up = All-weaker (IsAccepted p) (AcceptsUp (setting_of p)) (λ m a. a.up) members all;
        low = All-weaker (IsAccepted p) (AcceptsLow (setting_of p)) (λ m a. a.low) members all;
      }
    where
      some : (members : List Member) → result_variables ≡ map (λ m. m.result_variable) members → 1 ≤ length members
      some [] e = absurd (no_is_not_yes (loops (setting_of p) local result_variables) (ap (loops (setting_of p) local) e) turns)
      some (m ∷ members) e = omega arith

  -- a component with its side bounds is a candidate
  candidate_of : (x : Component) (c : Candidate) → AreLocalsOf p pivots local (members_of x) → AreResultVariablesAscending (members_of x)
      → SaysWhetherItLoops (setting_of p) local x → IsArmed local x c → IsRightCandidate p pivots local c
  candidate_of x c answered up says armed = record {
    answered = subst (λ (ms : List ResultVariable). AreLocalsOf p pivots local ms) (sym armed.result_variables_are) answered;
    side_bounds_are =
        subst (λ (ms : List ResultVariable). AreSideBounds local ms (loops (setting_of p) local ms) c.side_bounds) (sym armed.result_variables_are)
        (subst (λ (v : Bool). AreSideBounds local (members_of x) v c.side_bounds) says armed.side_bounds_are);
    accepted = accepted c.side_bounds armed.side_bounds_are;
  }
    where
      accepted : (a : SideBounds) → AreSideBounds local (members_of x) x.looping a → HasAccepted p a
      accepted (side_bounds.Lacking entry) h = tt
      accepted (side_bounds.Alone m) h =
          All-head (IsAccepted p) (member_of m) [] (each_accepted (members_of x) (member_of m ∷ []) h.2.result_variables_are answered h.2.bounds_are)
      accepted (side_bounds.Loop ms) h = together (members_of x) (map member_of ms.items) up answered h.2 (sym says ∙ h.1)

  -- all components with their side bounds are candidates
  pub candidates_of : (cs : List Candidate) → All (SaysWhetherItLoops (setting_of p) local) found → AreArmed local found cs → AreCandidatesOf p pivots cs
  candidates_of cs says armed = record {
    is_live = is_live;
    live = lives;
    local = local;
    locals = locals;
    components = subst (λ (ms : List (List ResultVariable)). AreComponents (setting_of p) is_live local ms) (sym (same found cs armed)) components;
    each = each found cs (answered_all (λ m. IsLocalOf p pivots m.rule m.place (local m.rule m.place)) locals) (ups found live_places.ascending) says armed;
  }
    where
      same : (xs : List Component) (ds : List Candidate) → AreArmed local xs ds → map result_variables_in ds ≡ map members_of xs
      same [] [] h = refl
      same [] (d ∷ ds) h = absurd h
      same (x ∷ xs) [] h = absurd h
      same (x ∷ xs) (d ∷ ds) h =
          ap (λ (m : List ResultVariable). m ∷ map result_variables_in ds) h.0.result_variables_are ∙ ap (λ (ms : List (List ResultVariable)). members_of x ∷ ms) (same xs ds h.1)

      ups : (xs : List Component) → All AreResultVariablesAscending (map members_of xs) → All (λ x. AreResultVariablesAscending (members_of x)) xs
      ups [] h = All-nil (λ (x : Component). AreResultVariablesAscending (members_of x))
      ups (x ∷ xs) h =
          All-cons (λ (x : Component). AreResultVariablesAscending (members_of x)) x xs (All-head AreResultVariablesAscending (members_of x) (map members_of xs) h)
          (ups xs (All-tail AreResultVariablesAscending (members_of x) (map members_of xs) h))

      each : (xs : List Component) (ds : List Candidate) → All (λ (c : Component). AreLocalsOf p pivots local (members_of c)) xs
          → All (λ x. AreResultVariablesAscending (members_of x)) xs → All (SaysWhetherItLoops (setting_of p) local) xs → AreArmed local xs ds
          → All (IsRightCandidate p pivots local) ds
      each [] [] a u s h = All-nil (IsRightCandidate p pivots local)
      each [] (d ∷ ds) a u s h = absurd h
      each (x ∷ xs) [] a u s h = absurd h
      each (x ∷ xs) (d ∷ ds) a u s h =
          All-cons (IsRightCandidate p pivots local) d ds
          (candidate_of x d (All-head (λ (c : Component). AreLocalsOf p pivots local (members_of c)) x xs a)
          (All-head (λ (x : Component). AreResultVariablesAscending (members_of x)) x xs u) (All-head (SaysWhetherItLoops (setting_of p) local) x xs s) h.0)
          (each xs ds (All-tail (λ (c : Component). AreLocalsOf p pivots local (members_of c)) x xs a)
          (All-tail (λ (x : Component). AreResultVariablesAscending (members_of x)) x xs u) (All-tail (SaysWhetherItLoops (setting_of p) local) x xs s) h.1)

-- each of these components has an answer for each member, and has a single member if it doesn't loop
pub all_answered : (s : Setting) (is_live : ℕ → Bool) (lists : List (List LocalAnswer)) (found : List Component)
    → AreComponents s is_live (local_from lists) (map members_of found) → All (λ (c : Component). AreAnswered lists (members_of c)) found
    → All (SaysWhetherItLoops s (local_from lists)) found → All (IsAnswered lists) found
all_answered s is_live lists found components answered says = go found (λ c m. m) answered says
  where
    go : (xs : List Component) → ((c : List ResultVariable) → IsOneOf (map members_of xs) c → IsOneOf (map members_of found) c)
        → All (λ (c : Component). AreAnswered lists (members_of c)) xs → All (SaysWhetherItLoops s (local_from lists)) xs → All (IsAnswered lists) xs
    go [] among a l = All-nil (IsAnswered lists)
    go (x ∷ xs) among a l =
        All-cons (IsAnswered lists) x xs record {
          answered = All-head (λ (c : Component). AreAnswered lists (members_of c)) x xs a;
          lone = record {
            only = λ straight. lone s is_live (local_from lists) (map members_of found) components (members_of x) (among (members_of x) (inl refl))
                (sym (All-head (SaysWhetherItLoops s (local_from lists)) x xs l) ∙ straight);
          };
        }
        (go xs (λ c m. among c (inr m)) (All-tail (λ (c : Component). AreAnswered lists (members_of c)) x xs a)
        (All-tail (SaysWhetherItLoops s (local_from lists)) x xs l))
