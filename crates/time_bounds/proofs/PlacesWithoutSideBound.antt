-- A place without a local bound is alone in its component, since no value flows into it.
use Rattle.std.proofs.Common.{◌≡◌, ℕ, ◌-◌, Bool, true, false, List, [], ◌∷◌, length, subst}
use Rattle.std.proofs.lemmas.Bool.{and_parts}
use Rattle.std.specs.List.{range_with_len}
use Rattle.model.specs.Entries.{is_in}
use Rattle.model.specs.Paths.{pre}
use Rattle.model.specs.Programs.{Program}
use Rattle.model.proofs.Membership.{no_is_not_yes}
use Rattle.cert_types.specs.cert_rules.Nodes.{ResultVariable}
use Rattle.cert_types.specs.cert_program.Setting.{setting_of}
use Rattle.rank_search.proofs.rule_questions.OneEmptyAnswer.{empties-one}
use Rattle.local_size.specs.LocalAnswers.{Local}
use Rattle.local_size.proofs.OneLocal.{locals-one}
use Rattle.rvg_components.specs.Flows.{Locals, local_reads, value_flows, live_result_variables}
use Rattle.rvg_components.specs.Listing.{HasFlow, AreComponents}
use Rattle.bound_fixpoint.specs.Components.{IsCovered, IsOneOf}
use Rattle.bound_fixpoint.specs.Keys.{IsPlace, has_key}
use Rattle.bound_fixpoint.proofs.UniformComponents.{member_covered}
use Rattle.time_bounds.specs.ProgramSearches.{searches_of_program}
use Rattle.time_bounds.specs.ProgramSizes.{AreLive, IsLocalOf, AreLocals}
use Rattle.time_bounds.proofs.LiveResultVariables.{live-ascend, listed-live}
use Rattle.time_bounds.proofs.LoneComponents.{taking_none}
use Rattle.time_bounds.proofs.OneSizes.{local_one}
use Rattle.time_bounds.proofs.RightComponents.{chosen_place}

-- an answer that reads no place
abbrev pub ReadsNothing : Program → ResultVariable → Local → Type 0
ReadsNothing p m x = (j : ℕ) → local_reads (setting_of p) m x j ≡ false

module _ (p : Program) (pivots : ℕ) where
  module _ (is_live : ℕ → Bool) (lives : AreLive p pivots is_live) (local : Locals)
      (locals : AreLocals p pivots is_live local) (cs : List (List ResultVariable))
      (found : AreComponents (setting_of p) is_live local cs) where
    -- a member of a component is a place of a live rule
    member_live : (c : List ResultVariable) → IsOneOf cs c → (m : ResultVariable) → has_key c m.rule m.place ≡ true
        → (is_live m.rule ≡ true) × IsPlace p m.rule m.place
    member_live c one m h =
        listed-live p is_live (range_with_len 1 (length p.rules)) m.rule m.place
        (chosen_place (live_result_variables p is_live) (live-ascend p is_live) (HasFlow (setting_of p) local (live_result_variables p is_live))
        (λ a b e. e.to) found.positions found.listing m.rule m.place
        (subst (λ (ds : List (List ResultVariable)). IsCovered ds m.rule m.place) found.result_variables
        (member_covered cs c m.rule m.place one h)))

    alone : (c : List ResultVariable) → IsOneOf cs c → (m : ResultVariable) → has_key c m.rule m.place ≡ true → (x : Local)
        → IsLocalOf p pivots m.rule m.place x → ReadsNothing p m x → c ≡ m ∷ []
    alone c one m h x is nothing = taking_none (setting_of p) is_live local cs found c one m h none
      where
        same : local m.rule m.place ≡ x
        same =
            let live = member_live c one m h in
            local_one p pivots empties-one locals-one m.rule m.place (local m.rule m.place) x
            (locals m.rule m.place live.0 live.1) is

        none : (k : ResultVariable) → value_flows (setting_of p) local k m ≡ true → ⊥
        none k flows =
            let both = and_parts (is_in k.rule (pre p m.rule))
            (local_reads (setting_of p) m (local m.rule m.place) (k.place - 1)) flows in
            no_is_not_yes (local_reads (setting_of p) m x (k.place - 1)) (nothing (k.place - 1))
            (subst (λ (l : Local). local_reads (setting_of p) m l (k.place - 1) ≡ true) same both.1)

  -- such a place is alone in a component of the places of a program
  pub armless_alone : (cs : List (List ResultVariable)) → (searches_of_program p pivots).AreComponents cs → (c : List ResultVariable)
      → IsOneOf cs c → (m : ResultVariable) → has_key c m.rule m.place ≡ true → (x : Local)
      → IsLocalOf p pivots m.rule m.place x → ReadsNothing p m x → c ≡ m ∷ []
  armless_alone cs (is_live, lives, (local, locals, found)) = alone is_live lives local locals cs found
