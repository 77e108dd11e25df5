-- The reason given for a place without a size is true of the program.
use Rattle.std.proofs.Common.{◌≡◌, ℕ, Bool, true, List, [], length, Option, Some, None, refl}
use Rattle.std.proofs.Common.{sym, subst}
use Rattle.std.specs.List.{AllByRecursion}
use Rattle.std.proofs.lemmas.List.Elements.{All-from_recursion, recursion_from_All}
use Rattle.model.specs.Programs.{Program, Rule}
use Rattle.model.proofs.Cases.{none_some, some_same}
use Rattle.its_model.specs.Valid.{IsValid}
use Rattle.outcome.specs.Reports.{NoSize, SizeUnbounded, SizeHitLimit}
use Rattle.cert_types.specs.AnswerViews.{scaled_of}
use Rattle.cert_types.specs.cert_rules.Gaps.{ScaledPoint}
use Rattle.cert_types.specs.cert_rules.Known.{Table}
use Rattle.cert_types.specs.cert_rules.Nodes.{ResultVariable, Member}
use Rattle.cert_types.specs.cert_rules.Setting.{Setting}
use Rattle.cert_types.specs.cert_program.Setting.{setting_of}
use Rattle.cert_types.specs.declared.answer.GuardFeasibility.{GuardFeasibility}
use Rattle.cert_types.specs.declared.answer.GuardFeasibility.TheVariants as empties
use Rattle.cert_types.proofs.cert_rules.CheckLists.{map-each}
use Rattle.guard_prep.specs.Prepared.{prepared}
use Rattle.rank_search.specs.rule_questions.EmptyAnswers.{IsEmptyAnswer}
use Rattle.rank_search.specs.rule_questions.RuleAnswers.{point_in}
use Rattle.local_size.specs.Places.{value_on}
use Rattle.local_size.specs.LocalAnswers.{Local, HasBound, IsUnboundedOn, HasHitLimit}
use Rattle.local_size.proofs.UnboundedAnswers.{unbounded-answers}
use Rattle.rvg_components.specs.Flows.{Locals}
use Rattle.bound_fixpoint.specs.Answers.{Lacks, AnswersSizing, AnswersSize}
use Rattle.bound_fixpoint.specs.Components.{IsOneOf}
use Rattle.bound_fixpoint.specs.Keys.{Bounds, key, has_key, over}
use Rattle.bound_fixpoint.specs.Searches.{OfSize, SizeOutcome, SizedBy, Unsized}
use Rattle.bound_fixpoint.proofs.Cases.{either}
use Rattle.bound_fixpoint.proofs.Keys.{has_key-cases, has_key-none}
use Rattle.time_bounds.specs.ProgramSearches.{searches_of_program}
use Rattle.time_bounds.specs.ProgramSizes.{IsLocalOf, AreLocalsOf, unbounded_reason, limit_hit_reason, first_reason, lacks_side_bounds}
use Rattle.time_bounds.specs.ProgramSizes.{AnswersMembers, IsJudged, AnswersPlaces}
use Rattle.time_bounds.specs.SizeWhys.{IsComponentOf}
use Rattle.time_bounds.specs.SizeWhys.{HasNoSize}
use Rattle.time_bounds.proofs.PlacesWithoutSideBound.{ReadsNothing, armless_alone}
use Rattle.time_bounds.proofs.FirstLacks.{from_both, judged_so}
use Rattle.time_bounds.proofs.MemberLoops.{loop_decided}
use Rattle.time_bounds.proofs.PassedForms.{unbounded_passes}
use Rattle.time_bounds.proofs.PlaceAnswers.{unbounded_answered}
use Rattle.time_bounds.proofs.RightSizings.{one_of, reason-sound, result_variable_of_rule}

module _ (p : Program) (pivots : ℕ) (valid : IsValid p) where
  abbrev s : Setting
  s = setting_of p

  -- the point of an answer has a number for each variable
  kept_long : (rule : Rule) (t : ℕ) (a : GuardFeasibility) (kept : ScaledPoint) → IsEmptyAnswer (prepared rule) t pivots a
      → point_in (Some a) ≡ Some kept → length kept.parts ≡ (prepared rule).unknowns
  kept_long rule t (empties.Empty n) kept h e = absurd (none_some kept e)
  kept_long rule t (empties.Point z) kept h e =
      subst (λ (k : ScaledPoint). length k.parts ≡ (prepared rule).unknowns) (some_same (scaled_of z) kept e) h.0.long
  kept_long rule t (empties.OutOfLimits x) kept h e = absurd (none_some kept e)

  -- the answer that a side is unbounded is true of its place
  unbounded_so : (m : ResultVariable) (x : Local) → IsLocalOf p pivots m.rule m.place x → (why : NoSize) → unbounded_reason x ≡ Some why
      → ReadsNothing p m x × ((b : Bounds) → HasNoSize p pivots b m.rule m.place why)
  unbounded_so m (HasBound l) is why e = absurd (none_some why e)
  unbounded_so m (HasHitLimit t) is why e = absurd (none_some why e)
  unbounded_so m (IsUnboundedOn side ray kept) is why e =
      let here = result_variable_of_rule p m is.rule is.numbered is.place in
      let found = unbounded_answered p pivots is.rule m.rule is.numbered m.place side ray kept is.local in
      let shown = unbounded-answers.ray p is.rule m pivots found.0 side ray kept valid here found.1 found.2 in (
        (λ j. refl),
        λ b. subst (λ (w : NoSize). HasNoSize p pivots b m.rule m.place w) (some_same (SizeUnbounded side ray kept) why e)
            record {
              rule = is.rule;
              numbered = is.numbered;
              not_polynomial = is.local.0.not_polynomial;
              ray_length = (unbounded-answers.limits p is.rule m pivots found.0 side ray kept valid here found.2).0;
              point_length = kept_long is.rule m.rule found.0 kept found.1 found.2.point;
              from = shown.1;
              along = shown.0;
              passes = unbounded_passes (prepared is.rule).rows (prepared is.rule).left (value_on side (prepared is.rule) m.place) kept ray
                  shown.1 shown.0;
              none = unbounded-answers.none p is.rule m pivots found.0 side ray kept valid here found.1 found.2;
            },
      )

  -- the answer that a limit was hit is true of its place
  limit_hit_so : (m : ResultVariable) (x : Local) → IsLocalOf p pivots m.rule m.place x → (why : NoSize) → limit_hit_reason x ≡ Some why
      → ReadsNothing p m x × ((b : Bounds) → HasNoSize p pivots b m.rule m.place why)
  limit_hit_so m (HasBound l) is why e = absurd (none_some why e)
  limit_hit_so m (IsUnboundedOn side ray kept) is why e = absurd (none_some why e)
  limit_hit_so m (HasHitLimit x) is why e = (
    (λ j. refl),
    λ b. subst (λ (w : NoSize). HasNoSize p pivots b m.rule m.place w) (some_same (SizeHitLimit x) why e)
        record { rule = is.rule; numbered = is.numbered; hits_limit = is.local },
  )

  module _ (b : Bounds) (t i : ℕ) where
    module _ (cs : List (List ResultVariable)) (are : (searches_of_program p pivots).AreComponents cs) (keys : List ResultVariable)
        (one : IsOneOf cs keys) (has : has_key keys t i ≡ true) (local : Locals) (locals : AreLocalsOf p pivots local keys) where
      abbrev Place : ResultVariable → Type 0
      Place m = IsLocalOf p pivots m.rule m.place (local m.rule m.place)

      places : AllByRecursion Place keys
      places = recursion_from_All Place keys locals

      -- the members of the place's component
      component_of : (tab : Table) (answer : SizeOutcome) (h : IsJudged s tab local keys answer) → IsComponentOf p pivots t i h.members
      component_of tab answer h = record {
        components = cs;
        are_components = are;
        among = subst (λ (ks : List ResultVariable). IsOneOf cs ks) h.are_members.result_variables_are one;
        inside = subst (λ (ks : List ResultVariable). has_key ks t i ≡ true) h.are_members.result_variables_are has;
        bounds =
            All-from_recursion (λ (m : Member). IsLocalOf p pivots m.result_variable.rule m.result_variable.place (HasBound m.local)) h.members
            (from_both (λ (m : Member). Place m.result_variable) (λ (m : Member). local m.result_variable.rule m.result_variable.place ≡ HasBound m.local)
            (λ (m : Member). IsLocalOf p pivots m.result_variable.rule m.result_variable.place (HasBound m.local))
            (λ m k e. subst (λ (x : Local). IsLocalOf p pivots m.result_variable.rule m.result_variable.place x) e k) h.members
            (map-each Place (λ (m : Member). m.result_variable) h.members
            (subst (λ (ks : List ResultVariable). AllByRecursion Place ks) h.are_members.result_variables_are places))
            (recursion_from_All (λ (m : Member). local m.result_variable.rule m.result_variable.place ≡ HasBound m.local) h.members
            h.are_members.bounds_are));
      }

      -- if a place of the component lacks local bounds, it is this place itself, and its reason is true
      lacking_so : (m : ResultVariable) → has_key keys m.rule m.place ≡ true → (x : Local) → IsLocalOf p pivots m.rule m.place x
          → (why : NoSize) → ReadsNothing p m x × ((c : Bounds) → HasNoSize p pivots c m.rule m.place why)
          → HasNoSize p pivots b t i why
      lacking_so m h x is why so =
          let alone = armless_alone p pivots cs are keys one m h x is so.0 in
          let same : m ≡ key t i =
          either (has_key-cases m [] t i (subst (λ (ks : List ResultVariable). has_key ks t i ≡ true) alone has)) (λ e. e)
          (λ later. absurd (has_key-none t i later)) in
          subst (λ (k : ResultVariable). HasNoSize p pivots b k.rule k.place why) same (so.1 b)

      lacks_so : (why : NoSize) → lacks_side_bounds local keys ≡ Some why → HasNoSize p pivots b t i why
      lacks_so why e =
          either (one_of (first_reason unbounded_reason local keys) (first_reason limit_hit_reason local keys) why e) unbounded hits_limit
        where
          unbounded : first_reason unbounded_reason local keys ≡ Some why → HasNoSize p pivots b t i why
          unbounded k =
              let x = reason-sound Place unbounded_reason local keys why places k in
              lacking_so x.0 x.1 (local x.0.rule x.0.place) x.2 why (unbounded_so x.0 (local x.0.rule x.0.place) x.2 why x.3)

          hits_limit : first_reason limit_hit_reason local keys ≡ Some why → HasNoSize p pivots b t i why
          hits_limit k =
              let x = reason-sound Place limit_hit_reason local keys why places k in
              lacking_so x.0 x.1 (local x.0.rule x.0.place) x.2 why (limit_hit_so x.0 (local x.0.rule x.0.place) x.2 why x.3)

      sizing_so : (why : NoSize) (o : Option NoSize) → lacks_side_bounds local keys ≡ o
          → AnswersPlaces s (over b) local keys o (Unsized why) → HasNoSize p pivots b t i why
      sizing_so why (Some w) e h =
          let same : why ≡ w = cc in
          subst (λ (v : NoSize). HasNoSize p pivots b t i v) (sym same) (lacks_so w e)
      sizing_so why None e h =
          judged_so p pivots b t i why h.members (component_of (over b) (Unsized why) h)
          (subst (λ (v : Bool). AnswersMembers v s (over b) h.members (Unsized why))
          (sym (loop_decided s local keys h.members h.are_members)) h.sizing)

    -- the reason that the component of a place gives is true
    pub place_so : (cs : List (List ResultVariable)) → (searches_of_program p pivots).AreComponents cs → (keys : List ResultVariable) → IsOneOf cs keys
        → has_key keys t i ≡ true → (why : NoSize)
        → AnswersSize (searches_of_program p pivots) s b keys (Lacks (OfSize why)) → HasNoSize p pivots b t i why
    place_so cs are keys one has why h = go h.answer h.answered h.is_answer
      where
        go : (answer : SizeOutcome) → (searches_of_program p pivots).Sizes b keys answer
            → AnswersSizing s b answer (Lacks (OfSize why)) → HasNoSize p pivots b t i why
        go (SizedBy node) answered told = absurd (let none : ⊥ = cc in none)
        go (Unsized v) (local, locals, is) told =
            let same : why ≡ v = cc in
            sizing_so cs are keys one has local locals why (lacks_side_bounds local keys) refl
            (subst (λ (w : NoSize). AnswersPlaces s (over b) local keys (lacks_side_bounds local keys) (Unsized w)) (sym same) is)
