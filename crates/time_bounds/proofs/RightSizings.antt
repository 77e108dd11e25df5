-- The answers of the searches of a valid program are right.
use Rattle.std.proofs.Common.{◌≡◌, ◌⊎◌, inl, inr, ℕ, zero, suc, ◌-◌, ◌<◌, ◌≤◌, ◌==◌, ◌&&◌, Bool, true, false, List, []}
use Rattle.std.proofs.Common.{◌∷◌}
use Rattle.std.proofs.Common.{length, map, Option, Some, None, refl, sym, ◌∙◌, ap, subst, arith}
use Rattle.std.specs.Prelude.{ℤ, pos, negsuc, ◌*ℤ◌, ◌<ℤ◌}
use Rattle.std.specs.List.{AllByRecursion}
use Rattle.std.proofs.lemmas.Bool.{and_from, or_left, or_right}
use Rattle.std.proofs.lemmas.Int.{ints}
use Rattle.std.proofs.lemmas.List.Elements.{recursion_from_All}
use Rattle.model.specs.Programs.{Program, Rule, rule_at, arity_of}
use Rattle.model.specs.Paths.{target_of, target_in}
use Rattle.model.proofs.Membership.{same_number, no_is_not_yes}
use Rattle.its_model.specs.Valid.{IsValid}
use Rattle.its_model.specs.linear_forms.Forms.{Form, at, form_value}
use Rattle.its_model.specs.linear_forms.Points.{IsPoint, IsRay}
use Rattle.its_model.specs.linear_forms.RuleQuestions.{after_rule}
use Rattle.its_model.proofs.linear_forms.CombinationLaws.{form_value-times}
use Rattle.cert_types.specs.rule_forms.Bounds.{IsUnboundedRay}
use Rattle.guard_prep.specs.Prepared.{prepared}
use Rattle.cert_types.specs.cert_rules.Nodes.{ResultVariable, Member}
use Rattle.cert_types.specs.cert_rules.Gaps.{ScaledPoint}
use Rattle.cert_types.specs.cert_rules.Combined.{form_at}
use Rattle.cert_types.specs.cert_rules.AcceptsSizes.{Side, Up, Low, left_in, new_value}
use Rattle.cert_types.specs.cert_program.Setting.{setting_of, rows_in, new_values_in}
use Rattle.cert_types.specs.declared.answer.Question.TheVariants as asked
use Rattle.outcome.specs.Reports.{NoSize, SizeUnbounded, SizeHitLimit, SizeMissing, SizeNonlinear, SizeUntimed, SizeLarge}
use Rattle.local_size.specs.Places.{is_polynomial_at, local_forms, value_on}
use Rattle.local_size.specs.LocalAnswers.{Local, HasBound, IsUnboundedOn, HasHitLimit}
use Rattle.local_size.specs.LocalLaws.{IsResultVariableOf, UnboundedAnswersAreUnbounded}
use Rattle.local_size.proofs.UnboundedAnswers.{unbounded-answers}
use Rattle.rvg_components.specs.Flows.{Locals, loops}
use Rattle.bound_fixpoint.specs.Keys.{IsPlace}
use Rattle.bound_fixpoint.specs.Keys.{Bounds, over}
use Rattle.bound_fixpoint.specs.Derivations.{Node, SpreadBy, CycleBy}
use Rattle.bound_fixpoint.specs.Loops.{do_loop}
use Rattle.bound_fixpoint.specs.Searches.{SizeOutcome, SizedBy, Unsized}
use Rattle.bound_fixpoint.specs.Keys.{has_key}
use Rattle.bound_fixpoint.specs.Right.{MovesTo, IsUnboundedAt, IsCause, IsFirstCause, IsSizingOf}
use Rattle.bound_fixpoint.specs.Right.{IsRightSizing, AreRight}
use Rattle.bound_fixpoint.proofs.Cases.{some_same, none_some}
use Rattle.time_bounds.specs.ProgramSearches.{searches_of_program}
use Rattle.time_bounds.specs.ProgramSizes.{IsLocalOf, AreLocalsOf, unbounded_reason, limit_hit_reason, or_else}
use Rattle.time_bounds.specs.ProgramSizes.{first_reason, lacks_side_bounds, AnswersAlone, AnswersLoop, AnswersMembers}
use Rattle.time_bounds.specs.ProgramSizes.{AnswersPlaces, HitsLimitAt}
use Rattle.time_bounds.proofs.PlaceAnswers.{unbounded_answered}
use Rattle.time_bounds.specs.SearchLaws.{ProgramSearchesAreRight}
use Rattle.time_bounds.proofs.MemberLoops.{loop_decided}
use Rattle.time_bounds.proofs.PolynomialUpdates.{polynomial-complete}
use Rattle.time_bounds.proofs.RightComponents.{components_right}
use Rattle.time_bounds.proofs.RightSearches.{emptiness_right, ranking_right}
use Rattle.local_size.proofs.NewValues.{form_at-is as form_there}

-- if there is a reason, it is one of the two
pub one_of : (a b : Option NoSize) (why : NoSize) → or_else a b ≡ Some why → (a ≡ Some why) ⊎ (b ≡ Some why)
one_of None b why e = inr e
one_of (Some v) b why e = inl e

-- the first reason is that of one of the places
pub reason-sound : (P : ResultVariable → Type 0) (reason : Local → Option NoSize) (local : Locals) (result_variables : List ResultVariable) (why : NoSize)
    → AllByRecursion P result_variables → first_reason reason local result_variables ≡ Some why
    → (m : ResultVariable) × (has_key result_variables m.rule m.place ≡ true) × P m × (reason (local m.rule m.place) ≡ Some why)
reason-sound P reason local [] why h e = absurd (none_some why e)
reason-sound P reason local (m ∷ result_variables) why h e =
    go (one_of (reason (local m.rule m.place)) (first_reason reason local result_variables) why e)
    (reason-sound P reason local result_variables why h.1)
  where
    go : (reason (local m.rule m.place) ≡ Some why) ⊎ (first_reason reason local result_variables ≡ Some why)
        → (first_reason reason local result_variables ≡ Some why
        → (n : ResultVariable) × (has_key result_variables n.rule n.place ≡ true) × P n × (reason (local n.rule n.place) ≡ Some why))
        → (n : ResultVariable) × (has_key (m ∷ result_variables) n.rule n.place ≡ true) × P n × (reason (local n.rule n.place) ≡ Some why)
    go (inl here) later = (
      m,
      or_left ((m.rule == m.rule) && (m.place == m.place)) (has_key result_variables m.rule m.place)
          (and_from (m.rule == m.rule) (m.place == m.place) (same_number m.rule) (same_number m.place)),
      h.0,
      here,
    )
    go (inr there) later =
        let x = later there in (
          x.0,
          or_right ((m.rule == x.0.rule) && (m.place == x.0.place)) (has_key result_variables x.0.rule x.0.place) x.1,
          x.2,
          x.3,
        )

-- a place is a result variable of its rule
pub result_variable_of_rule : (p : Program) (m : ResultVariable) (r : Rule) → rule_at p m.rule ≡ Some r → IsPlace p m.rule m.place
    → IsResultVariableOf p m r
result_variable_of_rule p m r numbered place = record {
  numbered = numbered;
  is_result_variable = record {
    rule = r;
    numbered = numbered;
    least = place.least;
    most = subst (λ (a : ℕ). m.place ≤ arity_of p a) (symbol m.rule r numbered place.symbol place.target) place.last;
  };
}
  where
    symbol : (t : ℕ) (q : Rule) → rule_at p t ≡ Some q → (a : ℕ) → target_of p t ≡ Some a → a ≡ q.target
    symbol zero q e a f = absurd (none_some q e)
    symbol (suc k) q e a f = some_same a q.target (sym f ∙ ap target_in e)

module _ (unbounded : UnboundedAnswersAreUnbounded) (p : Program) (pivots : ℕ) (valid : IsValid p) where
  -- the answer that a side is unbounded is right
  module _ (m : ResultVariable) (r : Rule) (numbered : rule_at p m.rule ≡ Some r) (place : IsPlace p m.rule m.place) where
    rises : (side : Side) (z : ℕ → ℤ) → pos 0 <ℤ form_value (value_on side (prepared r) m.place) z (pos 0)
        → MovesTo side (form_value (new_value (setting_of p) m) z (pos 0))
    rises side z h =
        by side (subst (λ (n : ℕ). pos 0 <ℤ form_value (value_on side (prepared r) n) z (pos 0)) low h)
      where
        low : m.place ≡ suc (m.place - 1)
        low = omega (arith, place.least)

        value : after_rule (local_forms (prepared r)) (suc (m.place - 1)) ≡ new_value (setting_of p) m
        value =
            form_there (prepared r).new_values (m.place - 1)
            ∙ ap (λ (o : Option Rule). form_at (new_values_in o) (m.place - 1)) (sym numbered)

        turned : (v w : ℤ) → v ≡ negsuc 0 *ℤ w → pos 0 <ℤ v → w <ℤ pos 0
        turned v w e k = omega (arith, ints, e, k)

        by : (d : Side) → pos 0 <ℤ form_value (value_on d (prepared r) (suc (m.place - 1))) z (pos 0)
            → MovesTo d (form_value (new_value (setting_of p) m) z (pos 0))
        by Up k = subst (λ (f : Form). pos 0 <ℤ form_value f z (pos 0)) value k
        by Low k =
            subst (λ (f : Form). form_value f z (pos 0) <ℤ pos 0) value
            (turned _ _ (form_value-times (negsuc 0) (after_rule (local_forms (prepared r)) (suc (m.place - 1))) z (pos 0)) k)

    unbounded_at : (side : Side) (ray : List ℤ) (kept : ScaledPoint)
        → IsUnboundedRay (prepared r).rows (prepared r).left (value_on side (prepared r) m.place) (at ray)
        → IsPoint (prepared r).rows (at kept.parts) (pos kept.den) → is_polynomial_at (prepared r) m.place ≡ false
        → IsUnboundedAt (setting_of p) m side ray kept
    unbounded_at side ray kept h point nonlinear = record {
      asked = λ update.
          no_is_not_yes (is_polynomial_at (prepared r) m.place) nonlinear (polynomial-complete p r m numbered place.least update);
      along = subst (λ (o : Option Rule). IsRay (rows_in o) (at ray)) (sym numbered) h.ray;
      still = λ j l. h.still j (subst (λ (o : Option Rule). j < left_in o) numbered l);
      moves = rises side (at ray) h.rises;
      point = subst (λ (o : Option Rule). IsPoint (rows_in o) (at kept.parts) (pos kept.den)) (sym numbered) point;
    }

  module _ (b : Bounds) (result_variables : List ResultVariable) where
    -- the answer for a place
    abbrev Answered : ResultVariable → Local → Type 0
    Answered m x = IsLocalOf p pivots m.rule m.place x

    -- a place with an unbounded side is a right reason for the missing size
    unbounded_cause : (m : ResultVariable) → has_key result_variables m.rule m.place ≡ true → (x : Local) → Answered m x → (why : NoSize)
        → unbounded_reason x ≡ Some why → IsCause (setting_of p) b result_variables why
    unbounded_cause m has (HasBound l) is why e = absurd (none_some why e)
    unbounded_cause m has (IsUnboundedOn side ray kept) is why e =
        let r = is.rule in
        let here = result_variable_of_rule p m r is.numbered is.place in
        let found = unbounded_answered p pivots r m.rule is.numbered m.place side ray kept is.local in
        let shown = unbounded.ray p r m pivots found.0 side ray kept valid here found.1 found.2 in
        subst (λ (w : NoSize). IsCause (setting_of p) b result_variables w) (some_same (SizeUnbounded side ray kept) why e)
        (m, has, unbounded_at m r is.numbered is.place side ray kept shown.0 shown.1 is.local.0.not_polynomial)
    unbounded_cause m has (HasHitLimit t) is why e = absurd (none_some why e)

    -- a place whose question hit a limit is a right reason
    limit_cause : (m : ResultVariable) → has_key result_variables m.rule m.place ≡ true → (x : Local) → Answered m x → (why : NoSize)
        → limit_hit_reason x ≡ Some why → IsCause (setting_of p) b result_variables why
    limit_cause m has (HasBound l) is why e = absurd (none_some why e)
    limit_cause m has (IsUnboundedOn side ray kept) is why e = absurd (none_some why e)
    limit_cause m has (HasHitLimit t) is why e =
        subst (λ (w : NoSize). IsCause (setting_of p) b result_variables w) (some_same (SizeHitLimit t) why e)
        (m, has, question is.local)
      where
        question : HitsLimitAt p pivots (prepared is.rule) m t
            → (t.question ≡ asked.Local m.rule m.place) ⊎ (t.question ≡ asked.Empty m.rule)
        question (inl own) = inl own.question
        question (inr point) = inr point.hits_limit.hits_limit.0

    -- the first check that fails is a right reason
    first_cause : (why : NoSize) → IsFirstCause (setting_of p) b result_variables why → IsCause (setting_of p) b result_variables why
    first_cause (SizeUnbounded side ray kept) h = absurd h.1
    first_cause (SizeHitLimit t) h = absurd h.1
    first_cause (SizeMissing m) h = h
    first_cause (SizeNonlinear m) h = h
    first_cause (SizeUntimed t) h = h
    first_cause (SizeLarge n) h = h

    -- a node that is equal to one that states the size of exactly these places is right
    node_right : (node other : Node) → other ≡ node → IsSizingOf (setting_of p) b result_variables node
        → IsRightSizing (setting_of p) b result_variables (SizedBy other)
    node_right node other e h = subst (λ (n : Node). IsSizingOf (setting_of p) b result_variables n) (sym e) h

    -- the answer for members with side bounds is right
    spread_right : (ms : List Member) → result_variables ≡ map (λ m. m.result_variable) ms → do_loop (setting_of p) ms ≡ false
        → (answer : SizeOutcome) → AnswersAlone (setting_of p) (over b) ms answer
        → IsRightSizing (setting_of p) b result_variables answer
    spread_right [] e alone answer h = absurd h
    spread_right (m ∷ []) e alone (SizedBy node) h =
        node_right (SpreadBy m) node h.0 (record { same = e; accepted = (h.1, alone) })
    spread_right (m ∷ []) e alone (Unsized why) h =
        first_cause why (h.0, h.1, inl record { member = m; only = e; alone = alone; first = h.2 })
    spread_right (m ∷ n ∷ ms) e alone answer h = absurd h

    cycle_right : (ms : List Member) → result_variables ≡ map (λ m. m.result_variable) ms → do_loop (setting_of p) ms ≡ true
        → (answer : SizeOutcome) → AnswersLoop (setting_of p) (over b) ms answer
        → IsRightSizing (setting_of p) b result_variables answer
    cycle_right ms e loop (SizedBy node) h =
        node_right (CycleBy ms) node h.0 (record { same = e; accepted = (h.1, loop) })
    cycle_right ms e loop (Unsized why) h =
        first_cause why (h.0, h.1, inr record { all = ms; result_variables = e; loop = loop; first = h.2 })

    judged_right : (ms : List Member) → result_variables ≡ map (λ m. m.result_variable) ms → (v : Bool) → do_loop (setting_of p) ms ≡ v
        → (answer : SizeOutcome) → AnswersMembers v (setting_of p) (over b) ms answer
        → IsRightSizing (setting_of p) b result_variables answer
    judged_right ms e false alone answer h = spread_right ms e alone answer h
    judged_right ms e true loop answer h = cycle_right ms e loop answer h

    -- each answer of a component is right
    module _ (local : Locals) (locals : AreLocalsOf p pivots local result_variables) where
      abbrev Place : ResultVariable → Type 0
      Place m = IsLocalOf p pivots m.rule m.place (local m.rule m.place)

      lacking : (why : NoSize) → lacks_side_bounds local result_variables ≡ Some why → IsCause (setting_of p) b result_variables why
      lacking why e = go (one_of (first_reason unbounded_reason local result_variables) (first_reason limit_hit_reason local result_variables) why e)
        where
          each : AllByRecursion Place result_variables
          each = recursion_from_All Place result_variables locals

          go : (first_reason unbounded_reason local result_variables ≡ Some why) ⊎ (first_reason limit_hit_reason local result_variables ≡ Some why)
              → IsCause (setting_of p) b result_variables why
          go (inl h) =
              let x = reason-sound Place unbounded_reason local result_variables why each h in
              unbounded_cause x.0 x.1 (local x.0.rule x.0.place) x.2 why x.3
          go (inr h) =
              let x = reason-sound Place limit_hit_reason local result_variables why each h in
              limit_cause x.0 x.1 (local x.0.rule x.0.place) x.2 why x.3

      sizing_right : (o : Option NoSize) → lacks_side_bounds local result_variables ≡ o → (answer : SizeOutcome)
          → AnswersPlaces (setting_of p) (over b) local result_variables o answer → IsRightSizing (setting_of p) b result_variables answer
      sizing_right (Some why) e answer h =
          subst (λ (a : SizeOutcome). IsRightSizing (setting_of p) b result_variables a) (sym h) (lacking why e)
      sizing_right None e answer h =
          judged_right h.members h.are_members.result_variables_are (loops (setting_of p) local result_variables)
          (loop_decided (setting_of p) local result_variables h.members h.are_members) answer h.sizing

  -- all answers are right
  answers_right : AreRight (searches_of_program p pivots) (setting_of p)
  answers_right = record {
    empty = emptiness_right p pivots valid;
    rank = ranking_right p pivots valid;
    components = λ cs h. components_right p pivots cs h;
    sizes = sizes;
  }
    where
      sizes : (b : Bounds) (keys : List ResultVariable) (answer : SizeOutcome) → 1 ≤ length keys
          → (searches_of_program p pivots).Sizes b keys answer → IsRightSizing (setting_of p) b keys answer
      sizes b keys answer some (local, locals, is) =
          sizing_right b keys local locals (lacks_side_bounds local keys) refl answer is

-- the searches of each valid program are right
pub program_searches_right : ProgramSearchesAreRight
program_searches_right = record { each = λ p pivots valid. answers_right unbounded-answers p pivots valid }
