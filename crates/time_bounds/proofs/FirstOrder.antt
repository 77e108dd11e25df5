-- The derivations before the first round, by statuses, are those of the relation.
use Rattle.std.proofs.Common.{◌≡◌, ◌↔◌, inl, inr, ℕ, zero, suc, ◌+◌, Bool, true, false, not, List, [], ◌∷◌, ◌++◌}
use Rattle.std.proofs.Common.{length, map, filter, Option, Some, refl, sym, ◌∙◌, ap, subst, arith}
use Rattle.std.specs.Prelude.{slice_get, nat_lt}
use Rattle.std.specs.List.{range_with_len}
use Rattle.model.specs.Programs.{Program, Rule, arity_of}
use Rattle.model.specs.Paths.{target_in, target_of}
use Rattle.model.proofs.Cases.{none_some, some_same}
use Rattle.model.proofs.Membership.{no_is_not_yes, slice_get-below}
use Rattle.guard_prep.specs.Prepared.{prepared}
use Rattle.cert_types.specs.cert_rules.AcceptsPlain.{IsRule, IsUnreached, places_at}
use Rattle.cert_types.specs.cert_rules.Nodes.{ResultVariable}
use Rattle.cert_types.specs.declared.answer.GuardFeasibility.{GuardFeasibility}
use Rattle.cert_types.specs.declared.answer.GuardFeasibility.TheVariants as answers
use Rattle.rank_search.specs.rule_questions.EmptyAnswers.{IsEmptyAnswer}
use Rattle.rank_search.specs.rule_questions.RuleAnswers.{AreEmptyAnswers}
use Rattle.rank_search.proofs.rule_questions.Exact.{answers-exact}
use Rattle.model.specs.Bounds.{Constant}
use Rattle.bound_fixpoint.specs.Keys.{key, time_key, rule_numbers}
use Rattle.bound_fixpoint.specs.Derivations.{Derivation, NeverBy}
use Rattle.bound_fixpoint.specs.Searches.{Searches, NoPoint}
use Rattle.bound_fixpoint.specs.Components.{IsEmpty, IsDead}
use Rattle.bound_fixpoint.specs.Beginning.{AreEmptyDerivations, AreFirst, unreached_derivation, never_derivation, is_cut, is_dead, has_places}
use Rattle.time_bounds.specs.declared.rule_statuses.RuleStatus.{RuleStatus}
use Rattle.time_bounds.specs.declared.rule_statuses.RuleStatus.TheVariants.{Empty, Unreached, Live}
use Rattle.time_bounds.specs.Beginning.{empty_derivations, empty_keys, unreached_derivations}
use Rattle.time_bounds.specs.Beginning.{never_here, never_derivations, sized_derivation}
use Rattle.time_bounds.specs.RuleStatuses.{says_empty, rule_status_at, is_empty_rule_status, is_dead_rule_status, AreRuleStatuses}
use Rattle.time_bounds.specs.ProgramSearches.{searches_of_program}
use Rattle.time_bounds.proofs.RuleStatusLaws.{bool_same, says, shown, shown_says}
use Rattle.time_bounds.proofs.RuleNumbers.{rule_there}

abbrev pub is_unreached_rule_status : RuleStatus → Bool
is_unreached_rule_status Empty = false
is_unreached_rule_status Unreached = true
is_unreached_rule_status Live = false

-- whether a number of places isn't 0
abbrev pub some_places : ℕ → Bool
some_places zero = false
some_places (suc n) = true

module _ (ie iu : ℕ → Bool) where
  -- the results of the tests for a rule with this status
  abbrev pub HasStatus : ℕ → RuleStatus → Type 0
  HasStatus t f = (ie t ≡ is_empty_rule_status f) × (iu t ≡ is_unreached_rule_status f)

  -- the same for these rules from rule t on
  abbrev pub HaveStatuses : ℕ → List RuleStatus → Type 0
  HaveStatuses t fs = (i : ℕ) (f : RuleStatus) → slice_get fs i ≡ Some f → HasStatus (t + i) f

  status_of_first : (t : ℕ) (f : RuleStatus) (fs : List RuleStatus) → HaveStatuses t (f ∷ fs) → HasStatus t f
  status_of_first t f fs h = subst (λ (n : ℕ). HasStatus n f) (let z : t + 0 ≡ t = omega arith in z) (h 0 f refl)

  statuses_of_rest : (t : ℕ) (f : RuleStatus) (fs : List RuleStatus) → HaveStatuses t (f ∷ fs) → HaveStatuses (t + 1) fs
  statuses_of_rest t f fs h i g e = subst (λ (n : ℕ). HasStatus n g) (let z : t + suc i ≡ t + 1 + i = omega arith in z) (h (suc i) g e)

  -- the keys of infeasible rules, by status, are those of the rules that the test finds infeasible
  pub empty_keys_are : (t : ℕ) (fs : List RuleStatus) → HaveStatuses t fs
      → empty_keys t fs ≡ map time_key (filter ie (range_with_len t (length fs)))
  empty_keys_are t [] h = refl
  empty_keys_are t (f ∷ fs) h = go f (status_of_first t f fs h) (empty_keys_are (t + 1) fs (statuses_of_rest t f fs h))
    where
      go : (g : RuleStatus) → HasStatus t g → empty_keys (t + 1) fs ≡ map time_key (filter ie (range_with_len (t + 1) (length fs)))
          → empty_keys t (g ∷ fs) ≡ map time_key (filter ie (range_with_len t (suc (length fs))))
      go Empty a ih = rw a.0 (ap (λ (ks : List ResultVariable). time_key t ∷ ks) ih)
      go Unreached a ih = rw a.0 ih
      go Live a ih = rw a.0 ih

  -- the derivations of unreached rules, by status, are those of the rules that the tests find cut off
  pub unreached_are : (dead : List ResultVariable) (t : ℕ) (fs : List RuleStatus) → HaveStatuses t fs
      → unreached_derivations dead t fs ≡ map (unreached_derivation dead) (filter (is_cut ie iu) (range_with_len t (length fs)))
  unreached_are dead t [] h = refl
  unreached_are dead t (f ∷ fs) h = go f (status_of_first t f fs h) (unreached_are dead (t + 1) fs (statuses_of_rest t f fs h))
    where
      go : (g : RuleStatus) → HasStatus t g
          → unreached_derivations dead (t + 1) fs ≡ map (unreached_derivation dead) (filter (is_cut ie iu) (range_with_len (t + 1) (length fs)))
          → unreached_derivations dead t (g ∷ fs) ≡ map (unreached_derivation dead) (filter (is_cut ie iu) (range_with_len t (suc (length fs))))
      go Empty a ih = rw a.0 ih
      go Unreached a ih = rw (a.0, a.1) (ap (λ (gs : List Derivation). unreached_derivation dead t ∷ gs) ih)
      go Live a ih = rw (a.0, a.1) ih

  -- the derivations of sizes, by status, are those of the rules found dead whose targets have places
  pub never_are : (p : Program) (has : ℕ → Bool) (t : ℕ) (fs : List RuleStatus) (rs : List Rule) → length fs ≡ length rs
      → HaveStatuses t fs → ((i : ℕ) (r : Rule) → slice_get rs i ≡ Some r
      → (has (t + i) ≡ some_places (arity_of p r.target)) × (never_derivation p (t + i) ≡ sized_derivation (t + i) (arity_of p r.target)))
      → never_derivations p t fs rs ≡ map (never_derivation p) (filter has (filter (is_dead ie iu) (range_with_len t (length fs))))
  never_are p has t [] rs e h g = refl
  never_are p has t (f ∷ fs) [] e h g = absurd (omega (arith, e))
  never_are p has t (f ∷ fs) (r ∷ rs) e h g =
      go f (arity_of p r.target) (status_of_first t f fs h)
      (subst (λ (n : ℕ). (has n ≡ some_places (arity_of p r.target)) × (never_derivation p n ≡ sized_derivation n (arity_of p r.target)))
      (let z : t + 0 ≡ t = omega arith in z) (g 0 r refl))
      (never_are p has (t + 1) fs rs (let z : length fs ≡ length rs = omega (arith, e) in z) (statuses_of_rest t f fs h)
      (λ i s k. subst (λ (n : ℕ). (has n ≡ some_places (arity_of p s.target)) × (never_derivation p n ≡ sized_derivation n (arity_of p s.target)))
      (let z : t + suc i ≡ t + 1 + i = omega arith in z) (g (suc i) s k)))
    where
      go : (d : RuleStatus) (a : ℕ) → HasStatus t d → (has t ≡ some_places a) × (never_derivation p t ≡ sized_derivation t a)
          → never_derivations p (t + 1) fs rs ≡ map (never_derivation p) (filter has (filter (is_dead ie iu) (range_with_len (t + 1) (length fs))))
          → never_here t d a ++ never_derivations p (t + 1) fs rs
          ≡ map (never_derivation p) (filter has (filter (is_dead ie iu) (range_with_len t (suc (length fs)))))
      go Empty zero b k ih = rw (b.0, k.0) ih
      go Empty (suc a) b k ih =
          rw (b.0, k.0) (ap (λ (f : Derivation). f ∷ never_derivations p (t + 1) fs rs) (sym k.1) ∙ ap (λ (gs : List Derivation). never_derivation p t ∷ gs) ih)
      go Unreached zero b k ih = rw (b.0, b.1, k.0) ih
      go Unreached (suc a) b k ih =
          rw (b.0, b.1, k.0) (ap (λ (f : Derivation). f ∷ never_derivations p (t + 1) fs rs) (sym k.1) ∙ ap (λ (gs : List Derivation). never_derivation p t ∷ gs) ih)
      go Live a b k ih = rw (b.0, b.1) ih

-- an answer that the rows of a rule have no point is one of the searches
abbrev IsAnswerOf : Searches → ℕ → GuardFeasibility → Type 0
IsAnswerOf q t (answers.Empty n) = q.Empties t (NoPoint n.multipliers.items)
IsAnswerOf q t (answers.Point z) = Unit {0}
IsAnswerOf q t (answers.OutOfLimits x) = Unit {0}

-- the derivations of infeasible rules, by their answers
pub empties_are : (q : Searches) (test : ℕ → Bool) (t : ℕ) (xs : List GuardFeasibility)
    → ((i : ℕ) (a : GuardFeasibility) → slice_get xs i ≡ Some a → (test (t + i) ≡ says_empty a) × IsAnswerOf q (t + i) a)
    → AreEmptyDerivations q (filter test (range_with_len t (length xs))) (empty_derivations t xs)
empties_are q test t [] h = refl
empties_are q test t (a ∷ xs) h =
    go a (subst (λ (n : ℕ). (test n ≡ says_empty a) × IsAnswerOf q n a) (let z : t + 0 ≡ t = omega arith in z) (h 0 a refl))
    (empties_are q test (t + 1) xs
    (λ i b e. subst (λ (n : ℕ). (test n ≡ says_empty b) × IsAnswerOf q n b) (let z : t + suc i ≡ t + 1 + i = omega arith in z) (h (suc i) b e)))
  where
    go : (b : GuardFeasibility) → (test t ≡ says_empty b) × IsAnswerOf q t b
        → AreEmptyDerivations q (filter test (range_with_len (t + 1) (length xs))) (empty_derivations (t + 1) xs)
        → AreEmptyDerivations q (filter test (range_with_len t (suc (length xs)))) (empty_derivations t (b ∷ xs))
    go (answers.Empty n) k ih = rw k.0 (n.multipliers.items, k.1, (empty_derivations (t + 1) xs, refl, ih))
    go (answers.Point z) k ih = rw k.0 ih
    go (answers.OutOfLimits x) k ih = rw k.0 ih

-- a status is at the number of its rule
rule_status_there : (fs : List RuleStatus) (i : ℕ) (f : RuleStatus) → slice_get fs i ≡ Some f → rule_status_at fs (suc i) ≡ f
rule_status_there [] i f e = absurd (none_some f e)
rule_status_there (g ∷ fs) zero f e = some_same g f e
rule_status_there (g ∷ fs) (suc i) f e = rule_status_there fs i f e

-- a feasible rule never runs exactly if it is unreached
not_empty : (f : RuleStatus) → is_empty_rule_status f ≡ false → is_dead_rule_status f ≡ is_unreached_rule_status f
not_empty Empty e = absurd (no_is_not_yes true e refl)
not_empty Unreached e = refl
not_empty Live e = refl

-- whether there is a place
positive : (n : ℕ) → nat_lt 0 n ≡ some_places n
positive zero = refl
positive (suc n) = grind arith

module _ (p : Program) (pivots : ℕ) (rule_statuses : List RuleStatus) (are : AreRuleStatuses (searches_of_program p pivots) p rule_statuses)
    (empties : List GuardFeasibility) (answered : AreEmptyAnswers p pivots empties) where
  abbrev ie : ℕ → Bool
  ie e = is_empty_rule_status (rule_status_at rule_statuses e)

  abbrev iu : ℕ → Bool
  iu e = is_unreached_rule_status (rule_status_at rule_statuses e)

  abbrev has : ℕ → Bool
  has t = has_places p (target_of p t)

  -- the tests agree with the status of each rule
  told : HaveStatuses ie iu 1 rule_statuses
  told i f e =
      let at_i : 1 + i ≡ suc i = omega arith in (
        ap (λ (n : ℕ). is_empty_rule_status (rule_status_at rule_statuses n)) at_i ∙ ap is_empty_rule_status (rule_status_there rule_statuses i f e),
        ap (λ (n : ℕ). is_unreached_rule_status (rule_status_at rule_statuses n)) at_i ∙ ap is_unreached_rule_status (rule_status_there rule_statuses i f e),
      )

  -- each rule has the places of its target
  places_of_target : (i : ℕ) (r : Rule) → slice_get p.rules i ≡ Some r
      → (has (1 + i) ≡ some_places (arity_of p r.target)) × (never_derivation p (1 + i) ≡ sized_derivation (1 + i) (arity_of p r.target))
  places_of_target i r e = subst
      (λ (n : ℕ). (has n ≡ some_places (arity_of p r.target)) × (never_derivation p n ≡ sized_derivation n (arity_of p r.target)))
      (let at_i : suc i ≡ 1 + i = omega arith in at_i) (
        ap (λ (o : Option Rule). has_places p (target_in o)) e ∙ positive (arity_of p r.target),
        ap (λ (o : Option Rule). record {
          keys = map (λ j. key (suc i) j) (places_at p (target_in o));
          node = NeverBy (suc i);
          premises = time_key (suc i) ∷ [];
          bound = Constant 0;
        }) e,
      )

  -- a rule is infeasible by its status exactly if its answer says so
  rule_status_of_answer : (i : ℕ) (a : GuardFeasibility) → slice_get empties i ≡ Some a → is_empty_rule_status (rule_status_at rule_statuses (suc i)) ≡ says_empty a
  rule_status_of_answer i a e =
      let rule = rule_there p i (omega (arith, slice_get-below empties i a e, answered.one_each)) in
      let answer = answered.each (suc i) rule.rule a rule.numbered e in
      bool_same (is_empty_rule_status (rule_status_at rule_statuses (suc i))) (says_empty a)
      (λ h. other rule.rule rule.numbered answer ((are.empty (suc i) rule).0 h))
      (λ h. (are.empty (suc i) rule).1 (shown p pivots (suc i) rule.rule a rule.numbered answer h))
    where
      other : (r : Rule) → slice_get p.rules i ≡ Some r → IsEmptyAnswer (prepared r) (suc i) pivots a
          → IsEmpty (searches_of_program p pivots) (suc i) → says_empty a ≡ true
      other r numbered answer m =
          let there = m.shown.2 in
          let same : m.shown.0 ≡ r = some_same m.shown.0 r (sym m.shown.1 ∙ numbered) in
          let found = subst (λ (x : Rule). IsEmptyAnswer (prepared x) (suc i) pivots there.0) same there.2 in
          let cause = (answers-exact.empty (prepared r) (suc i) pivots there.0 found).0 (shown_says there.0 m.multipliers there.1) in
          says a ((answers-exact.empty (prepared r) (suc i) pivots a answer).1 cause)

  -- each answer is that of the searches
  answer_of_searches : (i : ℕ) (a : GuardFeasibility) → slice_get empties i ≡ Some a
      → (ie (1 + i) ≡ says_empty a) × IsAnswerOf (searches_of_program p pivots) (1 + i) a
  answer_of_searches i a e = subst (λ (n : ℕ). (ie n ≡ says_empty a) × IsAnswerOf (searches_of_program p pivots) n a)
      (let at_i : suc i ≡ 1 + i = omega arith in at_i) (rule_status_of_answer i a e, is_answer a e)
    where
      is_answer : (b : GuardFeasibility) → slice_get empties i ≡ Some b → IsAnswerOf (searches_of_program p pivots) (suc i) b
      is_answer (answers.Empty n) k =
          let rule = rule_there p i (omega (arith, slice_get-below empties i (answers.Empty n) k, answered.one_each)) in
          (rule.rule, rule.numbered, (answers.Empty n, refl, answered.each (suc i) rule.rule (answers.Empty n) rule.numbered k))
      is_answer (answers.Point z) k = tt
      is_answer (answers.OutOfLimits x) k = tt

  -- the test of unreached rules decides whether a feasible rule is unreached
  unreached_decided : (t : ℕ) → IsRule p t → ie t ≡ false → (iu t ≡ true) ↔ IsUnreached p (λ e. not (ie e)) t
  unreached_decided t rule live = (
    λ h. by ((are.dead t rule).0 (not_empty (rule_status_at rule_statuses t) live ∙ h)),
    λ h. sym (not_empty (rule_status_at rule_statuses t) live) ∙ (are.dead t rule).1 (inr h),
  )
    where
      by : IsDead p ie t → IsUnreached p (λ e. not (ie e)) t
      by (inl e) = absurd (no_is_not_yes (ie t) live e)
      by (inr u) = u

  -- the derivations by statuses are those before the first round
  pub first_of_rule_statuses : (fs : List Derivation)
      → fs ≡ empty_derivations 1 empties ++ (unreached_derivations (empty_keys 1 rule_statuses) 1 rule_statuses ++ never_derivations p 1 rule_statuses p.rules)
      → AreFirst (searches_of_program p pivots) p fs
  first_of_rule_statuses fs is = record {
    is_empty = ie;
    empty = are.empty;
    is_unreached = iu;
    unreached = unreached_decided;
    empties = empty_derivations 1 empties;
    are_empties = subst (λ (n : ℕ). AreEmptyDerivations (searches_of_program p pivots) (filter ie (range_with_len 1 n)) (empty_derivations 1 empties))
        answered.one_each (empties_are (searches_of_program p pivots) ie 1 empties answer_of_searches);
    in_order = is ∙ ap (λ (gs : List Derivation). empty_derivations 1 empties ++ gs)
        (ap (λ (gs : List Derivation). gs ++ never_derivations p 1 rule_statuses p.rules) cut
        ∙ ap (λ (gs : List Derivation). map (unreached_derivation (map time_key (filter ie (rule_numbers p)))) (filter (is_cut ie iu) (rule_numbers p)) ++ gs)
        never);
  }
    where
      keys : empty_keys 1 rule_statuses ≡ map time_key (filter ie (rule_numbers p))
      keys = empty_keys_are ie iu 1 rule_statuses told ∙ ap (λ (n : ℕ). map time_key (filter ie (range_with_len 1 n))) are.one_each

      cut : unreached_derivations (empty_keys 1 rule_statuses) 1 rule_statuses
          ≡ map (unreached_derivation (map time_key (filter ie (rule_numbers p)))) (filter (is_cut ie iu) (rule_numbers p))
      cut =
          unreached_are ie iu (empty_keys 1 rule_statuses) 1 rule_statuses told
          ∙ (ap (λ (ks : List ResultVariable). map (unreached_derivation ks) (filter (is_cut ie iu) (range_with_len 1 (length rule_statuses)))) keys
          ∙ ap (λ (n : ℕ). map (unreached_derivation (map time_key (filter ie (rule_numbers p)))) (filter (is_cut ie iu) (range_with_len 1 n)))
          are.one_each)

      never : never_derivations p 1 rule_statuses p.rules ≡ map (never_derivation p) (filter has (filter (is_dead ie iu) (rule_numbers p)))
      never =
          never_are ie iu p has 1 rule_statuses p.rules are.one_each told places_of_target
          ∙ ap (λ (n : ℕ). map (never_derivation p) (filter has (filter (is_dead ie iu) (range_with_len 1 n)))) are.one_each
