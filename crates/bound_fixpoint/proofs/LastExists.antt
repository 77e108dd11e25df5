-- There are derivations before the first round, a round over every list of derivations, and a last list.
use Rattle.std.proofs.Common.{◌≡◌, ◌↔◌, ℕ, zero, suc, ◌≤◌, ◌==◌, Bool, not, true, false, List, []}
use Rattle.std.proofs.Common.{◌∷◌, ◌++◌, filter, map, Option, Some, None, refl, sym, ◌∙◌, ap, subst, arith}
use Rattle.std.proofs.lemmas.Bool.{or_left, or_right}
use Rattle.rule_questions.specs.model.Bounds.{Bound, Constant}
use Rattle.rule_questions.specs.model.Entries.{is_in}
use Rattle.rule_questions.specs.model.Paths.{source_of, source_in}
use Rattle.rule_questions.proofs.model.Membership.{no_is_not_yes, same_number, filter-in}
use Rattle.rule_questions.specs.bound_expr.Measure.{is_large}
use Rattle.rule_questions.specs.cert_rules.Nodes.{ResultVariable}
use Rattle.rule_questions.specs.cert_rules.Limits.{IsSmallComposed}
use Rattle.rule_questions.specs.cert_rules.Checks.{large_nodes}
use Rattle.rule_questions.specs.cert_rules.Setting.{Setting}
use Rattle.rule_questions.specs.cert_rules.AcceptsPlain.{IsRule, IsUnreached}
use Rattle.rule_questions.specs.cert_rules.AcceptsRank.{rank_time}
use Rattle.bound_fixpoint.specs.Keys.{Bounds, over, rule_numbers}
use Rattle.bound_fixpoint.specs.Derivations.{Node, RankBy, Derivation, bounds_of}
use Rattle.bound_fixpoint.specs.Needs.{needs_of}
use Rattle.bound_fixpoint.specs.Justification.{composed_bound}
use Rattle.bound_fixpoint.specs.Searches.{Answers, searches_of, Emptiness, NoPoint, HasPoint, EmptyHitLimit, Ranking}
use Rattle.bound_fixpoint.specs.Searches.{Ranked, Unranked, RankHitLimit, SizeOutcome, SizedBy, Unsized, OfTime, OfSize}
use Rattle.outcome.specs.Reports.{NoFunction, TimeHitLimit, TimeLarge}
use Rattle.bound_fixpoint.specs.Answers.{Target, TimeOf, SizesOf, is_open, Answer, Found, Lacks, derivations_by, Composes}
use Rattle.bound_fixpoint.specs.Answers.{AnswersRanking, AnswersSizing, AnswersTime, AnswersTarget}
use Rattle.bound_fixpoint.specs.Components.{IsEmpty, AreComponentsOf}
use Rattle.bound_fixpoint.specs.Beginning.{empty_derivation, AreEmptyDerivations, first_derivations, AreFirst}
use Rattle.bound_fixpoint.specs.Rounds.{Tries, Together, InTurn, TriesAll, IsRound, IsMade, Begun}
use Rattle.bound_fixpoint.specs.Rounds.{Made, IsLast}
use Rattle.bound_fixpoint.specs.Laws.{missing, LastDerivationsExist}
use Rattle.bound_fixpoint.proofs.Cases.{either, false_true, by_cases}
use Rattle.bound_fixpoint.proofs.RuleNumbers.{in_rules}
use Rattle.bound_fixpoint.proofs.RoundsEnd.{ends}
use Rattle.bound_fixpoint.proofs.PathTests.{paths_decided}
use Rattle.bound_fixpoint.proofs.SetsExist.{set_there, shut_there}

-- a composed bound is found, or is too large
composes : (s : Setting) (bs : Bounds) (node : Node) (whole : Bound) → (a : Answer) × Composes s bs node whole a
composes s bs node whole = by_cases (is_large whole) (λ e. none (λ h. no_is_not_yes (is_large whole) h.before e)) after
  where
    none : ¬ (IsSmallComposed s.rewrite whole) → (a : Answer) × Composes s bs node whole a
    none large = (Lacks (OfTime (TimeLarge (large_nodes s.rewrite whole))), (large, refl))

    after : is_large whole ≡ false → (a : Answer) × Composes s bs node whole a
    after e =
        by_cases (is_large (s.rewrite whole)) (λ k. none (λ h. no_is_not_yes (is_large (s.rewrite whole)) h.after k))
        (λ k. (
          Found node (needs_of s bs node) (s.rewrite whole),
          (record { before = e; after = k }, refl, refl, refl),
        ))

-- an answer to a rank question gives a result
ranking_has_answer : (s : Setting) (bs : Bounds) (answer : Ranking) → (a : Answer) × AnswersRanking s bs answer a
ranking_has_answer s bs (Ranked node) = composes s bs (RankBy node) (rank_time s node (over bs))
ranking_has_answer s bs (Unranked g) = (Lacks (OfTime (NoFunction g)), refl)
ranking_has_answer s bs (RankHitLimit t) = (Lacks (OfTime (TimeHitLimit t)), refl)

-- there is an answer to each outcome for a component
sizing_has_answer : (s : Setting) (bs : Bounds) (answer : SizeOutcome) → (a : Answer) × AnswersSizing s bs answer a
sizing_has_answer s bs (SizedBy node) = (Found node (needs_of s bs node) (composed_bound s bs node), refl)
sizing_has_answer s bs (Unsized why) = (Lacks (OfSize why), refl)

-- whether multipliers show a rule empty
abbrev says_empty : Emptiness → Bool
says_empty (NoPoint m) = true
says_empty (HasPoint z) = false
says_empty (EmptyHitLimit x) = false

module _ (a : Answers) (s : Setting) where
  -- there is a result on the time of a rule
  time_answer : (fs : List Derivation) (t : ℕ) → IsRule s.program t
      → (x : Answer) × AnswersTime (searches_of a) s (bounds_of s.program fs) t x
  time_answer fs t rule =
      let set = set_there s.program (bounds_of s.program fs) (Constant 1, refl) t rule in
      let shut = shut_there s.program (bounds_of s.program fs) set.0 in
      let by_cases = ranking_has_answer s (bounds_of s.program fs) (a.rank set.0 t shut.0) in (
        by_cases.0,
        record {
          asked = record {
            set = set.0;
            shut = shut.0;
            answer = a.rank set.0 t shut.0;
            is_set = set.1;
            are_shut = shut.1;
            answered = refl;
          };
          is_answer = by_cases.1;
        },
      )

  -- there is an answer to the query for the size of a component
  size_answer : (fs : List Derivation) (keys : List ResultVariable)
      → (x : Answer) × AnswersTarget (searches_of a) s (bounds_of s.program fs) (SizesOf keys) x
  size_answer fs keys =
      let by_cases = sizing_has_answer s (bounds_of s.program fs) (a.size (bounds_of s.program fs) keys) in
      (by_cases.0, record { answer = a.size (bounds_of s.program fs) keys; answered = refl; is_answer = by_cases.1 })

  -- an answer gives derivations
  tries_there : (fs : List Derivation) (g : Target) → ((x : Answer) × AnswersTarget (searches_of a) s (bounds_of s.program fs) g x)
      → (more : List Derivation) × Tries (searches_of a) s fs g more
  tries_there fs g is_answer = by_cases (is_open (bounds_of s.program fs) g) lacking known
    where
      lacking : is_open (bounds_of s.program fs) g ≡ true → (more : List Derivation) × Tries (searches_of a) s fs g more
      lacking e = (
        derivations_by g is_answer.0,
        record { known = λ k. absurd (false_true (sym k ∙ e)); tried = λ k. (is_answer.0, is_answer.1, refl) },
      )

      known : is_open (bounds_of s.program fs) g ≡ false → (more : List Derivation) × Tries (searches_of a) s fs g more
      known e = ([], record { known = λ k. refl; tried = λ k. absurd (false_true (sym e ∙ k)) })

  -- the times of rules are tried
  times_there : (fs : List Derivation) (ts : List ℕ) → ((t : ℕ) → is_in t ts ≡ true → IsRule s.program t)
      → (more : List Derivation) × TriesAll (searches_of a) s Together fs (map TimeOf ts) more
  times_there fs [] rules = ([], refl)
  times_there fs (t ∷ ts) rules =
      let first = tries_there fs (TimeOf t)
      (time_answer fs t (rules t (or_left (t == t) (is_in t ts) (same_number t)))) in
      let rest = times_there fs ts (λ u m. rules u (or_right (u == t) (is_in u ts) m)) in
      (first.0 ++ rest.0, (first.0, first.1, (rest.0, refl, rest.1)))

  -- there are derivations for the sizes of components
  sizes_there : (fs : List Derivation) (cs : List (List ResultVariable))
      → (more : List Derivation) × TriesAll (searches_of a) s InTurn fs (map SizesOf cs) more
  sizes_there fs [] = ([], refl)
  sizes_there fs (c ∷ cs) =
      let first = tries_there fs (SizesOf c) (size_answer fs c) in
      let rest = sizes_there (fs ++ first.0) cs in
      (first.0 ++ rest.0, (first.0, first.1, (rest.0, refl, rest.1)))

  -- there is a round over every list of derivations
  pub round_there : AreComponentsOf (searches_of a) s.program a.components → (fs : List Derivation)
      → (more : List Derivation) × IsRound (searches_of a) s fs more
  round_there components fs =
      let times = times_there fs (rule_numbers s.program) (λ t m. in_rules s.program t m) in
      let sizes = sizes_there (fs ++ times.0) a.components in (
        times.0 ++ sizes.0,
        record {
          times = times.0;
          timed = times.1;
          components = a.components;
          are_components = refl;
          live = components;
          sizes = sizes.0;
          sized = sizes.1;
          all = refl;
        },
      )

  empty_worked : (t : ℕ) → (says_empty (a.empty t) ≡ true) ↔ IsEmpty (searches_of a) t
  empty_worked t = (go (a.empty t) refl, λ h. rw (h.shown) refl)
    where
      go : (e : Emptiness) → a.empty t ≡ e → says_empty e ≡ true → IsEmpty (searches_of a) t
      go (NoPoint m) e h = record { multipliers = m; shown = e }
      go (HasPoint z) e h = absurd (false_true h)
      go (EmptyHitLimit x) e h = absurd (false_true h)

  -- whether no path of rules that aren't empty leads to the source of a rule
  abbrev is_reached : Option ℕ → Bool
  is_reached None = true
  is_reached (Some x) = (paths_decided s.program (λ e. not (says_empty (a.empty e))) s.program.start).0 x

  abbrev is_cut_off : ℕ → Bool
  is_cut_off t = not (is_reached (source_of s.program t))

  cut_off_decided : (t : ℕ) → IsRule s.program t
      → (is_cut_off t ≡ true) ↔ IsUnreached s.program (λ e. not (says_empty (a.empty e))) t
  cut_off_decided t rule = (λ h. out h, λ u. cut u)
    where
      source : source_of s.program t ≡ Some rule.rule.source
      source = ap source_in rule.numbered

      out : is_cut_off t ≡ true → IsUnreached s.program (λ e. not (says_empty (a.empty e))) t
      out h r numbered way =
          let there : is_reached (Some r.source) ≡ true =
          ((paths_decided s.program (λ e. not (says_empty (a.empty e))) s.program.start).1 r.source).1 way in
          let here : is_reached (source_of s.program t) ≡ true =
          subst (λ (o : Option ℕ). is_reached o ≡ true) (sym (ap source_in numbered)) there in
          no_is_not_yes (is_cut_off t) (ap not here) h

      cut : IsUnreached s.program (λ e. not (says_empty (a.empty e))) t → is_cut_off t ≡ true
      cut u = by_cases (is_reached (source_of s.program t)) reached (λ e. ap not e)
        where
          reached : is_reached (source_of s.program t) ≡ true → is_cut_off t ≡ true
          reached e =
              let there : is_reached (Some rule.rule.source) ≡ true =
              subst (λ (o : Option ℕ). is_reached o ≡ true) source e in
              absurd (u rule.rule rule.numbered
              (((paths_decided s.program (λ e. not (says_empty (a.empty e))) s.program.start).1 rule.rule.source).0 there))

  -- each infeasible rule has a derivation
  empties_there : (ts : List ℕ) → ((t : ℕ) → is_in t ts ≡ true → says_empty (a.empty t) ≡ true)
      → (fs : List Derivation) × AreEmptyDerivations (searches_of a) ts fs
  empties_there [] empty = ([], refl)
  empties_there (t ∷ ts) empty =
      let is = (empty_worked t).0 (empty t (or_left (t == t) (is_in t ts) (same_number t))) in
      let rest = empties_there ts (λ u m. empty u (or_right (u == t) (is_in u ts) m)) in
      (empty_derivation t is.multipliers ∷ rest.0, (is.multipliers, is.shown, (rest.0, refl, rest.1)))

  abbrev empty_rules : List ℕ
  empty_rules = filter (λ t. says_empty (a.empty t)) (rule_numbers s.program)

  all_empty : (t : ℕ) → is_in t empty_rules ≡ true → says_empty (a.empty t) ≡ true
  all_empty t m = (filter-in (λ u. says_empty (a.empty u)) (rule_numbers s.program) t m).1

  -- there are derivations before the first round
  pub first_there : (fs : List Derivation) × AreFirst (searches_of a) s.program fs
  first_there =
      let empties = empties_there empty_rules all_empty in (
        first_derivations s.program (λ t. says_empty (a.empty t)) is_cut_off empties.0,
        record {
          is_empty = λ t. says_empty (a.empty t);
          empty = λ t rule. empty_worked t;
          is_unreached = is_cut_off;
          unreached = λ t rule e. cut_off_decided t rule;
          empties = empties.0;
          are_empties = empties.1;
          in_order = refl;
        },
      )

  module _ (components : AreComponentsOf (searches_of a) s.program a.components) where
    -- rounds go on to the last one, as each other one derives a bound that was missing
    go_on : (fuel : ℕ) (fs : List Derivation) → IsMade (searches_of a) s fs
        → missing s.program (bounds_of s.program fs) ≤ fuel → (last : List Derivation) × IsLast (searches_of a) s last
    go_on zero fs made few =
        let next = round_there components fs in
        either (ends.each a s fs next.0 next.1) (λ less. absurd (omega (arith, less, few)))
        (λ e. (
          fs,
          record {
            made = made;
            closed = subst (λ (more : List Derivation). IsRound (searches_of a) s fs more) e next.1;
          },
        ))
    go_on (suc fuel) fs made few =
        let next = round_there components fs in
        either (ends.each a s fs next.0 next.1)
        (λ less. go_on fuel (fs ++ next.0) (Made made next.1) (omega (arith, less, few)))
        (λ e. (
          fs,
          record {
            made = made;
            closed = subst (λ (more : List Derivation). IsRound (searches_of a) s fs more) e next.1;
          },
        ))

    pub last_there : (fs : List Derivation) × IsLast (searches_of a) s fs
    last_there =
        let first = first_there in
        go_on (missing s.program (bounds_of s.program first.0)) first.0 (Begun first.1) (omega arith)

-- there are initial derivations, a round over every list of derivations, and a last list
pub last_derivations : LastDerivationsExist
last_derivations = record {
  first = λ a s. first_there a s;
  next = λ a s components fs. round_there a s components fs;
  last = λ a s components. last_there a s components;
}
