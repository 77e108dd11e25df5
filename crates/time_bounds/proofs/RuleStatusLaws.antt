-- The statuses that the code finds are those of the program's rules.
use Rattle.std.proofs.Common.{◌≡◌, ◌↔◌, inl, inr, ℕ, zero, suc, ◌<◌, ◌==◌, ◌||◌, Bool, true, false, not, cond, eqb}
use Rattle.std.proofs.Common.{List, [], ◌∷◌, length, map, Option, Some, None, option_map, refl, sym, ◌∙◌, ap, subst}
use Rattle.std.proofs.Common.{arith}
use Rattle.std.specs.Prelude.{slice_get, slice_index_or}
use Rattle.std.specs.List.{list_any, range_with_len}
use Rattle.std.proofs.lemmas.Option.{slice_get-map}
use Rattle.std.proofs.lemmas.List.{length-map}
use Rattle.model.specs.Programs as plain
use Rattle.model.specs.Programs.{rule_at}
use Rattle.model.specs.Entries.{is_in}
use Rattle.model.specs.Paths.{HasEdge, IsReached}
use Rattle.model.proofs.Membership.{no_is_not_yes, slice_get-below, is_in-filter, filter-in}
use Rattle.its_model.specs.declared.program.Rule.{Rule}
use Rattle.its_model.specs.declared.program.Program.{Program}
use Rattle.its_model.specs.Views.{rule_of, program_of}
use Rattle.guard_prep.specs.Prepared.{prepared}
use Rattle.its_graph.specs.Graphs.{none_of}
use Rattle.its_graph.proofs.KeptLinks.{same-edges}
use Rattle.its_graph.proofs.Reaching.{same-paths}
use Rattle.cert_types.specs.cert_rules.AcceptsPlain.{IsRule}
use Rattle.cert_types.specs.declared.answer.GuardFeasibility.{GuardFeasibility}
use Rattle.cert_types.specs.declared.answer.GuardFeasibility.TheVariants as answers
use Rattle.rank_search.specs.rule_questions.EmptyAnswers.{IsEmptyAnswer, SaysEmpty}
use Rattle.rank_search.specs.rule_questions.RuleAnswers.{answer_for, AreEmptyAnswers}
use Rattle.rank_search.proofs.rule_questions.Exact.{answers-exact}
use Rattle.bound_fixpoint.specs.Searches.{NoPoint}
use Rattle.bound_fixpoint.specs.Components.{IsEmpty, IsDead}
use Rattle.time_bounds.specs.declared.rule_statuses.RuleStatus.TheVariants.{Empty, Unreached, Live}
use Rattle.time_bounds.specs.ProgramRules.{emptiness_of}
use Rattle.time_bounds.specs.ProgramSearches.{searches_of_program}
use Rattle.time_bounds.specs.RuleStatuses.{says_empty, is_said_empty, said_empty, rule_status_of, rule_statuses_by, rule_status_at, is_empty_rule_status}
use Rattle.time_bounds.specs.RuleStatuses.{is_dead_rule_status, AreRuleStatuses}
use Rattle.time_bounds.proofs.ShutBySymbol.{range_in}
pub use Rattle.model.proofs.Cases.{same_tests as bool_same}
use Rattle.model.proofs.Cases.{none_some}

any_is_in : (t : ℕ) (xs : List ℕ) → list_any (eqb t) xs ≡ is_in t xs
any_is_in t [] = refl
any_is_in t (x ∷ xs) = ap (λ (v : Bool). (t == x) || v) (any_is_in t xs)

-- an element of a mapped list is the image of an element
seen_of : {A B : Type 0} (f : A → B) (xs : List A) (i : ℕ) (b : B) → slice_get (map f xs) i ≡ Some b
    → (a : A) × (slice_get xs i ≡ Some a) × (f a ≡ b)
seen_of {A} {B} f xs i b h = go (slice_get xs i) refl (sym (slice_get-map f xs i) ∙ h)
  where
    go : (o : Option A) → slice_get xs i ≡ o → option_map f (slice_get xs i) ≡ Some b → (a : A) × (slice_get xs i ≡ Some a) × (f a ≡ b)
    go None k e = let x : None ≡ Some b = sym (ap (λ (o : Option A). option_map f o) k) ∙ e in absurd (none_some x)
      where
        none_some : None ≡ Some b → ⊥
        none_some x = cc
    go (Some a) k e = let x : Some (f a) ≡ Some b = sym (ap (λ (o : Option A). option_map f o) k) ∙ e in (a, k, some_same x)
      where
        some_same : Some (f a) ≡ Some b → f a ≡ b
        some_same x = cc

-- the facts about a rule when its status is decided
record AtRule (p : Program) (empties : List GuardFeasibility) (seen : List Bool) (t : ℕ) : Type 0 where
  pub rule : Rule
  pub numbered : rule_at (program_of p) t ≡ Some (rule_of rule)
  pub answer : GuardFeasibility
  pub answered : answer_for empties t ≡ Some answer
  pub rule_status : rule_status_at (rule_statuses_by seen empties p.rules.items) t ≡ rule_status_of answer (slice_index_or seen rule.source false)

record AtPlace (empties : List GuardFeasibility) (seen : List Bool) (rules : List Rule) (i : ℕ) : Type 0 where
  pub rule : Rule
  pub numbered : slice_get rules i ≡ Some rule
  pub answer : GuardFeasibility
  pub answered : slice_get empties i ≡ Some answer
  pub rule_status : rule_status_at (rule_statuses_by seen empties rules) (suc i) ≡ rule_status_of answer (slice_index_or seen rule.source false)

at_place : (seen : List Bool) (empties : List GuardFeasibility) (rules : List Rule) (i : ℕ) → length empties ≡ length rules → i < length rules
    → AtPlace empties seen rules i
at_place seen empties [] i e l = absurd (omega (arith, l))
at_place seen [] (r ∷ rules) i e l = absurd (omega (arith, e))
at_place seen (a ∷ empties) (r ∷ rules) zero e l = record { rule = r; numbered = refl; answer = a; answered = refl; rule_status = refl }
at_place seen (a ∷ empties) (r ∷ rules) (suc i) e l =
    let h = at_place seen empties rules i (let z : length empties ≡ length rules = omega (arith, e) in z) (omega (arith, l)) in record {
      rule = h.rule;
      numbered = h.numbered;
      answer = h.answer;
      answered = h.answered;
      rule_status = h.rule_status;
    }

at_rule : (p : Program) (empties : List GuardFeasibility) (seen : List Bool) (t : ℕ) → length empties ≡ length p.rules.items → IsRule (program_of p) t
    → AtRule p empties seen t
at_rule p empties seen zero e r = absurd (none_some r.rule r.numbered)
at_rule p empties seen (suc i) e r =
    let low : i < length p.rules.items = omega (arith, slice_get-below (map rule_of p.rules.items) i r.rule r.numbered, length-map p.rules.items rule_of) in
    let h = at_place seen empties p.rules.items i e low in record {
      rule = h.rule;
      numbered = slice_get-map rule_of p.rules.items i ∙ ap (λ (o : Option Rule). option_map rule_of o) h.numbered;
      answer = h.answer;
      answered = h.answered;
      rule_status = h.rule_status;
    }

empty_decided : (v b : Bool) → is_empty_rule_status (cond v Empty (cond b Live Unreached)) ≡ v
empty_decided true b = refl
empty_decided false true = refl
empty_decided false false = refl

dead_decided : (v b : Bool) → is_dead_rule_status (cond v Empty (cond b Live Unreached)) ≡ (v || not b)
dead_decided true b = refl
dead_decided false true = refl
dead_decided false false = refl

-- an answer that says that rows have no point passes the test
pub says : (a : GuardFeasibility) → SaysEmpty a → says_empty a ≡ true
says (answers.Empty n) h = refl
says (answers.Point z) h = absurd h
says (answers.OutOfLimits t) h = absurd h

unsaid : (a : GuardFeasibility) → says_empty a ≡ true → SaysEmpty a
unsaid (answers.Empty n) h = tt
unsaid (answers.Point z) h = absurd (no_is_not_yes false refl h)
unsaid (answers.OutOfLimits t) h = absurd (no_is_not_yes false refl h)

-- an answer with multipliers that leave no point passes the test for infeasibility
pub shown_says : (a : GuardFeasibility) (m : List ℕ) → emptiness_of a ≡ NoPoint m → SaysEmpty a
shown_says (answers.Empty n) m e = tt
shown_says (answers.Point z) m e = absurd (let f : ⊥ = cc in f)
shown_says (answers.OutOfLimits t) m e = absurd (let f : ⊥ = cc in f)

-- a rule with an answer that its rows have no point is infeasible
pub shown : (p : plain.Program) (pivots t : ℕ) (r : plain.Rule) (a : GuardFeasibility) → rule_at p t ≡ Some r → IsEmptyAnswer (prepared r) t pivots a
    → says_empty a ≡ true → IsEmpty (searches_of_program p pivots) t
shown p pivots t r (answers.Empty n) numbered h e = record { multipliers = n.multipliers.items; shown = (r, numbered, (answers.Empty n, refl, h)) }
shown p pivots t r (answers.Point z) numbered h e = absurd (no_is_not_yes false refl e)
shown p pivots t r (answers.OutOfLimits x) numbered h e = absurd (no_is_not_yes false refl e)

module _ (p : Program) (pivots : ℕ) (empties : List GuardFeasibility) (seen : List Bool)
    (right : AreEmptyAnswers (program_of p) pivots empties) (long : length empties ≡ length p.rules.items) where
  rule_status_empty : (t : ℕ) (h : AtRule p empties seen t) → is_empty_rule_status (rule_status_at (rule_statuses_by seen empties p.rules.items) t) ≡ says_empty h.answer
  rule_status_empty t h = ap is_empty_rule_status h.rule_status ∙ empty_decided (says_empty h.answer) (slice_index_or seen h.rule.source false)

  rule_status_dead : (t : ℕ) (h : AtRule p empties seen t)
      → is_dead_rule_status (rule_status_at (rule_statuses_by seen empties p.rules.items) t) ≡ (says_empty h.answer || not (slice_index_or seen h.rule.source false))
  rule_status_dead t h = ap is_dead_rule_status h.rule_status ∙ dead_decided (says_empty h.answer) (slice_index_or seen h.rule.source false)

  empty : (t : ℕ) → IsRule (program_of p) t
      → (is_empty_rule_status (rule_status_at (rule_statuses_by seen empties p.rules.items) t) ≡ true) ↔ IsEmpty (searches_of_program (program_of p) pivots) t
  empty t rule = (to, from)
    where
      to : is_empty_rule_status (rule_status_at (rule_statuses_by seen empties p.rules.items) t) ≡ true → IsEmpty (searches_of_program (program_of p) pivots) t
      to e =
          let h = at_rule p empties seen t long rule in
          shown (program_of p) pivots t (rule_of h.rule) h.answer h.numbered (right.each t (rule_of h.rule) h.answer h.numbered h.answered) (sym (rule_status_empty t h) ∙ e)

      from : IsEmpty (searches_of_program (program_of p) pivots) t → is_empty_rule_status (rule_status_at (rule_statuses_by seen empties p.rules.items) t) ≡ true
      from m =
          let h = at_rule p empties seen t long rule in
          let other = m.shown.2 in
          let same : m.shown.0 ≡ rule_of h.rule = some_same m.shown.0 (rule_of h.rule) (sym m.shown.1 ∙ h.numbered) in
          let answer = subst (λ (r : plain.Rule). IsEmptyAnswer (prepared r) t pivots other.0) same other.2 in
          let cause = (answers-exact.empty (prepared (rule_of h.rule)) t pivots other.0 answer).0 (shown_says other.0 m.multipliers other.1) in
          rule_status_empty t h
          ∙ says h.answer ((answers-exact.empty (prepared (rule_of h.rule)) t pivots h.answer (right.each t (rule_of h.rule) h.answer h.numbered h.answered)).1 cause)
        where
          some_same : (a b : plain.Rule) → Some a ≡ Some b → a ≡ b
          some_same a b e = cc

  -- a rule isn't listed as infeasible exactly if its status isn't that
  cut_agrees : (e : ℕ) (r : plain.Rule) → rule_at (program_of p) e ≡ Some r
      → none_of (said_empty empties) e ≡ not (is_empty_rule_status (rule_status_at (rule_statuses_by seen empties p.rules.items) e))
  cut_agrees e r numbered =
      let h = at_rule p empties seen e long (record { rule = r; numbered = numbered }) in
      let test : is_said_empty (answer_for empties e) ≡ says_empty h.answer = ap is_said_empty h.answered in
      ap not (any_is_in e (said_empty empties)
      ∙ (bool_same (is_in e (said_empty empties)) (is_said_empty (answer_for empties e))
      (λ g. (filter-in (λ t. is_said_empty (answer_for empties t)) (range_with_len 1 (length empties)) e g).1)
      (λ g. is_in-filter (λ t. is_said_empty (answer_for empties t)) (range_with_len 1 (length empties)) e (numbered_in e r numbered) g)
      ∙ (test ∙ sym (rule_status_empty e h))))
    where
      numbered_in : (e : ℕ) (r : plain.Rule) → rule_at (program_of p) e ≡ Some r → is_in e (range_with_len 1 (length empties)) ≡ true
      numbered_in zero r k = absurd (none_some r k)
      numbered_in (suc i) r k =
          range_in 1 (length empties) (suc i) (omega arith)
          (omega (arith, slice_get-below (map rule_of p.rules.items) i r k, length-map p.rules.items rule_of, long))

  module _ (reached : (b : ℕ) → (slice_index_or seen b false ≡ true) ↔ IsReached (program_of p) (none_of (said_empty empties)) b) where
    seen_reached : (b : ℕ)
        → (slice_index_or seen b false ≡ true) ↔ IsReached (program_of p) (λ e. not (is_empty_rule_status (rule_status_at (rule_statuses_by seen empties p.rules.items) e))) b
    seen_reached b =
        let f = none_of (said_empty empties) in
        let g : ℕ → Bool = λ e. not (is_empty_rule_status (rule_status_at (rule_statuses_by seen empties p.rules.items) e)) in
        let paths = same-paths (HasEdge (program_of p) f) (HasEdge (program_of p) g) (same-edges (program_of p) f g cut_agrees) p.start b in
        (λ h. paths.0 ((reached b).0 h), λ h. (reached b).1 (paths.1 h))

    dead : (t : ℕ) → IsRule (program_of p) t
        → (is_dead_rule_status (rule_status_at (rule_statuses_by seen empties p.rules.items) t) ≡ true)
        ↔ IsDead (program_of p) (λ e. is_empty_rule_status (rule_status_at (rule_statuses_by seen empties p.rules.items) e)) t
    dead t rule = (to, from)
      where
        go : (h : AtRule p empties seen t) (v b : Bool) → says_empty h.answer ≡ v → slice_index_or seen h.rule.source false ≡ b → (v || not b) ≡ true
            → IsDead (program_of p) (λ e. is_empty_rule_status (rule_status_at (rule_statuses_by seen empties p.rules.items) e)) t
        go h true b sv sb e = inl (rule_status_empty t h ∙ sv)
        go h false true sv sb e = absurd (no_is_not_yes false refl e)
        go h false false sv sb e =
            inr (λ r numbered path.
            no_is_not_yes (slice_index_or seen h.rule.source false) sb
            ((seen_reached h.rule.source).1
            (subst (λ (r : plain.Rule). IsReached (program_of p) (λ e. not (is_empty_rule_status (rule_status_at (rule_statuses_by seen empties p.rules.items) e))) r.source)
            (some_same r (rule_of h.rule) (sym numbered ∙ h.numbered)) path)))
          where
            some_same : (a b : plain.Rule) → Some a ≡ Some b → a ≡ b
            some_same a b e = cc

        to : is_dead_rule_status (rule_status_at (rule_statuses_by seen empties p.rules.items) t) ≡ true
            → IsDead (program_of p) (λ e. is_empty_rule_status (rule_status_at (rule_statuses_by seen empties p.rules.items) e)) t
        to e =
            let h = at_rule p empties seen t long rule in
            go h (says_empty h.answer) (slice_index_or seen h.rule.source false) refl refl (sym (rule_status_dead t h) ∙ e)

        back : (h : AtRule p empties seen t) (v b : Bool) → says_empty h.answer ≡ v → slice_index_or seen h.rule.source false ≡ b
            → IsDead (program_of p) (λ e. is_empty_rule_status (rule_status_at (rule_statuses_by seen empties p.rules.items) e)) t → (v || not b) ≡ true
        back h true b sv sb d = refl
        back h false false sv sb d = refl
        back h false true sv sb (inl e) = absurd (no_is_not_yes (says_empty h.answer) sv (sym (rule_status_empty t h) ∙ e))
        back h false true sv sb (inr u) = absurd (u (rule_of h.rule) h.numbered ((seen_reached h.rule.source).0 sb))

        from : IsDead (program_of p) (λ e. is_empty_rule_status (rule_status_at (rule_statuses_by seen empties p.rules.items) e)) t
            → is_dead_rule_status (rule_status_at (rule_statuses_by seen empties p.rules.items) t) ≡ true
        from d =
            let h = at_rule p empties seen t long rule in
            rule_status_dead t h ∙ back h (says_empty h.answer) (slice_index_or seen h.rule.source false) refl refl d

    pub are_rule_statuses : AreRuleStatuses (searches_of_program (program_of p) pivots) (program_of p) (rule_statuses_by seen empties p.rules.items)
    are_rule_statuses = record { one_each = one_each empties p.rules.items long; empty = empty; dead = dead }
      where
        one_each : (empties : List GuardFeasibility) (rules : List Rule) → length empties ≡ length rules
            → length (rule_statuses_by seen empties rules) ≡ length (map rule_of rules)
        one_each [] [] e = refl
        one_each [] (r ∷ rules) e = absurd (omega (arith, e))
        one_each (a ∷ empties) [] e = absurd (omega (arith, e))
        one_each (a ∷ empties) (r ∷ rules) e =
            ap (λ (n : ℕ). suc n) (one_each empties rules (let z : length empties ≡ length rules = omega (arith, e) in z))
