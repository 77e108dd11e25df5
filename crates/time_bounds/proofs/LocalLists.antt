-- Lists of answers for the places of live rules are the answers of the searches.
use Rattle.std.proofs.Common.{◌≡◌, ℕ, zero, suc, ◌+◌, ◌<◌, Bool, true, false, not, List, [], ◌∷◌, ◌++◌, length, map}
use Rattle.std.proofs.Common.{Some, refl, sym, ◌∙◌, ap, subst, arith}
use Rattle.std.specs.Prelude.{slice_get, slice_index_or}
use Rattle.std.proofs.lemmas.List.{length-map}
use Rattle.model.specs.Programs.{Program, Rule, rule_at, arity_of}
use Rattle.model.specs.Paths.{target_in}
use Rattle.model.proofs.Membership.{no_is_not_yes, slice_get-below as below_get}
use Rattle.guard_prep.specs.Prepared.{Prepared, prepared}
use Rattle.cert_types.specs.cert_rules.AcceptsPlain.{IsRule}
use Rattle.cert_types.specs.declared.answer.GuardFeasibility.{GuardFeasibility}
use Rattle.cert_types.specs.declared.answer.GuardFeasibility.TheVariants as empty
use Rattle.rank_search.specs.rule_questions.EmptyAnswers.{IsEmptyAnswer, SaysEmpty}
use Rattle.rank_search.specs.rule_questions.RuleAnswers.{AreEmptyAnswers}
use Rattle.local_size.specs.LocalAnswers.{IsLocal, local_answer_of}
use Rattle.local_size.specs.declared.answer.LocalAnswer.{LocalAnswer}
use Rattle.bound_fixpoint.specs.Keys.{IsPlace}
use Rattle.bound_fixpoint.specs.Components.{IsDead}
use Rattle.rvg_components.specs.Listing.{answers_for, local_in, local_from, is_flagged, AreLocalsFor}
use Rattle.time_bounds.specs.declared.rule_statuses.RuleStatus.{RuleStatus}
use Rattle.time_bounds.specs.declared.rule_statuses.RuleStatus.TheVariants.{Empty, Unreached, Live}
use Rattle.time_bounds.specs.ProgramSearches.{searches_of_program}
use Rattle.bound_fixpoint.specs.Keys.{key as result_variable}
use Rattle.time_bounds.specs.ProgramSizes.{AreLive, IsLocalOf, AreLocals}
use Rattle.time_bounds.specs.RuleStatuses.{AreRuleStatuses, rule_status_at, is_empty_rule_status, is_dead_rule_status}
use Rattle.time_bounds.specs.Locals.{is_live_rule_status, AreAnswersAt, AreAnswersAfter, AreAllAnswers, answer_in}
use Rattle.time_bounds.proofs.PlaceAnswers.{answer_at}
use Rattle.time_bounds.proofs.RuleNumbers.{rule_below, rule_there}
use Rattle.model.proofs.Cases.{slice_get-there as get_below, none_some, some_same}

-- one answer more of a rule
pub answer_more : (m : Prepared) (t pivots : ℕ) (e : GuardFeasibility) (i : ℕ) (answers : List LocalAnswer) (a : LocalAnswer) → AreAnswersAt m t pivots e i answers
    → IsLocal m (result_variable t (i + length answers)) pivots e (local_answer_of a) → AreAnswersAt m t pivots e i (answers ++ a ∷ [])
answer_more m t pivots e i [] a h x =
    (subst (λ (n : ℕ). IsLocal m (result_variable t n) pivots e (local_answer_of a)) (let z : i + 0 ≡ i = omega arith in z) x, tt)
answer_more m t pivots e i (b ∷ answers) a h x = (
  h.0,
  answer_more m t pivots e (suc i) answers a h.1
      (subst (λ (n : ℕ). IsLocal m (result_variable t n) pivots e (local_answer_of a)) (let z : i + suc (length answers) ≡ suc i + length answers = omega arith in z) x),
)

answer_of_place : (m : Prepared) (t pivots : ℕ) (e : GuardFeasibility) (k : ℕ) (answers : List LocalAnswer) (j : ℕ) (a : LocalAnswer)
    → AreAnswersAt m t pivots e k answers → slice_get answers j ≡ Some a → IsLocal m (result_variable t (k + j)) pivots e (local_answer_of a)
answer_of_place m t pivots e k [] j a h g = absurd (none_some a g)
answer_of_place m t pivots e k (b ∷ answers) zero a h g =
    subst (λ (n : ℕ). IsLocal m (result_variable t n) pivots e (local_answer_of a)) (let z : k ≡ k + 0 = omega arith in z)
    (subst (λ (x : LocalAnswer). IsLocal m (result_variable t k) pivots e (local_answer_of x)) (some_same b a g) h.0)
answer_of_place m t pivots e k (b ∷ answers) (suc j) a h g =
    subst (λ (n : ℕ). IsLocal m (result_variable t n) pivots e (local_answer_of a)) (let z : suc k + j ≡ k + suc j = omega arith in z)
    (answer_of_place m t pivots e (suc k) answers j a h.1 g)

-- the answers of a live rule, by those for its rows
pub answers_after : (p : Program) (pivots i : ℕ) (r : Rule) (f : RuleStatus) (e : GuardFeasibility) (answers : List LocalAnswer) → rule_at p (suc i) ≡ Some r
    → IsEmptyAnswer (prepared r) (suc i) pivots e → length answers ≡ arity_of p r.target → AreAnswersAt (prepared r) (suc i) pivots e 1 answers
    → AreAnswersAfter p pivots (suc i) f answers
answers_after p pivots i r f e answers numbered is long h = record {
  long = λ x n live. long ∙ ap (λ (y : Rule). arity_of p y.target) (some_same r x (sym numbered ∙ n));
  each = λ j a live g. record {
    rule = r;
    numbered = numbered;
    place = record {
      symbol = r.target;
      target = ap target_in numbered;
      least = omega arith;
      last = let l = below_get answers j a g in omega (arith, l, long);
    };
    local = answer_at p pivots r (suc i) numbered (suc j) e (local_answer_of a) is
        (subst (λ (n : ℕ). IsLocal (prepared r) (result_variable (suc i) n) pivots e (local_answer_of a)) (let z : 1 + j ≡ suc j = omega arith in z)
        (answer_of_place (prepared r) (suc i) pivots e 1 answers j a h g));
  };
}

-- a rule that isn't live is not queried
pub none_after : (p : Program) (pivots t : ℕ) (f : RuleStatus) → is_live_rule_status f ≡ false → AreAnswersAfter p pivots t f []
none_after p pivots t f h = record {
  long = λ r n live. absurd (no_is_not_yes (is_live_rule_status f) h (ap is_live_rule_status live));
  each = λ i a live g. absurd (none_some a g);
}

-- the answers with those of one rule more
pub all_more : (p : Program) (pivots k : ℕ) (rule_statuses : List RuleStatus) (lists : List (List LocalAnswer)) (f : RuleStatus) (answers : List LocalAnswer)
    → AreAllAnswers p pivots k rule_statuses lists → AreAnswersAfter p pivots (k + length rule_statuses) f answers
    → AreAllAnswers p pivots k (rule_statuses ++ f ∷ []) (lists ++ answers ∷ [])
all_more p pivots k [] [] f answers h x = (subst (λ (n : ℕ). AreAnswersAfter p pivots n f answers) (let z : k + 0 ≡ k = omega arith in z) x, tt)
all_more p pivots k [] (l ∷ lists) f answers h x = absurd h
all_more p pivots k (g ∷ rule_statuses) [] f answers h x = absurd h
all_more p pivots k (g ∷ rule_statuses) (l ∷ lists) f answers h x = (
  h.0,
  all_more p pivots (suc k) rule_statuses lists f answers h.1
      (subst (λ (n : ℕ). AreAnswersAfter p pivots n f answers) (let z : k + suc (length rule_statuses) ≡ suc k + length rule_statuses = omega arith in z) x),
)

all_long : (p : Program) (pivots k : ℕ) (rule_statuses : List RuleStatus) (lists : List (List LocalAnswer)) → AreAllAnswers p pivots k rule_statuses lists → length lists ≡ length rule_statuses
all_long p pivots k [] [] h = refl
all_long p pivots k [] (l ∷ lists) h = absurd h
all_long p pivots k (f ∷ rule_statuses) [] h = absurd h
all_long p pivots k (f ∷ rule_statuses) (l ∷ lists) h = ap (λ (n : ℕ). suc n) (all_long p pivots (suc k) rule_statuses lists h.1)

all_at : (p : Program) (pivots k : ℕ) (rule_statuses : List RuleStatus) (lists : List (List LocalAnswer)) (i : ℕ) (f : RuleStatus) (answers : List LocalAnswer)
    → AreAllAnswers p pivots k rule_statuses lists → slice_get rule_statuses i ≡ Some f → slice_get lists i ≡ Some answers → AreAnswersAfter p pivots (k + i) f answers
all_at p pivots k [] [] i f answers h e g = absurd (none_some f e)
all_at p pivots k [] (l ∷ lists) i f answers h e g = absurd h
all_at p pivots k (x ∷ rule_statuses) [] i f answers h e g = absurd h
all_at p pivots k (x ∷ rule_statuses) (l ∷ lists) zero f answers h e g =
    subst (λ (n : ℕ). AreAnswersAfter p pivots n f answers) (let z : k ≡ k + 0 = omega arith in z)
    (subst (λ (y : RuleStatus). AreAnswersAfter p pivots k y answers) (some_same x f e)
    (subst (λ (y : List LocalAnswer). AreAnswersAfter p pivots k x y) (some_same l answers g) h.0))
all_at p pivots k (x ∷ rule_statuses) (l ∷ lists) (suc i) f answers h e g =
    subst (λ (n : ℕ). AreAnswersAfter p pivots n f answers) (let z : suc k + i ≡ k + suc i = omega arith in z)
    (all_at p pivots (suc k) rule_statuses lists i f answers h.1 e g)

-- a flagged rule is live, and has a number up to the count of rules
flagged_live : (rule_statuses : List RuleStatus) (i : ℕ) → slice_index_or (map is_live_rule_status rule_statuses) i false ≡ true → slice_get rule_statuses i ≡ Some Live
flagged_live [] i h = absurd (no_is_not_yes false refl h)
flagged_live (Live ∷ rule_statuses) zero h = refl
flagged_live (Empty ∷ rule_statuses) zero h = absurd (no_is_not_yes false refl h)
flagged_live (Unreached ∷ rule_statuses) zero h = absurd (no_is_not_yes false refl h)
flagged_live (f ∷ rule_statuses) (suc i) h = flagged_live rule_statuses i h

flag_rule_status : (rule_statuses : List RuleStatus) (i : ℕ) → i < length rule_statuses → slice_index_or (map is_live_rule_status rule_statuses) i false ≡ not (is_dead_rule_status (rule_status_at rule_statuses (suc i)))
flag_rule_status [] i l = absurd (omega (arith, l))
flag_rule_status (Live ∷ rule_statuses) zero l = refl
flag_rule_status (Empty ∷ rule_statuses) zero l = refl
flag_rule_status (Unreached ∷ rule_statuses) zero l = refl
flag_rule_status (f ∷ rule_statuses) (suc i) l = flag_rule_status rule_statuses i (omega (arith, l))

got_is : (lists : List (List LocalAnswer)) (i : ℕ) (answers : List LocalAnswer) → slice_get lists i ≡ Some answers → slice_index_or lists i [] ≡ answers
got_is [] i answers e = absurd (none_some answers e)
got_is (l ∷ lists) zero answers e = some_same l answers e
got_is (l ∷ lists) (suc i) answers e = got_is lists i answers e

module _ (p : Program) (pivots : ℕ) (rule_statuses : List RuleStatus) (lists : List (List LocalAnswer)) (are : AreRuleStatuses (searches_of_program p pivots) p rule_statuses)
    (all : AreAllAnswers p pivots 1 rule_statuses lists) where
  abbrev pub flags : List Bool
  flags = map is_live_rule_status rule_statuses

  -- the flagged rules are the live ones
  pub lives : AreLive p pivots (is_flagged (map is_live_rule_status rule_statuses))
  lives = record {
    is_empty = λ e. is_empty_rule_status (rule_status_at rule_statuses e);
    empty = λ t rule. (
      λ e. let x = (are.empty t rule).0 e in (x.multipliers, x.shown),
      λ h. (are.empty t rule).1 (record { multipliers = h.0; shown = h.1 }),
    );
    live = λ t. (forth t, λ h. back t h.0 h.1);
  }
    where
      forth : (t : ℕ) → is_flagged (map is_live_rule_status rule_statuses) t ≡ true → IsRule p t × (¬ (IsDead p (λ e. is_empty_rule_status (rule_status_at rule_statuses e)) t))
      forth zero h = absurd (no_is_not_yes false refl h)
      forth (suc i) h =
          let l : i < length rule_statuses = below_get rule_statuses i Live (flagged_live rule_statuses i h) in
          let rule = rule_there p i (omega (arith, l, are.one_each)) in (
            rule,
            λ dead. no_is_not_yes (not (is_dead_rule_status (rule_status_at rule_statuses (suc i)))) (ap not ((are.dead (suc i) rule).1 dead))
                (sym (flag_rule_status rule_statuses i l) ∙ h),
          )

      back : (t : ℕ) → IsRule p t → ¬ (IsDead p (λ e. is_empty_rule_status (rule_status_at rule_statuses e)) t) → is_flagged (map is_live_rule_status rule_statuses) t ≡ true
      back zero rule alive = absurd (let e = rule.numbered in let f : ⊥ = cc in f)
      back (suc i) rule alive =
          let l : i < length rule_statuses = let b = rule_below p i rule in omega (arith, b, are.one_each) in
          flag_rule_status rule_statuses i l ∙ by (is_dead_rule_status (rule_status_at rule_statuses (suc i))) refl
        where
          by : (v : Bool) → is_dead_rule_status (rule_status_at rule_statuses (suc i)) ≡ v → not v ≡ true
          by true e = absurd (alive ((are.dead (suc i) rule).0 e))
          by false e = refl

  -- the answers for a flagged rule
  here : (i : ℕ) → is_flagged (map is_live_rule_status rule_statuses) (suc i) ≡ true
      → (answers : List LocalAnswer) × (slice_get lists i ≡ Some answers) × AreAnswersAfter p pivots (suc i) Live answers
  here i h =
      let live = flagged_live rule_statuses i h in
      let l = below_get rule_statuses i Live live in
      let got = get_below lists i (omega (arith, l, all_long p pivots 1 rule_statuses lists all)) in (
        got.0,
        got.1,
        subst (λ (n : ℕ). AreAnswersAfter p pivots n Live got.0) (let z : 1 + i ≡ suc i = omega arith in z)
            (all_at p pivots 1 rule_statuses lists i Live got.0 all live got.1),
      )

  -- the answer of a place of a live rule
  pub answer_here : (t i : ℕ) → is_flagged (map is_live_rule_status rule_statuses) t ≡ true → IsPlace p t i
      → (a : LocalAnswer) × (answer_in lists t i ≡ Some a) × IsLocalOf p pivots t i (local_answer_of a)
  answer_here zero i h place = absurd (no_is_not_yes false refl h)
  answer_here (suc u) zero h place = absurd (let l = place.least in omega (arith, l))
  answer_here (suc u) (suc j) h place =
      let x = here u h in
      let rule = ((lives.live (suc u)).0 h).0 in
      let same : rule.rule.target ≡ place.symbol = some_same rule.rule.target place.symbol (sym (ap target_in rule.numbered) ∙ place.target) in
      let long = x.2.long rule.rule rule.numbered refl ∙ ap (arity_of p) same in
      let last = place.last in
      let a = get_below x.0 j (omega (arith, last, long)) in (
        a.0,
        ap (λ (xs : List LocalAnswer). slice_get xs j) (got_is lists u x.0 x.1) ∙ a.1,
        x.2.each j a.0 refl a.1,
      )

  -- for each place after a live rule the stored answer is its local bound, or why it has none
  pub locals : AreLocals p pivots (is_flagged (map is_live_rule_status rule_statuses)) (local_from lists)
  locals t i h place =
      let x = answer_here t i h place in
      subst (λ l. IsLocalOf p pivots t i l) (sym (at t i x.0 x.1)) x.2
    where
      at : (t i : ℕ) (a : LocalAnswer) → answer_in lists t i ≡ Some a → local_from lists t i ≡ local_answer_of a
      at t zero a e = absurd (none_some a e)
      at t (suc i) a e = ap local_in e

  -- there is a list of answers and a flag for each rule, and an answer for each place of a live one
  pub locals_for : AreLocalsFor p lists (map is_live_rule_status rule_statuses)
  locals_for = record {
    lists = all_long p pivots 1 rule_statuses lists all ∙ are.one_each;
    flags = length-map rule_statuses is_live_rule_status ∙ are.one_each;
    places = places;
  }
    where
      places : (t : ℕ) (r : Rule) → rule_at p t ≡ Some r → is_flagged (map is_live_rule_status rule_statuses) t ≡ true → length (answers_for lists t) ≡ arity_of p r.target
      places zero r n h = absurd (no_is_not_yes false refl h)
      places (suc u) r n h = let x = here u h in ap (λ (xs : List LocalAnswer). length xs) (got_is lists u x.0 x.1) ∙ x.2.long r n refl

-- the status of the rule at a position
pub rule_status_read : (rule_statuses : List RuleStatus) (i : ℕ) (d : RuleStatus) → i < length rule_statuses → rule_status_at rule_statuses (suc i) ≡ slice_index_or rule_statuses i d
rule_status_read [] i d l = absurd (omega (arith, l))
rule_status_read (x ∷ rule_statuses) zero d l = refl
rule_status_read (x ∷ rule_statuses) (suc i) d l = rule_status_read rule_statuses i d (omega (arith, l))

-- the rows of a live rule aren't known to have no point
pub live_runs : (p : Program) (pivots : ℕ) (rule_statuses : List RuleStatus) (empties : List GuardFeasibility) (i : ℕ) (a : GuardFeasibility)
    → AreRuleStatuses (searches_of_program p pivots) p rule_statuses → AreEmptyAnswers p pivots empties → i < length p.rules → rule_status_at rule_statuses (suc i) ≡ Live
    → slice_get empties i ≡ Some a → ¬ (SaysEmpty a)
live_runs p pivots rule_statuses empties i a are answers l live got says = by a got says
  where
    rule : IsRule p (suc i)
    rule = rule_there p i l

    by : (x : GuardFeasibility) → slice_get empties i ≡ Some x → SaysEmpty x → ⊥
    by (empty.Empty n) e s =
        let is = answers.each (suc i) rule.rule (empty.Empty n) rule.numbered e in
        let told = (are.empty (suc i) rule).1
        (record { multipliers = n.multipliers.items; shown = (rule.rule, rule.numbered, (empty.Empty n, refl, is)) }) in
        no_is_not_yes (is_empty_rule_status (rule_status_at rule_statuses (suc i))) (ap is_empty_rule_status live) told
    by (empty.Point z) e s = s
    by (empty.OutOfLimits t) e s = s
