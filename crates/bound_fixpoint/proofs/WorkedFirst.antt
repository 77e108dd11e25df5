-- The derivations before the first round of programs with a rule that is never reached.
use Rattle.std.proofs.Common.{◌≡◌, ◌↔◌, inl, inr, ℕ, zero, suc, ◌≤◌, Bool, not, true, false, List, [], ◌∷◌, length}
use Rattle.std.proofs.Common.{refl, sym, ap, subst, arith}
use Rattle.std.proofs.lemmas.List.Elements.{All-nil, All-cons}
use Rattle.rule_questions.specs.model.Programs.{arity_of}
use Rattle.rule_questions.specs.model.Bounds.{Constant}
use Rattle.rule_questions.proofs.model.Cases.{some_same}
use Rattle.rule_questions.specs.cert_rules.Nodes.{ResultVariable}
use Rattle.rule_questions.specs.cert_rules.AcceptsPlain.{IsRule, IsUnreached}
use Rattle.rule_questions.specs.cert_rules.WorkedSettings.{apart, counting}
use Rattle.rule_questions.specs.cert_types.declared.answer.Question.TheVariants as asked
use Rattle.rule_questions.proofs.cert_rules.ReachTests.{decides-unreached}
use Rattle.bound_fixpoint.specs.Keys.{Bounds, IsPlace, key, time_key, has_key}
use Rattle.bound_fixpoint.specs.Derivations.{Derivation, bounds_of}
use Rattle.bound_fixpoint.specs.Searches.{Searches, searches_of, NoPoint, HasPoint, RankHitLimit, Unsized, OfTime, OfSize}
use Rattle.outcome.specs.Reports.{TimeHitLimit, SizeHitLimit}
use Rattle.bound_fixpoint.specs.Answers.{TimeOf, SizesOf, Lacks, AnswersTime, AnswersSize}
use Rattle.bound_fixpoint.specs.Components.{IsEmpty, IsDead, AreResultVariablesAscending, IsCovered, AreComponentsOf}
use Rattle.bound_fixpoint.specs.Beginning.{empty_derivation, unreached_derivation, never_derivation, AreFirst}
use Rattle.bound_fixpoint.specs.Rounds.{IsClosed, Begun}
use Rattle.bound_fixpoint.specs.WorkedFirst.{limit_hit, hits_limit_as, all_hits_limit, two_derivations, cut_off, four_derivations}
use Rattle.bound_fixpoint.specs.WorkedFirst.{FirstDerivationsAreWorkedOut}
use Rattle.bound_fixpoint.proofs.Cases.{false_true, true_false}
use Rattle.bound_fixpoint.proofs.FirstIsOne.{first_one}
use Rattle.bound_fixpoint.proofs.DerivationsAreOne.{answers_one}
use Rattle.bound_fixpoint.proofs.SetsExist.{set_there, shut_there}
use Rattle.bound_fixpoint.proofs.WorkedComponents.{lone-sound}
use Rattle.bound_fixpoint.proofs.WorkedComponents as counted
use Rattle.bound_fixpoint.proofs.WorkedRounds.{answer_of_tries, known_tries}
use Rattle.bound_fixpoint.proofs.WorkedUnreached.{rule_1, no_rule_0, no_rule_3, no_way, reached}

abbrev by_hits_limit : Searches
by_hits_limit = searches_of all_hits_limit

abbrev is_second : ℕ → Bool
is_second zero = false
is_second (suc zero) = false
is_second (suc (suc zero)) = true
is_second (suc (suc (suc t))) = false

-- among the rules exactly rule 2 is unreached
unreached : (t : ℕ) → IsRule apart.program t → (is_second t ≡ true) ↔ IsUnreached apart.program (λ e. true) t
unreached zero rule = absurd (no_rule_0 rule)
unreached (suc zero) rule = (λ e. absurd (false_true e), λ out. absurd (reached (λ e. true) out))
unreached (suc (suc zero)) rule = (λ e. no_way, λ out. refl)
unreached (suc (suc (suc t))) rule = absurd (no_rule_3 t rule)

not_empty : (other : ℕ → ℕ) (t : ℕ) (m : List ℕ) → (hits_limit_as other).empty t ≡ NoPoint m → ⊥
not_empty other t m e = cc

-- the time of the unreached rule is derived, and the size after it
first : AreFirst by_hits_limit apart.program two_derivations
first = record {
  is_empty = λ t. false;
  empty = λ t rule. (λ e. absurd (false_true e), λ h. absurd (not_empty (λ n. n) t h.multipliers h.shown));
  is_unreached = is_second;
  unreached = λ t rule e. unreached t rule;
  empties = [];
  are_empties = refl;
  in_order = refl;
}

other_first : (fs : List Derivation) → AreFirst by_hits_limit apart.program fs → fs ≡ two_derivations
other_first fs h = first_one by_hits_limit (answers_one all_hits_limit) apart.program fs two_derivations h first

-- the only place of l is place 1; after rule 1 it is the only place of a live rule
place_of_l : (i : ℕ) → IsPlace apart.program 1 i → i ≡ 1
place_of_l i h =
    let symbol = some_same 1 h.symbol h.target in
    let last : i ≤ 1 = subst (λ (a : ℕ). i ≤ arity_of apart.program a) (sym symbol) h.last in
    omega (arith, h.least, last)

abbrev IsLivePlace : ℕ → ℕ → Type 0
IsLivePlace t i = IsRule apart.program t × (¬ (IsDead apart.program (λ e. false) t)) × IsPlace apart.program t i

alive : IsDead apart.program (λ e. false) 1 → ⊥
alive (inl e) = false_true e
alive (inr u) = reached (λ e. true) u

covered_place : (t i : ℕ) → IsCovered ((key 1 1 ∷ []) ∷ []) t i → IsLivePlace t i
covered_place t i (inl m) =
    let same = lone-sound (key 1 1) t i m in
    subst (λ (n : ℕ). IsLivePlace n i) same.0 (
      rule_1,
      alive,
      subst (λ (n : ℕ). IsPlace apart.program 1 n) same.1
          (record { symbol = 1; target = refl; least = omega arith; last = omega arith }),
    )
covered_place t i (inr x) = absurd x

is_covered : (t i : ℕ) → IsRule apart.program t → ¬ (IsDead apart.program (λ e. false) t) → IsPlace apart.program t i
    → IsCovered ((key 1 1 ∷ []) ∷ []) t i
is_covered zero i rule live place = absurd (no_rule_0 rule)
is_covered (suc zero) i rule live place = inl (subst (λ (n : ℕ). has_key (key 1 1 ∷ []) 1 n ≡ true)
    (sym (place_of_l i place)) refl)
is_covered (suc (suc zero)) i rule live place = absurd (live (inr no_way))
is_covered (suc (suc (suc t))) i rule live place = absurd (no_rule_3 t rule)

pub components : (other : ℕ → ℕ) → AreComponentsOf (searches_of (hits_limit_as other)) apart.program ((key 1 1 ∷ []) ∷ [])
components other = record {
  is_empty = λ t. false;
  empty = λ t rule. (λ e. absurd (false_true e), λ h. absurd (not_empty other t h.multipliers h.shown));
  ascending = All-cons AreResultVariablesAscending (key 1 1 ∷ []) [] tt (All-nil AreResultVariablesAscending);
  apart = (λ t i m x. x, tt);
  live = λ t i. (covered_place t i, λ h. is_covered t i h.0 h.1 h.2);
}

abbrev two_known : Bounds
two_known = bounds_of apart.program two_derivations

-- the ranking question of rule 1 hits a limit, whatever its set, and so does the size after it
time_answer : AnswersTime by_hits_limit apart two_known 1 (Lacks (OfTime (TimeHitLimit (limit_hit (asked.Rank 1)))))
time_answer =
    let set = set_there apart.program two_known (Constant 1, refl) 1 rule_1 in
    let shut = shut_there apart.program two_known set.0 in
    record {
      asked = record {
        set = set.0;
        shut = shut.0;
        answer = RankHitLimit (limit_hit (asked.Rank 1));
        is_set = set.1;
        are_shut = shut.1;
        answered = refl;
      };
      is_answer = refl;
    }

size_answer : AnswersSize by_hits_limit apart two_known (key 1 1 ∷ []) (Lacks (OfSize (SizeHitLimit (limit_hit (asked.Local 1 1)))))
size_answer = record { answer = Unsized (SizeHitLimit (limit_hit (asked.Local 1 1))); answered = refl; is_answer = refl }

closed : IsClosed by_hits_limit apart two_derivations
closed = record {
  times = [];
  timed = (
    [],
    answer_of_tries by_hits_limit apart two_derivations (TimeOf 1) (Lacks (OfTime (TimeHitLimit (limit_hit (asked.Rank 1))))) refl time_answer,
    ([], refl, ([], known_tries by_hits_limit apart two_derivations (TimeOf 2) refl, ([], refl, refl))),
  );
  components = (key 1 1 ∷ []) ∷ [];
  are_components = refl;
  live = components (λ t. t);
  sizes = [];
  sized = (
    [],
    answer_of_tries by_hits_limit apart two_derivations (SizesOf (key 1 1 ∷ [])) (Lacks (OfSize (SizeHitLimit (limit_hit (asked.Local 1 1))))) refl
        size_answer,
    ([], refl, refl),
  );
  all = refl;
}

-- if rule 1 is infeasible, no path leads to l
abbrev is_first : ℕ → Bool
is_first zero = false
is_first (suc zero) = true
is_first (suc (suc t)) = false

cut : IsUnreached counting.program (λ e. not (is_first e)) 2
cut = (decides-unreached counting.program (λ e. not (is_first e)) 2).0 refl

four : AreFirst (searches_of cut_off) counting.program four_derivations
four = record {
  is_empty = is_first;
  empty = empty;
  is_unreached = is_second;
  unreached = out;
  empties = empty_derivation 1 [] ∷ [];
  are_empties = ([], refl, ([], refl, refl));
  in_order = refl;
}
  where
    empty : (t : ℕ) → IsRule counting.program t → (is_first t ≡ true) ↔ IsEmpty (searches_of cut_off) t
    empty zero rule = absurd (counted.no_rule_0 rule)
    empty (suc zero) rule = (λ e. record { multipliers = []; shown = refl }, λ h. refl)
    empty (suc (suc t)) rule = (λ e. absurd (false_true e), λ h. absurd (none h.multipliers h.shown))
      where
        none : (m : List ℕ) → HasPoint (record { parts = []; den = 1 }) ≡ NoPoint m → ⊥
        none m x = cc

    out : (t : ℕ) → IsRule counting.program t → is_first t ≡ false
        → (is_second t ≡ true) ↔ IsUnreached counting.program (λ e. not (is_first e)) t
    out zero rule e = absurd (counted.no_rule_0 rule)
    out (suc zero) rule e = absurd (true_false e)
    out (suc (suc zero)) rule e = (λ x. cut, λ u. refl)
    out (suc (suc (suc t))) rule e = absurd (counted.no_rule_3 t rule)

other_four : (fs : List Derivation) → AreFirst (searches_of cut_off) counting.program fs → fs ≡ four_derivations
other_four fs h = first_one (searches_of cut_off) (answers_one cut_off) counting.program fs four_derivations h four

abbrev second_premises : List Derivation → ℕ
second_premises [] = 0
second_premises (f ∷ []) = 0
second_premises (f ∷ g ∷ fs) = length g.premises

abbrev first_premises : List Derivation → ℕ
first_premises [] = 0
first_premises (f ∷ fs) = length f.premises

abbrev rule_of_keys : List ResultVariable → ℕ
rule_of_keys [] = 0
rule_of_keys (k ∷ keys) = k.rule

abbrev second_rule : List Derivation → ℕ
second_rule [] = 0
second_rule (f ∷ []) = 0
second_rule (f ∷ g ∷ fs) = rule_of_keys g.keys

pub first_worked : FirstDerivationsAreWorkedOut
first_worked = record {
  first = first;
  zero_time = refl;
  zero_size = refl;
  no_time = refl;
  not_nothing = λ h. nothing (other_first [] h);
  not_turned = λ h. turned (other_first (never_derivation apart.program 2 ∷ unreached_derivation [] 2 ∷ []) h);
  not_without_size = λ h. one (other_first (unreached_derivation [] 2 ∷ []) h);
  not_twice = λ h. three (other_first
      (unreached_derivation [] 2 ∷ never_derivation apart.program 2 ∷ never_derivation apart.program 2 ∷ []) h);
  last = record { made = Begun first; closed = closed };
  reason = record { missing = refl; target = TimeOf 1; asked = (rule_1, refl); is_answer = time_answer };
  size_reason = record {
    missing = refl;
    target = SizesOf (key 1 1 ∷ []);
    asked = ((key 1 1 ∷ []) ∷ [], refl, inl refl, refl);
    is_answer = size_answer;
  };
  four = four;
  not_resting_on_nothing = λ h. resting (other_four
      (empty_derivation 1 [] ∷ unreached_derivation [] 2 ∷ never_derivation counting.program 1 ∷ never_derivation counting.program 2 ∷ []) h);
  not_rule_by_rule = λ h. by_rule (other_four
      (empty_derivation 1 [] ∷ never_derivation counting.program 1 ∷ unreached_derivation (time_key 1 ∷ []) 2
      ∷ never_derivation counting.program 2 ∷ []) h);
}
  where
    nothing : [] ≡ two_derivations → ⊥
    nothing e = let n : ◌≡◌ {A = ℕ} 0 2 = ap length e in omega (arith, n)

    turned : never_derivation apart.program 2 ∷ unreached_derivation [] 2 ∷ [] ≡ two_derivations → ⊥
    turned e = let n : ◌≡◌ {A = ℕ} 1 0 = ap first_premises e in omega (arith, n)

    one : unreached_derivation [] 2 ∷ [] ≡ two_derivations → ⊥
    one e = let n : ◌≡◌ {A = ℕ} 1 2 = ap length e in omega (arith, n)

    three : unreached_derivation [] 2 ∷ never_derivation apart.program 2 ∷ never_derivation apart.program 2 ∷ [] ≡ two_derivations → ⊥
    three e = let n : ◌≡◌ {A = ℕ} 3 2 = ap length e in omega (arith, n)

    resting : empty_derivation 1 [] ∷ unreached_derivation [] 2 ∷ never_derivation counting.program 1 ∷ never_derivation counting.program 2 ∷ []
        ≡ four_derivations → ⊥
    resting e = let n : ◌≡◌ {A = ℕ} 0 1 = ap second_premises e in omega (arith, n)

    by_rule : empty_derivation 1 [] ∷ never_derivation counting.program 1 ∷ unreached_derivation (time_key 1 ∷ []) 2
        ∷ never_derivation counting.program 2 ∷ [] ≡ four_derivations → ⊥
    by_rule e = let n : ◌≡◌ {A = ℕ} 1 2 = ap second_rule e in omega (arith, n)
