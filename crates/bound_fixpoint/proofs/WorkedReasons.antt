-- Reasons for missing bounds of the program that counts down, if no function ranks a rule.
use Rattle.std.proofs.Common.{◌≡◌, inl, inr, ℕ, List, [], ◌∷◌, refl, sym, ap, subst, arith}
use Rattle.rule_questions.proofs.model.Cases.{some_none}
use Rattle.rule_questions.specs.cert_rules.Gaps.{Gap}
use Rattle.rule_questions.specs.cert_rules.Nodes.{ResultVariable}
use Rattle.rule_questions.specs.cert_rules.WorkedSettings.{counting}
use Rattle.rule_questions.specs.cert_rules.Worked.{once_time}
use Rattle.bound_fixpoint.specs.Keys.{key}
use Rattle.bound_fixpoint.specs.Searches.{Searches, searches_of, Unsized, NoBound, OfTime, OfSize}
use Rattle.outcome.specs.Reports.{NoFunction, TimeLarge, SizeMissing, SizeUntimed}
use Rattle.bound_fixpoint.specs.Answers.{Target, TimeOf, SizesOf, Lacks, AnswersTime, AnswersSize}
use Rattle.bound_fixpoint.specs.Components.{IsOneOf}
use Rattle.bound_fixpoint.specs.Rounds.{IsClosed, Begun, IsAskedFor, IsNoBound}
use Rattle.bound_fixpoint.specs.WorkedSets.{nothing_known}
use Rattle.bound_fixpoint.specs.WorkedRounds.{gap_over, never_ranks, alone, nothing_ranks, ReasonsAreWorkedOut}
use Rattle.bound_fixpoint.proofs.DerivationsAreOne.{answers_one, reason_one}
use Rattle.bound_fixpoint.proofs.UniformComponents.{member_covered}
use Rattle.bound_fixpoint.proofs.WorkedSets.{first as first_set, second as second_set}
use Rattle.bound_fixpoint.proofs.WorkedShut.{none_shut, none_shut_first, open_places, place_after_2}
use Rattle.bound_fixpoint.proofs.WorkedComponents as parts
use Rattle.bound_fixpoint.proofs.WorkedRounds.{answer_of_tries, time-sound, nothing_first}

abbrev by_none : Searches
by_none = searches_of nothing_ranks

-- each rule is queried over its set, and no function ranks it
first_time_answer : AnswersTime by_none counting nothing_known 1 (Lacks (OfTime (NoFunction (gap_over (1 ∷ []) 1 []))))
first_time_answer =
    time-sound never_ranks alone nothing_known 1 (1 ∷ []) [] first_set
    (open_places nothing_known (1 ∷ []) (none_shut_first nothing_known refl))
    (Lacks (OfTime (NoFunction (gap_over (1 ∷ []) 1 [])))) refl

second_time_answer : AnswersTime by_none counting nothing_known 2 (Lacks (OfTime (NoFunction (gap_over (1 ∷ 2 ∷ []) 2 []))))
second_time_answer =
    time-sound never_ranks alone nothing_known 2 (1 ∷ 2 ∷ []) [] second_set
    (open_places nothing_known (1 ∷ 2 ∷ []) (none_shut nothing_known refl))
    (Lacks (OfTime (NoFunction (gap_over (1 ∷ 2 ∷ []) 2 [])))) refl

-- neither size is derived
first_size_answer : AnswersSize by_none counting nothing_known (key 1 1 ∷ []) (Lacks (OfSize (SizeUntimed 1)))
first_size_answer = record { answer = Unsized (SizeUntimed 1); answered = refl; is_answer = refl }

second_size_answer : AnswersSize by_none counting nothing_known (key 2 1 ∷ []) (Lacks (OfSize (SizeMissing (key 1 1))))
second_size_answer = record { answer = Unsized (SizeMissing (key 1 1)); answered = refl; is_answer = refl }

closed : IsClosed by_none counting []
closed = record {
  times = [];
  timed = (
    [],
    answer_of_tries by_none counting [] (TimeOf 1) (Lacks (OfTime (NoFunction (gap_over (1 ∷ []) 1 [])))) refl first_time_answer,
    (
      [],
      refl,
      (
        [],
        answer_of_tries by_none counting [] (TimeOf 2) (Lacks (OfTime (NoFunction (gap_over (1 ∷ 2 ∷ []) 2 [])))) refl
            second_time_answer,
        ([], refl, refl),
      ),
    ),
  );
  components = alone;
  are_components = refl;
  live = parts.components never_ranks alone;
  sizes = [];
  sized = (
    [],
    answer_of_tries by_none counting [] (SizesOf (key 1 1 ∷ [])) (Lacks (OfSize (SizeUntimed 1))) refl first_size_answer,
    (
      [],
      refl,
      (
        [],
        answer_of_tries by_none counting [] (SizesOf (key 2 1 ∷ [])) (Lacks (OfSize (SizeMissing (key 1 1)))) refl second_size_answer,
        ([], refl, refl),
      ),
    ),
  );
  all = refl;
}

second_time : IsNoBound by_none counting [] 2 0 (OfTime (NoFunction (gap_over (1 ∷ 2 ∷ []) 2 [])))
second_time = record { missing = refl; target = TimeOf 2; asked = (parts.rule_2, refl); is_answer = second_time_answer }

second_size : IsNoBound by_none counting [] 2 1 (OfSize (SizeMissing (key 1 1)))
second_size = record {
  missing = refl;
  target = SizesOf (key 2 1 ∷ []);
  asked = (alone, refl, inr (inl refl), refl);
  is_answer = second_size_answer;
}

-- there is no other reason
one_reason : (t i : ℕ) (v w : NoBound) → IsNoBound by_none counting [] t i v → IsNoBound by_none counting [] t i w
    → v ≡ w
one_reason t i v w h k =
    reason_one by_none (answers_one nothing_ranks) counting alone refl (parts.components never_ranks alone).apart [] t i
    v w h k

gaps_differ : OfTime (NoFunction (gap_over (2 ∷ []) 2 []))
    ≡ OfTime (NoFunction (gap_over (1 ∷ 2 ∷ []) 2 [])) → ⊥
gaps_differ e =
    let gaps : gap_over (2 ∷ []) 2 [] ≡ gap_over (1 ∷ 2 ∷ []) 2 [] = cc in
    let sets : ◌≡◌ {A = List ℕ} (2 ∷ []) (1 ∷ 2 ∷ []) = ap (λ (g : Gap). g.set) gaps in
    let firsts : ◌≡◌ {A = ℕ} 2 1 = cc in
    omega (arith, firsts)

kinds_differ : OfTime (TimeLarge 5) ≡ OfTime (NoFunction (gap_over (1 ∷ 2 ∷ []) 2 [])) → ⊥
kinds_differ e = cc

causes_differ : OfSize (SizeUntimed 1) ≡ OfSize (SizeMissing (key 1 1)) → ⊥
causes_differ e = cc

-- a key that is no place has no reason
no_place : (why : NoBound) → IsNoBound by_none counting [] 2 2 why → ⊥
no_place why h = go h.target h.asked
  where
    go : (g : Target) → IsAskedFor by_none counting 2 2 g → ⊥
    go (TimeOf u) a = a
    go (SizesOf keys) a =
        let covered = member_covered alone keys 2 2 (subst (λ (cs : List (List ResultVariable)). IsOneOf cs keys) (sym a.1) a.2)
        a.3 in
        let e = place_after_2 2 (parts.covered_place 2 2 covered).2 in omega (arith, e)

pub reasons_worked : ReasonsAreWorkedOut
reasons_worked = record {
  components = parts.components never_ranks alone;
  not_lacking = parts.not_lacking never_ranks alone;
  not_twice = parts.not_twice never_ranks alone;
  not_descending = parts.not_descending never_ranks alone;
  not_of_entry = parts.not_of_entry never_ranks alone;
  last = record { made = Begun (nothing_first never_ranks alone); closed = closed };
  first_time = record { missing = refl; target = TimeOf 1; asked = (parts.rule_1, refl); is_answer = first_time_answer };
  second_time = second_time;
  first_size = record {
    missing = refl;
    target = SizesOf (key 1 1 ∷ []);
    asked = (alone, refl, inl refl, refl);
    is_answer = first_size_answer;
  };
  second_size = second_size;
  not_alone = λ h. gaps_differ (one_reason 2 0 (OfTime (NoFunction (gap_over (2 ∷ []) 2 [])))
      (OfTime (NoFunction (gap_over (1 ∷ 2 ∷ []) 2 []))) h second_time);
  not_large = λ h. kinds_differ (one_reason 2 0 (OfTime (TimeLarge 5)) (OfTime (NoFunction (gap_over (1 ∷ 2 ∷ []) 2 []))) h second_time);
  not_untimed = λ h. causes_differ (one_reason 2 1 (OfSize (SizeUntimed 1)) (OfSize (SizeMissing (key 1 1))) h second_size);
  not_known = λ h. some_none once_time h.missing;
  not_elsewhere = no_place (OfSize (SizeMissing (key 1 1)));
}
