-- Two rounds, a time that is too large, and a component of two members, of the program that counts down.
use Rattle.std.proofs.Common.{◌≡◌, inl, inr, ℕ, true, false, List, [], ◌∷◌, length, refl, ap, subst, arith}
use Rattle.std.proofs.lemmas.List.Elements.{All-nil, All-cons}
use Rattle.rule_questions.specs.model.Bounds.{Constant}
use Rattle.rule_questions.proofs.model.Membership.{no_is_not_yes}
use Rattle.rule_questions.specs.cert_rules.AcceptsPlain.{IsRule}
use Rattle.rule_questions.specs.cert_rules.Nodes.{ResultVariable}
use Rattle.rule_questions.specs.cert_rules.Worked.{once_node, down_time, entered_member, looped_member}
use Rattle.rule_questions.specs.cert_rules.WorkedSettings.{counting}
use Rattle.rule_questions.specs.cert_rules.WorkedReasons.{towering}
use Rattle.rule_questions.specs.cert_types.declared.answer.Question.TheVariants as asked
use Rattle.bound_fixpoint.specs.Keys.{key, time_key, has_key}
use Rattle.bound_fixpoint.specs.Derivations.{RankBy, SpreadBy, CycleBy, Derivation, bounds_of}
use Rattle.bound_fixpoint.specs.Needs.{needs_of}
use Rattle.bound_fixpoint.specs.Justification.{composed_bound}
use Rattle.bound_fixpoint.specs.Searches.{Searches, searches_of, NoPoint, Ranked, RankHitLimit, SizedBy, Unsized, OfTime, OfSize}
use Rattle.outcome.specs.Reports.{TimeHitLimit, TimeLarge, SizeMissing}
use Rattle.bound_fixpoint.specs.Answers.{TimeOf, SizesOf, Found, Lacks, AnswersTime}
use Rattle.bound_fixpoint.specs.Components.{AreResultVariablesAscending, IsCovered, AreComponentsOf}
use Rattle.bound_fixpoint.specs.Rounds.{IsRound, IsClosed, Begun, Made}
use Rattle.bound_fixpoint.specs.WorkedDerivations.{entered_derivation, looped_derivation}
use Rattle.bound_fixpoint.specs.WorkedFirst.{limit_hit}
use Rattle.bound_fixpoint.specs.WorkedSets.{nothing_known}
use Rattle.bound_fixpoint.specs.WorkedRounds.{answers_with, value_ranks, ranks_open, alone, turned, value_turned}
use Rattle.bound_fixpoint.specs.WorkedRounds.{first_time, second_time}
use Rattle.bound_fixpoint.specs.WorkedLastRounds.{once_ranks, together, loop_of_both, sized_together, sized_derivation}
use Rattle.bound_fixpoint.specs.WorkedLastRounds.{LastRoundsAreWorkedOut}
use Rattle.bound_fixpoint.proofs.Cases.{either, false_true}
use Rattle.bound_fixpoint.proofs.Keys.{has_key-cases, has_key-later}
use Rattle.bound_fixpoint.proofs.RoundIsOne.{round_one}
use Rattle.bound_fixpoint.proofs.DerivationsAreOne.{answers_one}
use Rattle.bound_fixpoint.proofs.SetsExist.{set_there, shut_there}
use Rattle.bound_fixpoint.proofs.WorkedSets.{first as first_set, second as second_set}
use Rattle.bound_fixpoint.proofs.WorkedShut.{none_shut, none_shut_first, open_places}
use Rattle.bound_fixpoint.proofs.WorkedComponents as parts
use Rattle.bound_fixpoint.proofs.WorkedRounds.{answer_of_tries, known_tries, time-sound, nothing_first, entered_answer}
use Rattle.bound_fixpoint.proofs.WorkedRounds.{looped_answer}

abbrev by_turned : Searches
by_turned = searches_of value_turned

-- over no bounds both rules are ranked, each over its set
first_time_answer : AnswersTime by_turned counting nothing_known 1
    (Found (RankBy (value_ranks (1 ∷ []) 1)) (time_key 0 ∷ key 0 1 ∷ []) down_time)
first_time_answer =
    time-sound ranks_open turned nothing_known 1 (1 ∷ []) [] first_set
    (open_places nothing_known (1 ∷ []) (none_shut_first nothing_known refl))
    (Found (RankBy (value_ranks (1 ∷ []) 1)) (time_key 0 ∷ key 0 1 ∷ []) down_time)
    (record { before = refl; after = refl }, refl, refl, refl)

second_time_answer : AnswersTime by_turned counting nothing_known 2
    (Found (RankBy (value_ranks (1 ∷ 2 ∷ []) 2)) (time_key 0 ∷ key 0 1 ∷ []) down_time)
second_time_answer =
    time-sound ranks_open turned nothing_known 2 (1 ∷ 2 ∷ []) [] second_set
    (open_places nothing_known (1 ∷ 2 ∷ []) (none_shut nothing_known refl))
    (Found (RankBy (value_ranks (1 ∷ 2 ∷ []) 2)) (time_key 0 ∷ key 0 1 ∷ []) down_time)
    (record { before = refl; after = refl }, refl, refl, refl)

abbrev three : List Derivation
three = first_time ∷ second_time ∷ entered_derivation ∷ []

abbrev four : List Derivation
four = first_time ∷ second_time ∷ entered_derivation ∷ looped_derivation ∷ []

-- the first round derives the times, and the size after rule 1
first_round : IsRound by_turned counting [] three
first_round = record {
  times = first_time ∷ second_time ∷ [];
  timed = (
    first_time ∷ [],
    answer_of_tries by_turned counting [] (TimeOf 1)
        (Found (RankBy (value_ranks (1 ∷ []) 1)) (time_key 0 ∷ key 0 1 ∷ []) down_time) refl first_time_answer,
    (
      second_time ∷ [],
      refl,
      (
        second_time ∷ [],
        answer_of_tries by_turned counting [] (TimeOf 2)
            (Found (RankBy (value_ranks (1 ∷ 2 ∷ []) 2)) (time_key 0 ∷ key 0 1 ∷ []) down_time) refl second_time_answer,
        ([], refl, refl),
      ),
    ),
  );
  components = turned;
  are_components = refl;
  live = parts.components_turned ranks_open turned;
  sizes = entered_derivation ∷ [];
  sized = (
    [],
    answer_of_tries by_turned counting (first_time ∷ second_time ∷ []) (SizesOf (key 2 1 ∷ []))
        (Lacks (OfSize (SizeMissing (key 1 1)))) refl
        (record { answer = Unsized (SizeMissing (key 1 1)); answered = refl; is_answer = refl }),
    (
      entered_derivation ∷ [],
      refl,
      (
        entered_derivation ∷ [],
        answer_of_tries by_turned counting (first_time ∷ second_time ∷ []) (SizesOf (key 1 1 ∷ [])) entered_answer refl
            (record { answer = SizedBy (SpreadBy entered_member); answered = refl; is_answer = refl }),
        ([], refl, refl),
      ),
    ),
  );
  all = refl;
}

-- the second round derives the size after rule 2
second_round : IsRound by_turned counting three (looped_derivation ∷ [])
second_round = record {
  times = [];
  timed = (
    [],
    known_tries by_turned counting three (TimeOf 1) refl,
    ([], refl, ([], known_tries by_turned counting three (TimeOf 2) refl, ([], refl, refl))),
  );
  components = turned;
  are_components = refl;
  live = parts.components_turned ranks_open turned;
  sizes = looped_derivation ∷ [];
  sized = (
    looped_derivation ∷ [],
    answer_of_tries by_turned counting three (SizesOf (key 2 1 ∷ [])) looped_answer refl
        (record { answer = SizedBy (CycleBy (looped_member ∷ [])); answered = refl; is_answer = refl }),
    ([], refl, ([], known_tries by_turned counting four (SizesOf (key 1 1 ∷ [])) refl, ([], refl, refl))),
  );
  all = refl;
}

-- the third round derives nothing
closed : IsClosed by_turned counting four
closed = record {
  times = [];
  timed = (
    [],
    known_tries by_turned counting four (TimeOf 1) refl,
    ([], refl, ([], known_tries by_turned counting four (TimeOf 2) refl, ([], refl, refl))),
  );
  components = turned;
  are_components = refl;
  live = parts.components_turned ranks_open turned;
  sizes = [];
  sized = (
    [],
    known_tries by_turned counting four (SizesOf (key 2 1 ∷ [])) refl,
    ([], refl, ([], known_tries by_turned counting four (SizesOf (key 1 1 ∷ [])) refl, ([], refl, refl))),
  );
  all = refl;
}

-- a time whose bound is 201 levels deep
large_time_answer : AnswersTime (searches_of (answers_with once_ranks alone)) towering (bounds_of towering.program []) 1
    (Lacks (OfTime (TimeLarge 201)))
large_time_answer =
    let set = set_there towering.program (bounds_of towering.program []) (Constant 1, refl) 1 parts.rule_1 in
    let shut = shut_there towering.program (bounds_of towering.program []) set.0 in
    record {
      asked = record {
        set = set.0;
        shut = shut.0;
        answer = Ranked once_node;
        is_set = set.1;
        are_shut = shut.1;
        answered = refl;
      };
      is_answer = (λ h. no_is_not_yes true h.after refl, refl);
    }

abbrev by_both : Searches
by_both = searches_of sized_together

-- both places are one component
to_alone : (t i : ℕ) → IsCovered (together ∷ []) t i → IsCovered alone t i
to_alone t i (inl m) =
    either (has_key-cases (key 1 1) (key 2 1 ∷ []) t i m)
    (λ e. subst (λ (k : ResultVariable). IsCovered alone k.rule k.place) e (inl refl)) (λ l. inr (inl l))
to_alone t i (inr x) = absurd x

from_alone : (t i : ℕ) → IsCovered alone t i → IsCovered (together ∷ []) t i
from_alone t i (inl m) =
    either (has_key-cases (key 1 1) [] t i m)
    (λ e. inl (subst (λ (k : ResultVariable). has_key together k.rule k.place ≡ true) e refl)) (λ n. absurd (false_true n))
from_alone t i (inr (inl m)) = inl (has_key-later (key 1 1) (key 2 1 ∷ []) t i m)
from_alone t i (inr (inr x)) = absurd x

both_live : AreComponentsOf by_both counting.program (together ∷ [])
both_live = record {
  is_empty = λ t. false;
  empty = λ t rule. (λ e. absurd (false_true e), λ h. absurd (not_empty t h.multipliers h.shown));
  ascending = All-cons AreResultVariablesAscending together [] (inl (omega arith), tt) (All-nil AreResultVariablesAscending);
  apart = (λ t i m x. x, tt);
  live = λ t i. (
    λ c. parts.covered_place t i (to_alone t i c),
    λ h. from_alone t i (parts.is_covered t i h.0 h.2),
  );
}
  where
    not_empty : (t : ℕ) (m : List ℕ) → sized_together.empty t ≡ NoPoint m → ⊥
    not_empty t m e = cc

-- ranking questions hit a limit, whatever their sets
hits_limit : (t : ℕ) → IsRule counting.program t
    → AnswersTime by_both counting nothing_known t (Lacks (OfTime (TimeHitLimit (limit_hit (asked.Rank t)))))
hits_limit t rule =
    let set = set_there counting.program nothing_known (Constant 1, refl) t rule in
    let shut = shut_there counting.program nothing_known set.0 in
    record {
      asked = record {
        set = set.0;
        shut = shut.0;
        answer = RankHitLimit (limit_hit (asked.Rank t));
        is_set = set.1;
        are_shut = shut.1;
        answered = refl;
      };
      is_answer = refl;
    }

both : IsRound by_both counting [] (sized_derivation together ∷ [])
both = record {
  times = [];
  timed = (
    [],
    answer_of_tries by_both counting [] (TimeOf 1) (Lacks (OfTime (TimeHitLimit (limit_hit (asked.Rank 1))))) refl (hits_limit 1 parts.rule_1),
    (
      [],
      refl,
      (
        [],
        answer_of_tries by_both counting [] (TimeOf 2) (Lacks (OfTime (TimeHitLimit (limit_hit (asked.Rank 2))))) refl
            (hits_limit 2 parts.rule_2),
        ([], refl, refl),
      ),
    ),
  );
  components = together ∷ [];
  are_components = refl;
  live = both_live;
  sizes = sized_derivation together ∷ [];
  sized = (
    sized_derivation together ∷ [],
    answer_of_tries by_both counting [] (SizesOf together)
        (Found loop_of_both (needs_of counting nothing_known loop_of_both)
        (composed_bound counting nothing_known loop_of_both)) refl
        (record { answer = SizedBy loop_of_both; answered = refl; is_answer = refl }),
    ([], refl, refl),
  );
  all = refl;
}

other : (xs : List Derivation) → IsRound by_both counting [] xs → xs ≡ sized_derivation together ∷ []
other xs h = round_one by_both (answers_one sized_together) counting [] xs (sized_derivation together ∷ []) h both

-- how many keys the first derivation has
abbrev first_keys : List Derivation → ℕ
first_keys [] = 0
first_keys (f ∷ fs) = length f.keys

pub last_rounds : LastRoundsAreWorkedOut
last_rounds = record {
  two_rounds = record {
    made = Made (Made (Begun (nothing_first ranks_open turned)) first_round) second_round;
    closed = closed;
  };
  not_in_one = λ h. in_one (round_one by_turned (answers_one value_turned) counting [] four three h first_round);
  large = record { missing = refl; target = TimeOf 1; asked = (parts.rule_1, refl); is_answer = large_time_answer };
  both = both;
  not_each = λ h. each (other (sized_derivation (key 1 1 ∷ []) ∷ sized_derivation (key 2 1 ∷ []) ∷ []) h);
  not_one_key = λ h. one_key (other (sized_derivation (key 1 1 ∷ []) ∷ []) h);
}
  where
    in_one : four ≡ three → ⊥
    in_one e = let n : ◌≡◌ {A = ℕ} 4 3 = ap length e in omega (arith, n)

    each : sized_derivation (key 1 1 ∷ []) ∷ sized_derivation (key 2 1 ∷ []) ∷ [] ≡ sized_derivation together ∷ [] → ⊥
    each e = let n : ◌≡◌ {A = ℕ} 2 1 = ap length e in omega (arith, n)

    one_key : sized_derivation (key 1 1 ∷ []) ∷ [] ≡ sized_derivation together ∷ [] → ⊥
    one_key e = let n : ◌≡◌ {A = ℕ} 1 2 = ap first_keys e in omega (arith, n)
