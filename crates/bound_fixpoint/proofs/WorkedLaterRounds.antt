-- Later rounds of the program that counts down, where the time of rule 1 is known at first.
use Rattle.std.proofs.Common.{◌≡◌, ℕ, List, [], ◌∷◌, length, refl, ap, arith}
use Rattle.rule_questions.specs.cert_rules.Nodes.{ResultVariable}
use Rattle.rule_questions.specs.cert_rules.WorkedSettings.{counting}
use Rattle.rule_questions.specs.cert_rules.Worked.{entered_size, entered_member, looped_member}
use Rattle.bound_fixpoint.specs.Keys.{key, time_key}
use Rattle.bound_fixpoint.specs.Derivations.{RankBy, SpreadBy, CycleBy, Derivation, bounds_of}
use Rattle.bound_fixpoint.specs.Searches.{Searches, searches_of, SizedBy, Unsized, OfTime, OfSize}
use Rattle.outcome.specs.Reports.{NoFunction, SizeMissing}
use Rattle.bound_fixpoint.specs.Answers.{TimeOf, SizesOf, Answer, Found, Lacks, AnswersTime}
use Rattle.bound_fixpoint.specs.Rounds.{TriesAll, Together, IsRound}
use Rattle.bound_fixpoint.specs.WorkedDerivations.{once_derivation, entered_derivation, looped_derivation, alone_time}
use Rattle.bound_fixpoint.specs.WorkedSets.{once_known, place}
use Rattle.bound_fixpoint.specs.WorkedRounds.{value_ranks, gap_over, ranks_open, alone, turned, value_where_open}
use Rattle.bound_fixpoint.specs.WorkedRounds.{value_turned, answers_with, later_time, LaterRoundsAreWorkedOut}
use Rattle.bound_fixpoint.proofs.RoundIsOne.{round_one}
use Rattle.bound_fixpoint.proofs.DerivationsAreOne.{answers_one}
use Rattle.bound_fixpoint.proofs.WorkedSets.{alone_set}
use Rattle.bound_fixpoint.proofs.WorkedShut.{none_shut_alone, open_places, one_shut}
use Rattle.bound_fixpoint.proofs.WorkedComponents as parts
use Rattle.bound_fixpoint.proofs.WorkedRounds.{answer_of_tries, known_tries, time-sound, closed_by, by_value, entered_answer}
use Rattle.bound_fixpoint.proofs.WorkedRounds.{looped_answer}

abbrev by_turned : Searches
by_turned = searches_of value_turned

-- these answers with any components
abbrev by_open : List (List ResultVariable) → Searches
by_open cs = searches_of (answers_with ranks_open cs)

-- rule 2 alone isn't ranked while its place is shut
abbrev shut_answer : Answer
shut_answer = Lacks (OfTime (NoFunction (gap_over (2 ∷ []) 2 (place 1 1 ∷ []))))

shut_time_answer : (cs : List (List ResultVariable)) → AnswersTime (by_open cs) counting once_known 2 shut_answer
shut_time_answer cs =
    time-sound ranks_open cs once_known 2 (2 ∷ []) (place 1 1 ∷ []) (alone_set once_known refl refl)
    (one_shut once_known refl) shut_answer refl

-- in the round the times aren't queried, or give no derivation
times_of_round : (cs : List (List ResultVariable)) → TriesAll (by_open cs) counting Together (once_derivation ∷ [])
    (TimeOf 1 ∷ TimeOf 2 ∷ []) []
times_of_round cs = (
  [],
  known_tries (by_open cs) counting (once_derivation ∷ []) (TimeOf 1) refl,
  (
    [],
    refl,
    (
      [],
      answer_of_tries (by_open cs) counting (once_derivation ∷ []) (TimeOf 2) shut_answer refl (shut_time_answer cs),
      ([], refl, refl),
    ),
  ),
)

-- the first round derives both sizes
sizes : IsRound by_value counting (once_derivation ∷ []) (entered_derivation ∷ looped_derivation ∷ [])
sizes = record {
  times = [];
  timed = times_of_round alone;
  components = alone;
  are_components = refl;
  live = parts.components ranks_open alone;
  sizes = entered_derivation ∷ looped_derivation ∷ [];
  sized = (
    entered_derivation ∷ [],
    answer_of_tries by_value counting (once_derivation ∷ []) (SizesOf (key 1 1 ∷ [])) entered_answer refl
        (record { answer = SizedBy (SpreadBy entered_member); answered = refl; is_answer = refl }),
    (
      looped_derivation ∷ [],
      refl,
      (
        looped_derivation ∷ [],
        answer_of_tries by_value counting (once_derivation ∷ entered_derivation ∷ []) (SizesOf (key 2 1 ∷ [])) looped_answer refl
            (record { answer = SizedBy (CycleBy (looped_member ∷ [])); answered = refl; is_answer = refl }),
        ([], refl, refl),
      ),
    ),
  );
  all = refl;
}

-- with the components in the other order, the first round derives only the size after rule 1
in_turn : IsRound by_turned counting (once_derivation ∷ []) (entered_derivation ∷ [])
in_turn = record {
  times = [];
  timed = times_of_round turned;
  components = turned;
  are_components = refl;
  live = parts.components_turned ranks_open turned;
  sizes = entered_derivation ∷ [];
  sized = (
    [],
    answer_of_tries by_turned counting (once_derivation ∷ []) (SizesOf (key 2 1 ∷ [])) (Lacks (OfSize (SizeMissing (key 1 1)))) refl
        (record { answer = Unsized (SizeMissing (key 1 1)); answered = refl; is_answer = refl }),
    (
      entered_derivation ∷ [],
      refl,
      (
        entered_derivation ∷ [],
        answer_of_tries by_turned counting (once_derivation ∷ []) (SizesOf (key 1 1 ∷ [])) entered_answer refl
            (record { answer = SizedBy (SpreadBy entered_member); answered = refl; is_answer = refl }),
        ([], refl, refl),
      ),
    ),
  );
  all = refl;
}

abbrev three : List Derivation
three = once_derivation ∷ entered_derivation ∷ looped_derivation ∷ []

-- with the sizes known, rule 2 is ranked over itself alone
abbrev later_answer : Answer
later_answer = Found (RankBy (value_ranks (2 ∷ []) 2)) (time_key 1 ∷ key 1 1 ∷ []) alone_time

later_time_answer : AnswersTime by_value counting (bounds_of counting.program three) 2 later_answer
later_time_answer =
    time-sound ranks_open alone (bounds_of counting.program three) 2 (2 ∷ []) []
    (alone_set (bounds_of counting.program three) refl refl)
    (open_places (bounds_of counting.program three) (2 ∷ [])
    (none_shut_alone (bounds_of counting.program three) entered_size refl)) later_answer
    (record { before = refl; after = refl }, refl, refl, refl)

time : IsRound by_value counting three (later_time ∷ [])
time = record {
  times = later_time ∷ [];
  timed = (
    [],
    known_tries by_value counting three (TimeOf 1) refl,
    (
      later_time ∷ [],
      refl,
      (
        later_time ∷ [],
        answer_of_tries by_value counting three (TimeOf 2) later_answer refl later_time_answer,
        ([], refl, refl),
      ),
    ),
  );
  components = alone;
  are_components = refl;
  live = parts.components ranks_open alone;
  sizes = [];
  sized = (
    [],
    known_tries by_value counting (once_derivation ∷ entered_derivation ∷ looped_derivation ∷ later_time ∷ [])
        (SizesOf (key 1 1 ∷ [])) refl,
    (
      [],
      refl,
      (
        [],
        known_tries by_value counting (once_derivation ∷ entered_derivation ∷ looped_derivation ∷ later_time ∷ [])
            (SizesOf (key 2 1 ∷ [])) refl,
        ([], refl, refl),
      ),
    ),
  );
  all = refl;
}

pub later_rounds : LaterRoundsAreWorkedOut
later_rounds = record {
  sizes = sizes;
  not_time_at_once = λ h. at_once (round_one by_value (answers_one value_where_open) counting (once_derivation ∷ [])
      (later_time ∷ entered_derivation ∷ looped_derivation ∷ []) (entered_derivation ∷ looped_derivation ∷ []) h sizes);
  time = time;
  not_again = λ h. again (round_one by_value (answers_one value_where_open) counting three
      (later_time ∷ entered_derivation ∷ looped_derivation ∷ []) (later_time ∷ []) h time);
  closed = closed_by (once_derivation ∷ entered_derivation ∷ looped_derivation ∷ later_time ∷ []) refl refl refl refl refl;
  in_turn = in_turn;
  not_too_early = λ h. early (round_one by_turned (answers_one value_turned) counting (once_derivation ∷ [])
      (looped_derivation ∷ entered_derivation ∷ []) (entered_derivation ∷ []) h in_turn);
}
  where
    at_once : later_time ∷ entered_derivation ∷ looped_derivation ∷ [] ≡ entered_derivation ∷ looped_derivation ∷ [] → ⊥
    at_once e = let n : ◌≡◌ {A = ℕ} 3 2 = ap length e in omega (arith, n)

    again : later_time ∷ entered_derivation ∷ looped_derivation ∷ [] ≡ later_time ∷ [] → ⊥
    again e = let n : ◌≡◌ {A = ℕ} 3 1 = ap length e in omega (arith, n)

    early : looped_derivation ∷ entered_derivation ∷ [] ≡ entered_derivation ∷ [] → ⊥
    early e = let n : ◌≡◌ {A = ℕ} 2 1 = ap length e in omega (arith, n)
