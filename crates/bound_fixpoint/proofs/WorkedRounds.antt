-- Rounds of the program that counts down.
use Rattle.std.proofs.Common.{◌≡◌, ◌⊎◌, inl, inr, ℕ, true, false, List, [], ◌∷◌, ◌++◌, length, map}
use Rattle.std.proofs.Common.{refl, sym, ◌∙◌, ap, subst, arith}
use Rattle.rule_questions.specs.cert_rules.Gaps.{SymbolPlace}
use Rattle.rule_questions.specs.cert_rules.Nodes.{ResultVariable}
use Rattle.rule_questions.specs.cert_rules.Setting.{Setting}
use Rattle.rule_questions.specs.cert_rules.WorkedSettings.{counting}
use Rattle.rule_questions.specs.cert_rules.Worked.{entered_size, looped_size, down_time, entered_member}
use Rattle.rule_questions.specs.cert_rules.Worked.{looped_member}
use Rattle.bound_fixpoint.specs.Keys.{Bounds, key, time_key}
use Rattle.bound_fixpoint.specs.Derivations.{RankBy, SpreadBy, CycleBy, Derivation, bounds_of}
use Rattle.bound_fixpoint.specs.Sets.{IsSetOfRule, AreShutOf}
use Rattle.bound_fixpoint.specs.Searches.{Searches, searches_of, NoPoint, Ranking}
use Rattle.bound_fixpoint.specs.Searches.{SizedBy}
use Rattle.bound_fixpoint.specs.Answers.{Target, TimeOf, SizesOf, is_open, Answer, Found, derivations_by}
use Rattle.bound_fixpoint.specs.Answers.{AnswersRanking, AnswersTime, AnswersTarget}
use Rattle.bound_fixpoint.specs.Beginning.{AreFirst}
use Rattle.bound_fixpoint.specs.Rounds.{Tries, TriesAll, InTurn, IsRound, IsClosed, Begun, Made}
use Rattle.bound_fixpoint.specs.WorkedDerivations.{once_derivation, entered_derivation, looped_derivation}
use Rattle.bound_fixpoint.specs.WorkedSets.{nothing_known}
use Rattle.bound_fixpoint.specs.WorkedRounds.{value_ranks, ranks_open, alone, answers_with}
use Rattle.bound_fixpoint.specs.WorkedRounds.{value_where_open, first_time, second_time}
use Rattle.bound_fixpoint.specs.WorkedRounds.{FirstRoundIsWorkedOut}
use Rattle.bound_fixpoint.proofs.Cases.{false_true}
use Rattle.bound_fixpoint.proofs.FirstIsOne.{first_one}
use Rattle.bound_fixpoint.proofs.RoundIsOne.{round_one}
use Rattle.bound_fixpoint.proofs.DerivationsAreOne.{answers_one, made_of_two}
use Rattle.bound_fixpoint.proofs.WorkedSets.{first as first_set, second as second_set}
use Rattle.bound_fixpoint.proofs.WorkedShut.{none_shut, none_shut_first, open_places}
use Rattle.bound_fixpoint.proofs.WorkedComponents as parts

-- querying a target whose bound is missing gives the derivations of the result
pub answer_of_tries : (q : Searches) (s : Setting) (fs : List Derivation) (g : Target) (a : Answer)
    → is_open (bounds_of s.program fs) g ≡ true → AnswersTarget q s (bounds_of s.program fs) g a → Tries q s fs g (derivations_by g a)
answer_of_tries q s fs g a e is_answer =
    record { known = λ k. absurd (false_true (sym k ∙ e)); tried = λ k. (a, is_answer, refl) }

-- querying a target whose bounds are known gives no derivation
pub known_tries : (q : Searches) (s : Setting) (fs : List Derivation) (g : Target)
    → is_open (bounds_of s.program fs) g ≡ false → Tries q s fs g []
known_tries q s fs g e = record { known = λ k. refl; tried = λ k. absurd (false_true (sym e ∙ k)) }

-- lists of different lengths differ
lengths : (xs ys : List Derivation) → xs ≡ ys → length xs ≡ length ys
lengths xs ys e = ap length e

-- the rule of the first key
abbrev rule_of_keys : List ResultVariable → ℕ
rule_of_keys [] = 0
rule_of_keys (k ∷ keys) = k.rule

abbrev first_rule : List Derivation → ℕ
first_rule [] = 0
first_rule (f ∷ fs) = rule_of_keys f.keys

module _ (rank : List ℕ → ℕ → List SymbolPlace → Ranking) (cs : List (List ResultVariable)) where
  abbrev pub q : Searches
  q = searches_of (answers_with rank cs)

  -- the rank question of a rule has its answer
  pub time-sound : (bs : Bounds) (t : ℕ) (set : List ℕ) (shut : List SymbolPlace) → IsSetOfRule counting.program bs t set
      → AreShutOf counting.program bs set shut → (a : Answer) → AnswersRanking counting bs (rank set t shut) a
      → AnswersTime q counting bs t a
  time-sound bs t set shut is are a is_answer = record {
    asked = record {
      set = set;
      shut = shut;
      answer = rank set t shut;
      is_set = is;
      are_shut = are;
      answered = refl;
    };
    is_answer = is_answer;
  }

  -- before the first round there are no derivations
  pub nothing_first : AreFirst q counting.program []
  nothing_first = record {
    is_empty = λ t. false;
    empty = λ t rule. (λ e. absurd (false_true e), λ h. absurd (not_empty t h.multipliers h.shown));
    is_unreached = λ t. false;
    unreached = λ t rule e. (λ u. absurd (false_true u), λ u. absurd (parts.alive t rule (inr u)));
    empties = [];
    are_empties = refl;
    in_order = refl;
  }
    where
      not_empty : (t : ℕ) (m : List ℕ) → (answers_with rank cs).empty t ≡ NoPoint m → ⊥
      not_empty t m e = cc

abbrev pub by_value : Searches
by_value = searches_of value_where_open

-- over no bounds both rules are ranked, each over its set
first_time_answer : AnswersTime by_value counting nothing_known 1
    (Found (RankBy (value_ranks (1 ∷ []) 1)) (time_key 0 ∷ key 0 1 ∷ []) down_time)
first_time_answer =
    time-sound ranks_open alone nothing_known 1 (1 ∷ []) [] first_set
    (open_places nothing_known (1 ∷ []) (none_shut_first nothing_known refl))
    (Found (RankBy (value_ranks (1 ∷ []) 1)) (time_key 0 ∷ key 0 1 ∷ []) down_time)
    (record { before = refl; after = refl }, refl, refl, refl)

second_time_answer : AnswersTime by_value counting nothing_known 2
    (Found (RankBy (value_ranks (1 ∷ 2 ∷ []) 2)) (time_key 0 ∷ key 0 1 ∷ []) down_time)
second_time_answer =
    time-sound ranks_open alone nothing_known 2 (1 ∷ 2 ∷ []) [] second_set
    (open_places nothing_known (1 ∷ 2 ∷ []) (none_shut nothing_known refl))
    (Found (RankBy (value_ranks (1 ∷ 2 ∷ []) 2)) (time_key 0 ∷ key 0 1 ∷ []) down_time)
    (record { before = refl; after = refl }, refl, refl, refl)

-- with the time of rule 1 the size after it is derived, and with that size the one after rule 2
abbrev pub entered_answer : Answer
entered_answer = Found (SpreadBy entered_member) (key 0 1 ∷ key 0 1 ∷ []) entered_size

abbrev pub looped_answer : Answer
looped_answer = Found (CycleBy (looped_member ∷ [])) (key 1 1 ∷ []) looped_size

round : IsRound by_value counting [] (first_time ∷ second_time ∷ entered_derivation ∷ looped_derivation ∷ [])
round = record {
  times = first_time ∷ second_time ∷ [];
  timed = (
    first_time ∷ [],
    answer_of_tries by_value counting [] (TimeOf 1)
        (Found (RankBy (value_ranks (1 ∷ []) 1)) (time_key 0 ∷ key 0 1 ∷ []) down_time) refl first_time_answer,
    (
      second_time ∷ [],
      refl,
      (
        second_time ∷ [],
        answer_of_tries by_value counting [] (TimeOf 2)
            (Found (RankBy (value_ranks (1 ∷ 2 ∷ []) 2)) (time_key 0 ∷ key 0 1 ∷ []) down_time) refl second_time_answer,
        ([], refl, refl),
      ),
    ),
  );
  components = alone;
  are_components = refl;
  live = parts.components ranks_open alone;
  sizes = entered_derivation ∷ looped_derivation ∷ [];
  sized = (
    entered_derivation ∷ [],
    answer_of_tries by_value counting (first_time ∷ second_time ∷ []) (SizesOf (key 1 1 ∷ [])) entered_answer refl
        (record { answer = SizedBy (SpreadBy entered_member); answered = refl; is_answer = refl }),
    (
      looped_derivation ∷ [],
      refl,
      (
        looped_derivation ∷ [],
        answer_of_tries by_value counting (first_time ∷ second_time ∷ entered_derivation ∷ []) (SizesOf (key 2 1 ∷ []))
            looped_answer refl
            (record { answer = SizedBy (CycleBy (looped_member ∷ [])); answered = refl; is_answer = refl }),
        ([], refl, refl),
      ),
    ),
  );
  all = refl;
}

-- if all bounds are known, a round derives nothing
pub closed_by : (fs : List Derivation) → is_open (bounds_of counting.program fs) (TimeOf 1) ≡ false
    → is_open (bounds_of counting.program fs) (TimeOf 2) ≡ false
    → fs ++ [] ≡ fs
    → is_open (bounds_of counting.program fs) (SizesOf (key 1 1 ∷ [])) ≡ false
    → is_open (bounds_of counting.program fs) (SizesOf (key 2 1 ∷ [])) ≡ false → IsClosed by_value counting fs
closed_by fs a b same c d = record {
  times = [];
  timed = (
    [],
    known_tries by_value counting fs (TimeOf 1) a,
    ([], refl, ([], known_tries by_value counting fs (TimeOf 2) b, ([], refl, refl))),
  );
  components = alone;
  are_components = refl;
  live = parts.components ranks_open alone;
  sizes = [];
  sized = subst (λ (gs : List Derivation). TriesAll by_value counting InTurn gs (map SizesOf alone) []) (sym same) sized;
  all = refl;
}
  where
    last : TriesAll by_value counting InTurn (fs ++ []) (SizesOf (key 2 1 ∷ []) ∷ []) []
    last =
        subst (λ (gs : List Derivation). TriesAll by_value counting InTurn gs (SizesOf (key 2 1 ∷ []) ∷ []) []) (sym same)
        ([], known_tries by_value counting fs (SizesOf (key 2 1 ∷ [])) d, ([], refl, refl))

    sized : TriesAll by_value counting InTurn fs (map SizesOf alone) []
    sized = ([], known_tries by_value counting fs (SizesOf (key 1 1 ∷ [])) c, ([], refl, last))

abbrev four : List Derivation
four = first_time ∷ second_time ∷ entered_derivation ∷ looped_derivation ∷ []

-- any other list isn't that of a round
other : (xs : List Derivation) → IsRound by_value counting [] xs → xs ≡ four
other xs h = round_one by_value (answers_one value_where_open) counting [] xs four h round

pub first_round : FirstRoundIsWorkedOut
first_round = record {
  first = nothing_first ranks_open alone;
  not_known_too_early = too_early;
  round = round;
  last = record {
    made = Made (Begun (nothing_first ranks_open alone)) round;
    closed = closed_by four refl refl refl refl refl;
  };
  not_made = λ h. made (made_of_two by_value (answers_one value_where_open) counting [] four
      (nothing_first ranks_open alone) round (closed_by four refl refl refl refl refl) (once_derivation ∷ []) h);
  not_last_at_first = λ h. nothing (other [] h.closed);
  not_too_many = λ h. many (other (first_time ∷ second_time ∷ entered_derivation ∷ looped_derivation ∷ looped_derivation ∷ []) h);
  not_too_few = λ h. few (other (first_time ∷ second_time ∷ entered_derivation ∷ []) h);
  not_in_turn = λ h. turn (other (second_time ∷ first_time ∷ entered_derivation ∷ looped_derivation ∷ []) h);
  not_sizes_by_old_times = λ h. two (other (first_time ∷ second_time ∷ []) h);
  not_times_by_new_times = λ h. three (other (first_time ∷ entered_derivation ∷ looped_derivation ∷ []) h);
}
  where
    too_early : AreFirst by_value counting.program (once_derivation ∷ []) → ⊥
    too_early h =
        let same = first_one by_value (answers_one value_where_open) counting.program (once_derivation ∷ []) [] h
        (nothing_first ranks_open alone) in
        let n : ◌≡◌ {A = ℕ} 1 0 = lengths (once_derivation ∷ []) [] same in omega (arith, n)

    made : (once_derivation ∷ [] ≡ []) ⊎ (once_derivation ∷ [] ≡ four) → ⊥
    made (inl e) = let n : ◌≡◌ {A = ℕ} 1 0 = ap length e in omega (arith, n)
    made (inr e) = let n : ◌≡◌ {A = ℕ} 1 4 = ap length e in omega (arith, n)

    nothing : [] ≡ four → ⊥
    nothing e = let n : ◌≡◌ {A = ℕ} 0 4 = lengths [] four e in omega (arith, n)

    many : first_time ∷ second_time ∷ entered_derivation ∷ looped_derivation ∷ looped_derivation ∷ [] ≡ four → ⊥
    many e = let n : ◌≡◌ {A = ℕ} 5 4 = ap length e in omega (arith, n)

    few : first_time ∷ second_time ∷ entered_derivation ∷ [] ≡ four → ⊥
    few e = let n : ◌≡◌ {A = ℕ} 3 4 = ap length e in omega (arith, n)

    turn : second_time ∷ first_time ∷ entered_derivation ∷ looped_derivation ∷ [] ≡ four → ⊥
    turn e = let n : ◌≡◌ {A = ℕ} 2 1 = ap first_rule e in omega (arith, n)

    two : first_time ∷ second_time ∷ [] ≡ four → ⊥
    two e = let n : ◌≡◌ {A = ℕ} 2 4 = ap length e in omega (arith, n)

    three : first_time ∷ entered_derivation ∷ looped_derivation ∷ [] ≡ four → ⊥
    three e = let n : ◌≡◌ {A = ℕ} 3 4 = ap length e in omega (arith, n)
