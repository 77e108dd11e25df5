-- Rounds of a program that counts down, worked out by hand: k(A) -> l(A), and l(A) -> l(A - 1) where A >= 1.
use Rattle.std.specs.Prelude.{ℕ, ◌==◌, cond, List, [], ◌∷◌, pos}
use Rattle.rule_questions.specs.cert_rules.Nodes.{ResultVariable, RankNode}
use Rattle.rule_questions.specs.cert_rules.Gaps.{SymbolPlace, Gap}
use Rattle.rule_questions.specs.cert_rules.WorkedSettings.{counting, form}
use Rattle.rule_questions.specs.cert_rules.Worked.{down_time, entered_member, looped_member}
use Rattle.bound_fixpoint.specs.Keys.{Bounds, key, time_key, lacks}
use Rattle.bound_fixpoint.specs.Derivations.{SpreadBy, CycleBy, Derivation}
use Rattle.bound_fixpoint.specs.Searches.{Answers, HasPoint, Ranking, Ranked, Unranked, SizeOutcome, SizedBy, Unsized}
use Rattle.bound_fixpoint.specs.Searches.{OfTime, OfSize, searches_of}
use Rattle.outcome.specs.Reports.{NoFunction, TimeLarge, SizeMissing, SizeUntimed}
use Rattle.bound_fixpoint.specs.Components.{AreComponentsOf}
use Rattle.bound_fixpoint.specs.Beginning.{AreFirst}
use Rattle.bound_fixpoint.specs.Rounds.{IsRound, IsMade, IsClosed, IsLast, IsNoBound}
use Rattle.bound_fixpoint.specs.WorkedDerivations.{once_derivation, entered_derivation, looped_derivation, alone_time}
use Rattle.bound_fixpoint.specs.WorkedJustification.{ranked_derivation}

-- the value of the argument ranks a rule over a set
abbrev pub value_ranks : List ℕ → ℕ → RankNode
value_ranks set t = record {
  rule = t;
  set = set;
  den = 1;
  forms =
      record { symbol = 0; form = form (pos 1 ∷ []) (pos 0) } ∷
      record { symbol = 1; form = form (pos 1 ∷ []) (pos 0) } ∷ [];
  moves = [];
  floor = [];
}

-- a gap without points
abbrev pub gap_over : List ℕ → ℕ → List SymbolPlace → Gap
gap_over set t shut = record {
  rule = t;
  set = set;
  shut = shut;
  moves = [];
  floor = record { parts = []; den = 0 };
  kept = [];
}

-- the value ranks where no place is shut, and else nothing does; or nothing ranks anywhere
abbrev pub ranks_open : List ℕ → ℕ → List SymbolPlace → Ranking
ranks_open set t [] = Ranked (value_ranks set t)
ranks_open set t (s ∷ shut) = Unranked (gap_over set t (s ∷ shut))

abbrev pub never_ranks : List ℕ → ℕ → List SymbolPlace → Ranking
never_ranks set t shut = Unranked (gap_over set t shut)

-- each place is a component of its own, in the order of rules, and turned round
abbrev pub alone : List (List ResultVariable)
alone = (key 1 1 ∷ []) ∷ (key 2 1 ∷ []) ∷ []

abbrev pub turned : List (List ResultVariable)
turned = (key 2 1 ∷ []) ∷ (key 1 1 ∷ []) ∷ []

-- the size after rule 1 is found where its time is known, and that after rule 2 where that after rule 1 is
abbrev pub after_first : Bounds → SizeOutcome
after_first b = cond (lacks (b 1 0)) (Unsized (SizeUntimed 1)) (SizedBy (SpreadBy entered_member))

abbrev pub after_second : Bounds → SizeOutcome
after_second b = cond (lacks (b 1 1)) (Unsized (SizeMissing (key 1 1))) (SizedBy (CycleBy (looped_member ∷ [])))

abbrev pub size_in_turn : Bounds → List ResultVariable → SizeOutcome
size_in_turn b [] = Unsized (SizeUntimed 1)
size_in_turn b (m ∷ keys) = cond (m.rule == 1) (after_first b) (after_second b)

-- answers by which each rule is feasible, rules are ranked in this way, and these are the components
abbrev pub answers_with : (List ℕ → ℕ → List SymbolPlace → Ranking) → List (List ResultVariable) → Answers
answers_with rank components = record {
  empty = λ t. HasPoint (record { parts = []; den = 1 });
  rank = rank;
  components = components;
  size = size_in_turn;
}

abbrev pub value_where_open : Answers
value_where_open = answers_with ranks_open alone

abbrev pub value_turned : Answers
value_turned = answers_with ranks_open turned

abbrev pub nothing_ranks : Answers
nothing_ranks = answers_with never_ranks alone

-- the times of rule 1, by the value over itself, and of rule 2, by the value over both rules: each is the start
-- argument
abbrev pub first_time : Derivation
first_time = ranked_derivation (time_key 1 ∷ []) (value_ranks (1 ∷ []) 1) (time_key 0 ∷ key 0 1 ∷ []) down_time

abbrev pub second_time : Derivation
second_time = ranked_derivation (time_key 2 ∷ []) (value_ranks (1 ∷ 2 ∷ []) 2) (time_key 0 ∷ key 0 1 ∷ []) down_time

-- the time of rule 2 by the value over itself alone
abbrev pub later_time : Derivation
later_time = ranked_derivation (time_key 2 ∷ []) (value_ranks (2 ∷ []) 2) (time_key 1 ∷ key 1 1 ∷ []) alone_time

-- a round over no derivations derives both times, each over no bounds, and then both sizes, with the new times and the
-- sizes so far; a second one derives nothing. No list with one derivation more or less is that of a round, nor one in
-- another order; nor is one where sizes are queried with the times from before, or times with the new ones
pub record FirstRoundIsWorkedOut : Type 0 where
  pub first : AreFirst (searches_of value_where_open) counting.program []
  pub not_known_too_early : ¬ (AreFirst (searches_of value_where_open) counting.program (once_derivation ∷ []))
  pub round : IsRound (searches_of value_where_open) counting []
      (first_time ∷ second_time ∷ entered_derivation ∷ looped_derivation ∷ [])
  pub last : IsLast (searches_of value_where_open) counting
      (first_time ∷ second_time ∷ entered_derivation ∷ looped_derivation ∷ [])
  pub not_made : ¬ (IsMade (searches_of value_where_open) counting (once_derivation ∷ []))
  pub not_last_at_first : ¬ (IsLast (searches_of value_where_open) counting [])
  pub not_too_many : ¬ (IsRound (searches_of value_where_open) counting []
      (first_time ∷ second_time ∷ entered_derivation ∷ looped_derivation ∷ looped_derivation ∷ []))
  pub not_too_few : ¬ (IsRound (searches_of value_where_open) counting []
      (first_time ∷ second_time ∷ entered_derivation ∷ []))
  pub not_in_turn : ¬ (IsRound (searches_of value_where_open) counting []
      (second_time ∷ first_time ∷ entered_derivation ∷ looped_derivation ∷ []))
  pub not_sizes_by_old_times : ¬ (IsRound (searches_of value_where_open) counting [] (first_time ∷ second_time ∷ []))
  pub not_times_by_new_times : ¬ (IsRound (searches_of value_where_open) counting []
      (first_time ∷ entered_derivation ∷ looped_derivation ∷ []))

-- if the time of rule 1 is known at first, rule 2 is alone: its place is shut, so the round derives only the sizes,
-- and the next one the time. If the components are queried in another order, the size of rule 2 waits for the next
-- round
pub record LaterRoundsAreWorkedOut : Type 0 where
  pub sizes : IsRound (searches_of value_where_open) counting (once_derivation ∷ []) (entered_derivation ∷ looped_derivation ∷ [])
  pub not_time_at_once : ¬ (IsRound (searches_of value_where_open) counting (once_derivation ∷ [])
      (later_time ∷ entered_derivation ∷ looped_derivation ∷ []))
  pub time : IsRound (searches_of value_where_open) counting (once_derivation ∷ entered_derivation ∷ looped_derivation ∷ [])
      (later_time ∷ [])
  pub not_again : ¬ (IsRound (searches_of value_where_open) counting (once_derivation ∷ entered_derivation ∷ looped_derivation ∷ [])
      (later_time ∷ entered_derivation ∷ looped_derivation ∷ []))
  pub closed : IsClosed (searches_of value_where_open) counting
      (once_derivation ∷ entered_derivation ∷ looped_derivation ∷ later_time ∷ [])
  pub in_turn : IsRound (searches_of value_turned) counting (once_derivation ∷ []) (entered_derivation ∷ [])
  pub not_too_early : ¬ (IsRound (searches_of value_turned) counting (once_derivation ∷ []) (looped_derivation ∷ entered_derivation ∷ []))

-- each place after a rule is in one component; if no rule can be ranked, the initial derivations are the last: each
-- rule has no time by the gap of its set, and each size is missing for its own reason. There is no other reason, and a
-- known bound, or a key that is no place, has none
pub record ReasonsAreWorkedOut : Type 0 where
  pub components : AreComponentsOf (searches_of nothing_ranks) counting.program alone
  pub not_lacking : ¬ (AreComponentsOf (searches_of nothing_ranks) counting.program ((key 1 1 ∷ []) ∷ []))
  pub not_twice : ¬ (AreComponentsOf (searches_of nothing_ranks) counting.program
      ((key 1 1 ∷ []) ∷ (key 1 1 ∷ []) ∷ (key 2 1 ∷ []) ∷ []))
  pub not_descending : ¬ (AreComponentsOf (searches_of nothing_ranks) counting.program
      ((key 2 1 ∷ key 1 1 ∷ []) ∷ []))
  pub not_of_entry : ¬ (AreComponentsOf (searches_of nothing_ranks) counting.program
      ((key 0 1 ∷ []) ∷ (key 1 1 ∷ []) ∷ (key 2 1 ∷ []) ∷ []))
  pub last : IsLast (searches_of nothing_ranks) counting []
  pub first_time : IsNoBound (searches_of nothing_ranks) counting [] 1 0 (OfTime (NoFunction (gap_over (1 ∷ []) 1 [])))
  pub second_time : IsNoBound (searches_of nothing_ranks) counting [] 2 0
      (OfTime (NoFunction (gap_over (1 ∷ 2 ∷ []) 2 [])))
  pub first_size : IsNoBound (searches_of nothing_ranks) counting [] 1 1 (OfSize (SizeUntimed 1))
  pub second_size : IsNoBound (searches_of nothing_ranks) counting [] 2 1 (OfSize (SizeMissing (key 1 1)))
  pub not_alone : ¬ (IsNoBound (searches_of nothing_ranks) counting [] 2 0
      (OfTime (NoFunction (gap_over (2 ∷ []) 2 []))))
  pub not_large : ¬ (IsNoBound (searches_of nothing_ranks) counting [] 2 0 (OfTime (TimeLarge 5)))
  pub not_untimed : ¬ (IsNoBound (searches_of nothing_ranks) counting [] 2 1 (OfSize (SizeUntimed 1)))
  pub not_known : ¬ (IsNoBound (searches_of nothing_ranks) counting (once_derivation ∷ []) 1 0
      (OfTime (NoFunction (gap_over (1 ∷ []) 1 []))))
  pub not_elsewhere : ¬ (IsNoBound (searches_of nothing_ranks) counting [] 2 2 (OfSize (SizeMissing (key 1 1))))
