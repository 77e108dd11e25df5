-- Rounds of the program that counts down, worked out by hand: k(A) -> l(A), and l(A) -> l(A - 1) where A >=
-- 1. Two rounds one after the other, a time that is too large, and a component of two members.
use Rattle.std.specs.Prelude.{ℕ, List, [], ◌∷◌}
use Rattle.rule_questions.specs.cert_rules.Gaps.{SymbolPlace}
use Rattle.rule_questions.specs.cert_rules.Nodes.{ResultVariable}
use Rattle.rule_questions.specs.cert_rules.WorkedSettings.{counting}
use Rattle.rule_questions.specs.cert_rules.WorkedReasons.{towering}
use Rattle.rule_questions.specs.cert_rules.Worked.{once_node, entered_member, looped_member}
use Rattle.bound_fixpoint.specs.Keys.{key}
use Rattle.bound_fixpoint.specs.Derivations.{Node, CycleBy, Derivation}
use Rattle.bound_fixpoint.specs.Needs.{needs_of}
use Rattle.bound_fixpoint.specs.Justification.{composed_bound}
use Rattle.bound_fixpoint.specs.Searches.{Answers, HasPoint, Ranking, Ranked, SizedBy, OfTime, searches_of}
use Rattle.outcome.specs.Reports.{TimeLarge}
use Rattle.bound_fixpoint.specs.Rounds.{IsRound, IsLast, IsNoBound}
use Rattle.bound_fixpoint.specs.WorkedDerivations.{entered_derivation, looped_derivation}
use Rattle.bound_fixpoint.specs.WorkedFirst.{all_hits_limit}
use Rattle.bound_fixpoint.specs.WorkedSets.{nothing_known}
use Rattle.bound_fixpoint.specs.WorkedRounds.{answers_with, alone, value_turned, first_time, second_time}

-- the function 1 ranks every rule
abbrev pub once_ranks : List ℕ → ℕ → List SymbolPlace → Ranking
once_ranks set t shut = Ranked once_node

-- both places are one component, and get their size by one loop node; ranking questions hit a limit
abbrev pub together : List ResultVariable
together = key 1 1 ∷ key 2 1 ∷ []

abbrev pub loop_of_both : Node
loop_of_both = CycleBy (entered_member ∷ looped_member ∷ [])

abbrev pub sized_together : Answers
sized_together = record {
  empty = λ t. HasPoint (record { parts = []; den = 1 });
  rank = all_hits_limit.rank;
  components = together ∷ [];
  size = λ b keys. SizedBy loop_of_both;
}

-- the derivation of the size of these keys over no bounds
abbrev pub sized_derivation : List ResultVariable → Derivation
sized_derivation keys = record {
  keys = keys;
  node = loop_of_both;
  premises = needs_of counting nothing_known loop_of_both;
  bound = composed_bound counting nothing_known loop_of_both;
}

-- where the second component comes first, its size waits for the next round; so the last derivations are made by two
-- rounds, and not by one. A time that is too large is missing for that reason. The members of a component get their
-- size by one derivation, not by one each, nor one of them alone
pub record LastRoundsAreWorkedOut : Type 0 where
  pub two_rounds : IsLast (searches_of value_turned) counting
      (first_time ∷ second_time ∷ entered_derivation ∷ looped_derivation ∷ [])
  pub not_in_one : ¬ (IsRound (searches_of value_turned) counting []
      (first_time ∷ second_time ∷ entered_derivation ∷ looped_derivation ∷ []))
  pub large : IsNoBound (searches_of (answers_with once_ranks alone)) towering [] 1 0 (OfTime (TimeLarge 201))
  pub both : IsRound (searches_of sized_together) counting [] (sized_derivation together ∷ [])
  pub not_each : ¬ (IsRound (searches_of sized_together) counting []
      (sized_derivation (key 1 1 ∷ []) ∷ sized_derivation (key 2 1 ∷ []) ∷ []))
  pub not_one_key : ¬ (IsRound (searches_of sized_together) counting [] (sized_derivation (key 1 1 ∷ []) ∷ []))
