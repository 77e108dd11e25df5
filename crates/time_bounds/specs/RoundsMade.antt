-- The rounds of a program: the results before the first one, and those of each.
use Rattle.std.specs.Prelude.{◌≡◌, List, ◌++◌, length, map, Option}
use Rattle.cert_types.specs.cert_program.Setting.{setting_of}
use Rattle.bound_fixpoint.specs.Keys.{Bounds, rule_numbers}
use Rattle.bound_fixpoint.specs.Derivations as plain
use Rattle.bound_fixpoint.specs.Answers.{TimeOf, SizesOf}
use Rattle.bound_fixpoint.specs.Rounds.{TriesAll, Together, InTurn, IsRound, IsMade}
use Rattle.bound_derivations.specs.declared.derivation.Derivation.{Derivation}
use Rattle.bound_derivations.specs.Views.{derivations_of}
use Rattle.time_bounds.specs.declared.asking.AnsweredRankQuestion.{AnsweredRankQuestion}
use Rattle.time_bounds.specs.declared.candidates.Candidate.{Candidate}
use Rattle.time_bounds.specs.declared.context.Context.{Context}
use Rattle.time_bounds.specs.declared.rounds.LastRound.{LastRound}
use Rattle.time_bounds.specs.declared.sizing.ComponentAttempt.{ComponentAttempt}
use Rattle.time_bounds.specs.Candidates.{result_variables_in}
use Rattle.time_bounds.specs.ProgramSearches.{searches_of_program}
use Rattle.time_bounds.specs.Questions.{AreAnsweredFrom, program_in}
use Rattle.time_bounds.specs.EarlierAnswers.{WereAttempts}
use Rattle.time_bounds.specs.TriedRules.{AreAskedOver}

-- the bounds that are known with derivations
abbrev pub known_with : Context → List Derivation → Bounds
known_with cx fs = plain.bounds_of (program_in cx) (derivations_of fs)

-- the derivations are made by rounds of the program
abbrev pub AreMade : Context → List Derivation → Type 0
AreMade cx fs = IsMade (searches_of_program (program_in cx) cx.pivots) (setting_of (program_in cx)) (derivations_of fs)

-- the derivations are made by rounds, followed by the times of a further one
pub record AreMadeWithTimes (cx : Context) (fs : List Derivation) : Type 0 where
  pub earlier : List plain.Derivation
  pub made : IsMade (searches_of_program (program_in cx) cx.pivots) (setting_of (program_in cx)) earlier
  pub times : List plain.Derivation
  pub timed : TriesAll (searches_of_program (program_in cx) cx.pivots) (setting_of (program_in cx)) Together earlier
      (map TimeOf (rule_numbers (program_in cx))) times
  pub all : derivations_of fs ≡ earlier ++ times

-- these are answered questions of rules, or none, over earlier derivations; and these were the earlier attempts at
-- components
pub record AreKeptFor (cx : Context) (cs : List Candidate) (fs : List Derivation) (kept : LastRound) : Type 0 where
  pub one_each : length kept.asked.items ≡ length (program_in cx).rules
  pub answered : AreAnsweredFrom (program_in cx) cx.pivots cx.empties.items 1 kept.asked.items
  pub first : Bounds
  pub attempts : WereAttempts (program_in cx) cx.pivots first (known_with cx fs) cs kept.attempts.items

-- the rules were tried over derivations, and these questions are kept
pub record AreTimesMade (cx : Context) (old new : List Derivation) (asked : List (Option AnsweredRankQuestion)) : Type 0 where
  pub times : List plain.Derivation
  pub timed : TriesAll (searches_of_program (program_in cx) cx.pivots) (setting_of (program_in cx)) Together
      (derivations_of old) (map TimeOf (rule_numbers (program_in cx))) times
  pub grown : derivations_of new ≡ derivations_of old ++ times
  pub one_each : length asked ≡ length (program_in cx).rules
  pub asked_are : AreAskedOver (program_in cx) (known_with cx old) (known_with cx new) cx.pivots cx.empties.items 1
      asked

-- the components were tried one after the other, with these attempts
pub record AreSizesMade (cx : Context) (cs : List Candidate) (old new : List Derivation) (attempts : List ComponentAttempt)
    : Type 0 where
  pub sizes : List plain.Derivation
  pub sized : TriesAll (searches_of_program (program_in cx) cx.pivots) (setting_of (program_in cx)) InTurn
      (derivations_of old) (map SizesOf (map result_variables_in cs)) sizes
  pub grown : derivations_of new ≡ derivations_of old ++ sizes
  pub one_each : length attempts ≡ length cs
  pub attempts_are : WereAttempts (program_in cx) cx.pivots (known_with cx old) (known_with cx new) cs attempts

-- a round was made over derivations, with these results for each rule and each component
pub record IsRoundMade (cx : Context) (cs : List Candidate) (old new : List Derivation) (kept : LastRound) : Type 0 where
  pub more : List plain.Derivation
  pub round : IsRound (searches_of_program (program_in cx) cx.pivots) (setting_of (program_in cx)) (derivations_of old) more
  pub grown : derivations_of new ≡ derivations_of old ++ more
  pub one_each : length kept.asked.items ≡ length (program_in cx).rules
  pub asked : AreAskedOver (program_in cx) (known_with cx old) (known_with cx new) cx.pivots cx.empties.items 1
      kept.asked.items
  pub tried : length kept.attempts.items ≡ length cs
  pub attempts : WereAttempts (program_in cx) cx.pivots (known_with cx old) (known_with cx new) cs kept.attempts.items
