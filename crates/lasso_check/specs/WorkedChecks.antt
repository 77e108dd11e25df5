-- Worked values of verdicts on lassos, right and wrong ones.
use Rattle.std.specs.Prelude.{◌≡◌, ℕ, List, [], ◌∷◌, map, ℤ, pos, negsuc, Some}
use Rattle.its_model.specs.model.Terms.{Variable}
use Rattle.its_model.specs.model.Programs.{Rule, Program}
use Rattle.its_model.specs.model.Runs.{Step}
use Rattle.its_model.specs.model.Worked.{by_rule, two_values}
use Rattle.its_model.specs.Steps.{StepFault, OtherRule, AtomFails, PastRange}
use Rattle.lassos.specs.Worked.{one_place_rule, looping_by, less_one, squared}
use Rattle.lasso_check.specs.Lassos.{Lasso}
use Rattle.lasso_check.specs.Checks.{IsFirstDifference, Verdict, Round, Bad, OpenAt}
use Rattle.lasso_check.specs.CheckAnswers.{HasVerdict}

-- the lasso from one start value, whose stem and turn are by these rules
abbrev pub along : ℤ → List ℕ → List ℕ → Lasso
along z stem turn = record { start = z ∷ []; stem = map by_rule stem; turn = map by_rule turn }

-- a turn that leads back, with these rules and at this cost; and the first bad step with this number and this fault
abbrev pub round : List ℕ → ℕ → Verdict
round rules cost = Round (record { rules = rules; cost = cost })

abbrev pub bad : ℕ → StepFault → Verdict
bad number fault = Bad (record { number = number; fault = fault })

-- l0(A) -> l1(A), l1(A) -{A}> l2(A), l2(A) -> l1(A) and l1(A) -> l1(A - 1)
abbrev pub entering : Rule
entering = one_place_rule 0 1 (Variable 0) []

abbrev pub leaving : Rule
leaving = record (one_place_rule 1 2 (Variable 0) []) { cost = Some (Variable 0) }

abbrev pub returning : Rule
returning = one_place_rule 2 1 (Variable 0) []

abbrev pub falling : Rule
falling = one_place_rule 1 1 less_one []

abbrev pub circling : Program
circling = record {
  symbols = record { name = 108 ∷ 48 ∷ []; arity = 1 } ∷ record { name = 108 ∷ 49 ∷ []; arity = 1 }
      ∷ record { name = 108 ∷ 50 ∷ []; arity = 1 } ∷ [];
  start = 0;
  start_names = (65 ∷ []) ∷ [];
  rules = entering ∷ leaving ∷ returning ∷ falling ∷ [];
}

-- the verdict on the loop that doesn't change A, with the guard A >= 1, entered from A = 1 by rule 1 and with a turn by
-- rule 2
abbrev pub Stays : Verdict → Type 0
Stays v = HasVerdict (looping_by (Variable 0)) (along (pos 1) (1 ∷ []) (2 ∷ [])) v

-- turns that lead back, with their rules and costs
pub record RoundsAreFound : Type 0 where
  pub stays : Stays (round (2 ∷ []) 1)
  pub not_of_stem : ¬ (Stays (round (1 ∷ 2 ∷ []) 1))
  pub no_rule : ¬ (Stays (round [] 1))
  pub not_of_both : ¬ (Stays (round (2 ∷ []) 2))
  pub not_bad : ¬ (Stays (bad 2 (AtomFails 1)))
  pub not_open : ¬ (Stays (OpenAt 1))
  -- the rules are listed in ascending order, each once, whatever the order of the steps; the cost of the stem isn't
  -- counted, and a negative cost counts as 0
  pub ascending : HasVerdict circling (along (pos 5) (1 ∷ 2 ∷ []) (3 ∷ 2 ∷ [])) (round (2 ∷ 3 ∷ []) 6)
  pub twice : HasVerdict circling (along (negsuc 4) (1 ∷ []) (2 ∷ 3 ∷ 2 ∷ 3 ∷ []))
      (round (2 ∷ 3 ∷ []) 2)

-- turns that lead elsewhere
pub record OpenTurnsAreFound : Type 0 where
  -- A - 1 is another value than A, but the symbol is the same
  pub falls : HasVerdict (looping_by less_one) (along (pos 3) (1 ∷ []) (2 ∷ [])) (OpenAt 1)
  pub not_symbol : ¬ (HasVerdict (looping_by less_one) (along (pos 3) (1 ∷ []) (2 ∷ [])) (OpenAt 0))
  pub not_round : ¬ (HasVerdict (looping_by less_one) (along (pos 3) (1 ∷ []) (2 ∷ [])) (round (2 ∷ []) 1))
  -- if the symbols differ, values aren't compared
  pub symbol : HasVerdict circling (along (pos 5) (1 ∷ []) (4 ∷ 2 ∷ [])) (OpenAt 0)
  pub not_value : ¬ (HasVerdict circling (along (pos 5) (1 ∷ []) (4 ∷ 2 ∷ [])) (OpenAt 1))
  -- the first of several places is reported, and the second place if the values at the first one agree
  pub first_place : IsFirstDifference (two_values 1 (pos 3) (pos 7)) (two_values 1 (pos 4) (pos 8)) 1
  pub not_second : ¬ (IsFirstDifference (two_values 1 (pos 3) (pos 7)) (two_values 1 (pos 4) (pos 8)) 2)
  pub second_place : IsFirstDifference (two_values 1 (pos 3) (pos 7)) (two_values 1 (pos 3) (pos 8)) 2
  pub not_first : ¬ (IsFirstDifference (two_values 1 (pos 3) (pos 7)) (two_values 1 (pos 3) (pos 8)) 1)

-- the verdict on the same loop from A = 0, where its guard fails
abbrev pub Fails : Verdict → Type 0
Fails v = HasVerdict (looping_by (Variable 0)) (along (pos 0) (1 ∷ []) (2 ∷ [])) v

-- bad steps, counted through the stem and the turn
pub record BadTurnsAreFound : Type 0 where
  pub guard : Fails (bad 2 (AtomFails 1))
  pub not_first : ¬ (Fails (bad 1 (AtomFails 1)))
  pub not_round : ¬ (Fails (round (2 ∷ []) 1))
  pub not_open : ¬ (Fails (OpenAt 1))
  -- rule 2 doesn't lead from l2, where the turn has led, nor from l0; the square of 2^64 exceeds 128 bits
  pub in_turn : HasVerdict circling (along (pos 5) (1 ∷ []) (2 ∷ 2 ∷ [])) (bad 3 OtherRule)
  pub in_stem : HasVerdict circling (along (pos 5) (2 ∷ []) (1 ∷ [])) (bad 1 OtherRule)
  pub past_range : HasVerdict (looping_by squared) (along (pos 18446744073709551616) (1 ∷ []) (2 ∷ []))
      (bad 2 PastRange)

-- All worked values of this file.
pub record ChecksAreWorkedOut : Type 0 where
  pub rounds : RoundsAreFound
  pub opens : OpenTurnsAreFound
  pub bads : BadTurnsAreFound
