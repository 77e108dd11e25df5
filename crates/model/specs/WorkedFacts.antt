-- Worked values of bounds on runs of a small program: bounds that hold on all runs, and bounds that are too small by
-- one.
use Rattle.std.specs.Prelude.{◌≡◌, List, [], ◌∷◌, pos, negsuc}
use Rattle.model.specs.Runs.{Step, count, last_rule, place_value}
use Rattle.model.specs.Bounds.{Constant, Input}
use Rattle.model.specs.Facts.{HoldsTime, HoldsSize, HoldsLength}
use Rattle.model.specs.Worked.{by_rule, two_values}
use Rattle.model.specs.WorkedRuns.{countdown, entry_alone}

-- three steps, last step first: by rule 2, by rule 1, and again by rule 2
abbrev pub three_steps : List Step
three_steps = by_rule 2 ∷ by_rule 1 ∷ by_rule 2 ∷ []

-- every occurrence of a rule is counted, at any position; the virtual entry counts once, also in a run without a step;
-- the last step is the first in the list; and a place that doesn't exist, such as place 0, has the value 0
pub record StepsAndPlacesAreCounted : Type 0 where
  pub apart : count 2 three_steps ≡ 2
  pub between : count 1 three_steps ≡ 1
  pub none : count 1 [] ≡ 0
  pub entry_of_none : count 0 [] ≡ 1
  pub entry_of_three : count 0 three_steps ≡ 1
  pub last_of_three : last_rule three_steps ≡ 2
  pub last_of_two : last_rule (by_rule 1 ∷ by_rule 2 ∷ []) ≡ 1
  pub place_0 : place_value (two_values 0 (pos 7) (negsuc 8)) 0 ≡ pos 0
  pub place_3 : place_value (two_values 0 (pos 7) (negsuc 8)) 3 ≡ pos 0

-- bounds on how often each rule of the program with the loop occurs: the entry once, rule 1 at most once, rule 2 at
-- most 9 times and at most as often as the absolute value of A, and a rule that doesn't exist never
pub record TimesHold : Type 0 where
  pub entry : HoldsTime countdown 0 (Constant 1)
  pub first : HoldsTime countdown 1 (Constant 1)
  pub loop : HoldsTime countdown 2 (Constant 9)
  pub loop_by_start : HoldsTime countdown 2 (Input 0)
  pub past_the_rules : HoldsTime countdown 3 (Constant 0)
  -- bounds smaller by one don't hold, and neither does the absolute value of B
  pub entry_never : ¬ (HoldsTime countdown 0 (Constant 0))
  pub first_never : ¬ (HoldsTime countdown 1 (Constant 0))
  pub loop_less : ¬ (HoldsTime countdown 2 (Constant 8))
  pub loop_by_other : ¬ (HoldsTime countdown 2 (Input 1))
  -- runs of one step count too: all runs of the other program have at most one step
  pub alone : HoldsTime entry_alone 1 (Constant 1)
  pub alone_never : ¬ (HoldsTime entry_alone 1 (Constant 0))

-- bounds on the length of runs: 10 is one, and 9 isn't
pub record LengthsHold : Type 0 where
  pub all : HoldsLength countdown (Constant 10)
  pub less : ¬ (HoldsLength countdown (Constant 9))
  -- runs of one step count too
  pub alone : HoldsLength entry_alone (Constant 1)
  pub alone_less : ¬ (HoldsLength entry_alone (Constant 0))

-- bounds on the absolute values at each place: those of A and B at the beginning and after rule 1, and 8 and 9 after
-- rule 2
pub record SizesHold : Type 0 where
  pub entry_first : HoldsSize countdown 0 1 (Input 0)
  pub entry_second : HoldsSize countdown 0 2 (Input 1)
  pub first_first : HoldsSize countdown 1 1 (Input 0)
  pub first_second : HoldsSize countdown 1 2 (Input 1)
  pub loop_first : HoldsSize countdown 2 1 (Constant 8)
  pub loop_second : HoldsSize countdown 2 2 (Constant 9)
  -- bounds smaller by one don't hold (-9 exceeds one at the second place), and neither does the absolute value of the
  -- other start value
  pub loop_first_less : ¬ (HoldsSize countdown 2 1 (Constant 7))
  pub loop_second_less : ¬ (HoldsSize countdown 2 2 (Constant 8))
  pub first_by_other : ¬ (HoldsSize countdown 1 1 (Input 1))
  pub second_by_other : ¬ (HoldsSize countdown 1 2 (Input 0))
  -- the size bound of the virtual entry has to hold for every start value: A may be 5, or -5
  pub entry_less : ¬ (HoldsSize countdown 0 1 (Constant 4))
  pub entry_by_other : ¬ (HoldsSize countdown 0 2 (Input 0))
