-- Worked values of steps and runs of a small program with a loop, and of relations below zero.
use Rattle.std.specs.Prelude.{List, [], ◌∷◌, ℤ, pos, negsuc, None}
use Rattle.model.specs.Terms.{Literal, Variable, Negation, Subtraction}
use Rattle.model.specs.Programs.{Name, AtLeast, MoreThan, AtMost, LessThan, EqualTo, Related, Compare, Rule, Program}
use Rattle.model.specs.Runs.{Config, IsStep, IsRun}
use Rattle.model.specs.Worked.{by_rule, with_free, one_value, two_values}

-- whether each relation holds at (1, -3), (-3, 1), (-3, -2) and (3, -3): negative integers are ordered as such, not by
-- absolute value
pub record RelationsHoldBelowZero : Type 0 where
  pub at_least : Related AtLeast (pos 1) (negsuc 2) × ¬ (Related AtLeast (negsuc 2) (pos 1))
      × ¬ (Related AtLeast (negsuc 2) (negsuc 1))
  pub more_than : Related MoreThan (pos 1) (negsuc 2) × ¬ (Related MoreThan (negsuc 2) (pos 1))
      × ¬ (Related MoreThan (negsuc 2) (negsuc 1))
  pub at_most : Related AtMost (negsuc 2) (pos 1) × ¬ (Related AtMost (pos 1) (negsuc 2))
      × Related AtMost (negsuc 2) (negsuc 1)
  pub less_than : Related LessThan (negsuc 2) (pos 1) × ¬ (Related LessThan (pos 1) (negsuc 2))
      × Related LessThan (negsuc 2) (negsuc 1)
  pub equal_to : Related EqualTo (negsuc 2) (negsuc 2) × ¬ (Related EqualTo (pos 3) (negsuc 2))
      × ¬ (Related EqualTo (negsuc 2) (negsuc 1))

-- the names `A` and `B`
abbrev pub two_names : List Name
two_names = (65 ∷ []) ∷ (66 ∷ []) ∷ []

-- the rule l0(A, B) -> l1(A, B)
abbrev pub entering : Rule
entering = record {
  source = 0;
  target = 1;
  left = 2;
  free = 0;
  names = two_names;
  updates = Variable 0 ∷ Variable 1 ∷ [];
  guard = [];
  cost = None;
}

-- the rule l1(A, B) -> l1(A - 1, -A) with the guard A >= 1 and A <= 9
abbrev pub looping : Rule
looping = record {
  source = 1;
  target = 1;
  left = 2;
  free = 0;
  names = two_names;
  updates = Subtraction (Variable 0) (Literal (pos 1)) ∷ Negation (Variable 0) ∷ [];
  guard = Compare (Variable 0) AtLeast (Literal (pos 1)) ∷ Compare (Variable 0) AtMost (Literal (pos 9)) ∷ [];
  cost = None;
}

-- the program with these rules over l0 and l1, with two places each, that starts at l0
abbrev pub over_two_places : List Rule → Program
over_two_places rules = record {
  symbols = record { name = 108 ∷ 48 ∷ []; arity = 2 } ∷ record { name = 108 ∷ 49 ∷ []; arity = 2 } ∷ [];
  start = 0;
  start_names = two_names;
  rules = rules;
}

-- the program of both rules: it enters a loop and decreases A
abbrev pub countdown : Program
countdown = over_two_places (entering ∷ looping ∷ [])

-- the program of the first rule alone
abbrev pub entry_alone : Program
entry_alone = over_two_places (entering ∷ [])

-- the program of one rule with a free variable: l0(A) -> l1(A + C) with the guard A >= C
abbrev pub choosing : Program
choosing = record {
  symbols = record { name = 108 ∷ 48 ∷ []; arity = 1 } ∷ record { name = 108 ∷ 49 ∷ []; arity = 1 } ∷ [];
  start = 0;
  start_names = (65 ∷ []) ∷ [];
  rules = with_free ∷ [];
}

-- two start values
abbrev pub both : ℤ → ℤ → List ℤ
both a b = a ∷ b ∷ []

-- worked steps of the program with the loop, and of the one with a free variable
pub record StepsAreSteps : Type 0 where
  -- rule 1 leads from l0(3, 7) to l1(3, 7), and rule 2 from l1(3, 7) to l1(2, -3)
  pub enters : IsStep countdown (two_values 0 (pos 3) (pos 7)) (by_rule 1) (two_values 1 (pos 3) (pos 7))
  pub loops : IsStep countdown (two_values 1 (pos 3) (pos 7)) (by_rule 2) (two_values 1 (pos 2) (negsuc 2))
  -- a step neither ends at its source symbol nor exchanges the values of places
  pub moves : ¬ (IsStep countdown (two_values 0 (pos 3) (pos 7)) (by_rule 1) (two_values 0 (pos 3) (pos 7)))
  pub keeps_order : ¬ (IsStep countdown (two_values 0 (pos 3) (pos 7)) (by_rule 1) (two_values 1 (pos 7) (pos 3)))
  pub loops_in_order : ¬ (IsStep countdown (two_values 1 (pos 3) (pos 7)) (by_rule 2) (two_values 1 (negsuc 2) (pos 2)))
  -- a step begins at the source of its rule: rule 1 doesn't lead from l1, nor rule 2 from l0
  pub not_from_l1 : (d : Config) → ¬ (IsStep countdown (two_values 1 (pos 3) (pos 7)) (by_rule 1) d)
  pub not_from_l0 : (d : Config) → ¬ (IsStep countdown (two_values 0 (pos 3) (pos 7)) (by_rule 2) d)
  -- at 9 and at 1 the guard holds; at 0 only its first atom fails, and at 10 only its last
  pub highest : IsStep countdown (two_values 1 (pos 9) (pos 7)) (by_rule 2) (two_values 1 (pos 8) (negsuc 8))
  pub lowest : IsStep countdown (two_values 1 (pos 1) (pos 7)) (by_rule 2) (two_values 1 (pos 0) (negsuc 0))
  pub first_atom_fails : (d : Config) → ¬ (IsStep countdown (two_values 1 (pos 0) (pos 7)) (by_rule 2) d)
  pub last_atom_fails : (d : Config) → ¬ (IsStep countdown (two_values 1 (pos 10) (pos 7)) (by_rule 2) d)
  -- no step is by the virtual entry or by a number after that of the last rule
  pub not_by_the_entry : (c d : Config) → ¬ (IsStep countdown c (by_rule 0) d)
  pub not_past_the_rules : (c d : Config) → ¬ (IsStep countdown c (by_rule 3) d)
  -- a step by a rule without free variables has no values for them
  pub no_free_values : (c d : Config) → ¬ (IsStep countdown c (record { rule = 1; free = pos 5 ∷ [] }) d)
  -- a step by a rule with one free variable has exactly one value for it: from l0(3) it leads with 2 to l1(5)
  pub one_free_value : IsStep choosing (one_value 0 (pos 3)) (record { rule = 1; free = pos 2 ∷ [] })
      (one_value 1 (pos 5))
  pub missing_free_value : (c d : Config) → ¬ (IsStep choosing c (by_rule 1) d)
  pub two_free_values : (c d : Config) → ¬ (IsStep choosing c (record { rule = 1; free = pos 2 ∷ pos 2 ∷ [] }) d)

-- worked runs of the program with the loop; the list of steps begins with the last step
pub record RunsAreRuns : Type 0 where
  -- a run without a step ends at l0 with the start values, and at no other configuration
  pub no_steps : IsRun countdown (both (pos 3) (pos 7)) [] (two_values 0 (pos 3) (pos 7))
  pub begins_at_start : ¬ (IsRun countdown (both (pos 3) (pos 7)) [] (two_values 1 (pos 3) (pos 7)))
  pub begins_with_start_values : ¬ (IsRun countdown (both (pos 3) (pos 7)) [] (two_values 0 (pos 7) (pos 3)))
  -- a run begins with a value for each place, so not with one value or with three
  pub one_start_value : (c : Config) → ¬ (IsRun countdown (pos 3 ∷ []) [] c)
  pub three_start_values : (c : Config) → ¬ (IsRun countdown (pos 3 ∷ pos 7 ∷ pos 7 ∷ []) [] c)
  -- by rule 1 and then three times by rule 2 a run leads from l0(3, 7) to l1(0, -1)
  pub one_step : IsRun countdown (both (pos 3) (pos 7)) (by_rule 1 ∷ []) (two_values 1 (pos 3) (pos 7))
  pub four_steps : IsRun countdown (both (pos 3) (pos 7)) (by_rule 2 ∷ by_rule 2 ∷ by_rule 2 ∷ by_rule 1 ∷ [])
      (two_values 1 (pos 0) (negsuc 0))
  -- the steps of a run in another order are no run, from any start values
  pub swapped : (start : List ℤ) (c : Config)
      → ¬ (IsRun countdown start (by_rule 1 ∷ by_rule 2 ∷ by_rule 2 ∷ by_rule 2 ∷ []) c)
  pub two_swapped : (start : List ℤ) (c : Config) → ¬ (IsRun countdown start (by_rule 1 ∷ by_rule 2 ∷ []) c)
  -- the first step is by a rule whose source is the start symbol
  pub first_at_start : (start : List ℤ) (c : Config) → ¬ (IsRun countdown start (by_rule 2 ∷ []) c)
  -- each step begins where the previous one ended
  pub chained : ¬ (IsRun countdown (both (pos 3) (pos 7)) (by_rule 2 ∷ by_rule 1 ∷ [])
      (two_values 1 (pos 5) (negsuc 5)))
