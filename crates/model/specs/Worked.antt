-- Worked values of the definitions.
use Rattle.std.specs.Prelude.{◌≡◌, ℕ, List, [], ◌∷◌, ℤ, pos, negsuc, Some, None}
use Rattle.model.specs.Terms.{Literal, Variable, Negation, Addition, Subtraction, Multiplication, Exponentiation, value}
use Rattle.model.specs.Programs.{AtLeast, MoreThan, AtMost, LessThan, EqualTo, Related, Always, Compare, Symbol, Rule}
use Rattle.model.specs.Programs.{Program, rule_at, arity_of}
use Rattle.model.specs.Runs.{Config, Step, Leads, Begins, count, last_rule, place_value, sizes_of_start}
use Rattle.model.specs.Paths.{HasCycle}
use Rattle.model.specs.Bounds.{Bound, Constant, Input, SumOf, ProductOf, MaximumOf, PowerOf, Parts, NoParts, Part, val}

-- a list of one part, and one of two
abbrev pub one_part : Bound → Parts
one_part a = Part a NoParts

abbrev pub two_parts : Bound → Bound → Parts
two_parts a b = Part a (one_part b)

-- the worked values of A - 1 at 3, -(A^2) at 3, (-2)^3, (-2)^0, and 2 - A*B at (5, -4)
pub record ExpressionsHaveTheirValues : Type 0 where
  pub less_one : value (Subtraction (Variable 0) (Literal (pos 1))) (pos 3 ∷ []) ≡ pos 2
  pub minus_square : value (Negation (Exponentiation (Variable 0) 2)) (pos 3 ∷ []) ≡ negsuc 8
  pub odd_power : value (Exponentiation (Literal (negsuc 1)) 3) [] ≡ negsuc 7
  pub no_power : value (Exponentiation (Literal (negsuc 1)) 0) [] ≡ pos 1
  pub second_variable : value (Subtraction (Literal (pos 2)) (Multiplication (Variable 0) (Variable 1)))
      (pos 5 ∷ negsuc 3 ∷ []) ≡ pos 22
  pub sum : value (Addition (Variable 0) (Literal (negsuc 6))) (pos 5 ∷ []) ≡ negsuc 1

-- the worked values at A = 3 and B = 4 of 2*A^2 + 2*A + 1, 2*2^A*B, the maximum of A and B, and the empty bounds
pub record BoundsHaveTheirValues : Type 0 where
  pub polynomial : val (SumOf (Part (ProductOf (Part (Constant 2) (two_parts (Input 0) (Input 0))))
      (two_parts (ProductOf (two_parts (Constant 2) (Input 0))) (Constant 1)))) (3 ∷ 4 ∷ []) ≡ 25
  pub exponential : val (ProductOf (Part (Constant 2) (two_parts (PowerOf 2 (Input 0)) (Input 1)))) (3 ∷ 4 ∷ []) ≡ 64
  pub maximum : val (MaximumOf (two_parts (Input 0) (Input 1))) (3 ∷ 4 ∷ []) ≡ 4
  pub empty_sum : val (SumOf NoParts) (3 ∷ []) ≡ 0
  pub empty_product : val (ProductOf NoParts) (3 ∷ []) ≡ 1
  pub empty_maximum : val (MaximumOf NoParts) (3 ∷ []) ≡ 0
  pub no_power : val (PowerOf 7 (Constant 0)) (3 ∷ []) ≡ 1

-- a step by a rule without free variables
abbrev pub by_rule : ℕ → Step
by_rule t = record { rule = t; free = [] }

-- four steps, last step first: by rule 1, and then three times by rule 2
abbrev pub four_steps : List Step
four_steps = by_rule 2 ∷ by_rule 2 ∷ by_rule 2 ∷ by_rule 1 ∷ []

-- of these steps one is by rule 1, three by rule 2 and none by rule 3; the virtual entry occurs once; the last step is
-- by rule 2
pub record StepsAreCounted : Type 0 where
  pub first : count 1 four_steps ≡ 1
  pub second : count 2 four_steps ≡ 3
  pub third : count 3 four_steps ≡ 0
  pub entry : count 0 four_steps ≡ 1
  pub last : last_rule four_steps ≡ 2
  pub none : last_rule [] ≡ 0
  pub sizes : sizes_of_start (negsuc 2 ∷ pos 4 ∷ []) ≡ 3 ∷ 4 ∷ []

-- whether each relation holds at (1, 2), (1, 1) and (2, 1)
pub record RelationsHold : Type 0 where
  pub at_least : Related AtLeast (pos 2) (pos 1) × Related AtLeast (pos 1) (pos 1) × ¬ (Related AtLeast (pos 1) (pos 2))
  pub more_than : Related MoreThan (pos 2) (pos 1) × ¬ (Related MoreThan (pos 1) (pos 1))
      × ¬ (Related MoreThan (pos 1) (pos 2))
  pub at_most : Related AtMost (pos 1) (pos 2) × Related AtMost (pos 1) (pos 1) × ¬ (Related AtMost (pos 2) (pos 1))
  pub less_than : Related LessThan (pos 1) (pos 2) × ¬ (Related LessThan (pos 1) (pos 1))
      × ¬ (Related LessThan (pos 2) (pos 1))
  pub equal_to : Related EqualTo (pos 1) (pos 1) × ¬ (Related EqualTo (pos 1) (pos 2))
      × ¬ (Related EqualTo (pos 2) (pos 1))

-- the rule l0(A) -> l1(A + C) with the guard A >= C and the atom that always holds; C is free
abbrev pub with_free : Rule
with_free = record {
  source = 0;
  target = 1;
  left = 1;
  free = 1;
  names = (65 ∷ []) ∷ (67 ∷ []) ∷ [];
  updates = Addition (Variable 0) (Variable 1) ∷ [];
  guard = Always ∷ Compare (Variable 0) AtLeast (Variable 1) ∷ [];
  cost = None;
}

-- a configuration with one value, and one with two
abbrev pub one_value : ℕ → ℤ → Config
one_value s x = record { at = s; values = x ∷ [] }

abbrev pub two_values : ℕ → ℤ → ℤ → Config
two_values s x y = record { at = s; values = x ∷ y ∷ [] }

-- The rule leads from l0(3) with C = 2 to l1(5). It doesn't lead from another symbol or with another number of values,
-- without a value of C, with two of them or with C = 4, or to another symbol or another value.
pub record StepsLead : Type 0 where
  pub leads : Leads with_free (one_value 0 (pos 3)) (pos 2 ∷ []) (one_value 1 (pos 5))
  pub other_source : ¬ (Leads with_free (one_value 1 (pos 3)) (pos 2 ∷ []) (one_value 1 (pos 5)))
  pub more_values : ¬ (Leads with_free (two_values 0 (pos 3) (pos 2)) (pos 2 ∷ []) (one_value 1 (pos 5)))
  pub no_free : (d : Config) → ¬ (Leads with_free (one_value 0 (pos 3)) [] d)
  pub more_free : (d : Config) → ¬ (Leads with_free (one_value 0 (pos 3)) (pos 2 ∷ pos 2 ∷ []) d)
  pub guard_fails : (d : Config) → ¬ (Leads with_free (one_value 0 (pos 3)) (pos 4 ∷ []) d)
  pub other_target : ¬ (Leads with_free (one_value 0 (pos 3)) (pos 2 ∷ []) (one_value 0 (pos 5)))
  pub other_value : ¬ (Leads with_free (one_value 0 (pos 3)) (pos 2 ∷ []) (one_value 1 (pos 6)))

-- a rule without variables from one symbol to another
abbrev pub bare_rule : ℕ → ℕ → Rule
bare_rule s t = record { source = s; target = t; left = 0; free = 0; names = []; updates = []; guard = []; cost = None }

-- the symbols l0, with one place, and l1, with none
abbrev pub two_symbols : List Symbol
two_symbols = record { name = 108 ∷ 48 ∷ []; arity = 1 } ∷ record { name = 108 ∷ 49 ∷ []; arity = 0 } ∷ []

-- the program with these rules that starts at l0
abbrev pub with_rules : List Rule → Program
with_rules rules = record { symbols = two_symbols; start = 0; start_names = (65 ∷ []) ∷ []; rules = rules }

-- places and rules are numbered from 1; a run begins with a value for each place; two rules can form a cycle, and one
-- rule between two symbols doesn't
pub record PlacesAndRulesCount : Type 0 where
  pub first_place : place_value (two_values 0 (pos 7) (negsuc 8)) 1 ≡ pos 7
  pub second_place : place_value (two_values 0 (pos 7) (negsuc 8)) 2 ≡ negsuc 8
  pub no_rule : rule_at (with_rules (bare_rule 0 1 ∷ bare_rule 1 0 ∷ [])) 0 ≡ None
  pub first_rule : rule_at (with_rules (bare_rule 0 1 ∷ bare_rule 1 0 ∷ [])) 1 ≡ Some (bare_rule 0 1)
  pub second_rule : rule_at (with_rules (bare_rule 0 1 ∷ bare_rule 1 0 ∷ [])) 2 ≡ Some (bare_rule 1 0)
  pub past_the_rules : rule_at (with_rules (bare_rule 0 1 ∷ bare_rule 1 0 ∷ [])) 3 ≡ None
  pub arity : arity_of (with_rules []) 0 ≡ 1
  pub other_arity : arity_of (with_rules []) 1 ≡ 0
  pub begins : Begins (with_rules []) (pos 4 ∷ []) (one_value 0 (pos 4))
  pub begins_with_all : (c : Config) → ¬ (Begins (with_rules []) [] c)
  pub begins_at_start : ¬ (Begins (with_rules []) (pos 4 ∷ []) (one_value 1 (pos 4)))
  pub cycle_of_two : HasCycle (with_rules (bare_rule 0 1 ∷ bare_rule 1 0 ∷ []))
  pub no_cycle_of_one : ¬ (HasCycle (with_rules (bare_rule 0 1 ∷ [])))
