-- Worked values of valid programs, and of programs that aren't valid.
use Rattle.std.specs.Prelude.{◌≡◌, ℕ, List, [], ◌∷◌, replicate, pos, Some, None}
use Rattle.poly_terms.specs.model.Terms.{Term, Literal, Variable, Addition, Subtraction, Exponentiation}
use Rattle.poly_terms.specs.model.Programs.{AtLeast, MoreThan, AtMost, LessThan, EqualTo, Atom, Always, Compare, Name}
use Rattle.poly_terms.specs.model.Programs.{Symbol}
use Rattle.poly_terms.specs.model.Programs.{Rule, Program}
use Rattle.its_model.specs.Valid.{difference_of, IsValidSymbol, IsValidRule, IsValid}

-- The rule from l0(A, B) to the symbol with this number, with these updates and this guard.
abbrev pub rule_to : ℕ → List Term → List Atom → Rule
rule_to target updates guard = record {
  source = 0;
  target = target;
  left = 2;
  free = 0;
  names = (65 ∷ []) ∷ (66 ∷ []) ∷ [];
  updates = updates;
  guard = guard;
  cost = None;
}

-- The rule l0(A, B) -{c}> l1(A) with this guard.
abbrev pub rule_costing : Term → List Atom → Rule
rule_costing c guard = record {
  source = 0;
  target = 1;
  left = 2;
  free = 0;
  names = (65 ∷ []) ∷ (66 ∷ []) ∷ [];
  updates = Variable 0 ∷ [];
  guard = guard;
  cost = Some c;
}

-- The rule l0(A, B) -> l1(update) with this guard.
abbrev pub rule_with : List Term → List Atom → Rule
rule_with updates guard = rule_to 1 updates guard

-- A rule to l1(A) without atoms, from a symbol by its number, with this many left and free variables of these names.
abbrev pub rule_from : ℕ → ℕ → ℕ → List Name → Rule
rule_from source left free names = record {
  source = source;
  target = 1;
  left = left;
  free = free;
  names = names;
  updates = Variable 0 ∷ [];
  guard = [];
  cost = None;
}

-- The symbols l0 with two places and l1 with one.
abbrev pub two_and_one : List Symbol
two_and_one = record { name = 108 ∷ 48 ∷ []; arity = 2 } ∷ record { name = 108 ∷ 49 ∷ []; arity = 1 } ∷ []

-- The program with these rules that starts at a symbol with the start arguments A and B.
abbrev pub starting_at : ℕ → List Rule → Program
starting_at start rules = record {
  symbols = two_and_one;
  start = start;
  start_names = (65 ∷ []) ∷ (66 ∷ [])
      ∷ [];
  rules = rules;
}

-- The program l0(A, B) -> l1(A + B) with the guard A > B.
abbrev pub small_program : Program
small_program = starting_at 0 (rule_with (Addition (Variable 0) (Variable 1)
    ∷ []) (Compare (Variable 0) MoreThan (Variable 1) ∷ []) ∷ [])

-- The small program, with this name for l0 and these for the start arguments.
abbrev pub named_by : Name → List Name → Program
named_by name start_names = record {
  symbols = record { name = name; arity = 2 } ∷ record { name = 108 ∷ 49 ∷ []; arity = 1 } ∷ [];
  start = 0;
  start_names = start_names;
  rules = small_program.rules;
}

-- Worked values of the validity of programs.
pub record ProgramsAreValid : Type 0 where
  -- The small program is valid.
  pub small : IsValid small_program
  -- A program isn't valid if an update reads a third variable.
  pub third_variable : ¬ (IsValid (starting_at 0 (rule_with (Variable 2 ∷ []) [] ∷ [])))
  -- It isn't valid if the target gets two values in its one place, or none.
  pub two_updates : ¬ (IsValid (starting_at 0 (rule_with (Variable 0 ∷ Variable 1 ∷ []) [] ∷ [])))
  pub no_update : ¬ (IsValid (starting_at 0 (rule_with [] [] ∷ [])))
  -- It isn't valid if an update is A^9, or an atom is A^9 >= 0.
  pub ninth_power : ¬ (IsValid (starting_at 0 (rule_with (Exponentiation (Variable 0) 9 ∷ []) [] ∷ [])))
  pub ninth_power_in_guard : ¬ (IsValid (starting_at 0 (rule_with (Variable 0
      ∷ []) (Compare (Exponentiation (Variable 0) 9) AtLeast (Literal (pos 0)) ∷ []) ∷ [])))
  -- The difference of A > 2^63 - 1 has the constant -2^63, so it is no atom, while A >= 2^63 - 1 is one.
  pub large_difference : ¬ (IsValid (starting_at 0 (rule_with (Variable 0
      ∷ []) (Compare (Variable 0) MoreThan (Literal (pos 9223372036854775807)) ∷ []) ∷ [])))
  pub maximum_literal : IsValid (starting_at 0 (rule_with (Variable 0
      ∷ []) (Compare (Variable 0) AtLeast (Literal (pos 9223372036854775807)) ∷ []) ∷ []))
  -- A program isn't valid if no rule leaves the start symbol.
  pub start_is_target : ¬ (IsValid (starting_at 1 (rule_with (Variable 0 ∷ []) [] ∷ [])))
  -- A program without a rule isn't valid.
  pub no_rule : ¬ (IsValid (starting_at 0 []))

-- Worked values of further conditions on a rule, a symbol and a start.
pub record PartsAgree : Type 0 where
  -- The rule l0(A, B) -> l1(A) with the free variable C is valid; from a symbol without a number, or with one variable
  -- or three on its left, it isn't.
  pub free_variable : IsValidRule (starting_at 0 []) (rule_from 0 2 1 ((65 ∷ []) ∷ (66 ∷ []) ∷ (67 ∷ []) ∷ []))
  pub no_symbol : ¬ (IsValidRule (starting_at 0 []) (rule_from 2 2 0 ((65 ∷ []) ∷ (66 ∷ []) ∷ [])))
  pub one_left : ¬ (IsValidRule (starting_at 0 []) (rule_from 0 1 1 ((65 ∷ []) ∷ (66 ∷ []) ∷ [])))
  pub three_left : ¬ (IsValidRule (starting_at 0 []) (rule_from 0 3 0 ((65 ∷ []) ∷ (66 ∷ []) ∷ (67 ∷ []) ∷ [])))
  -- The rule l0(A, B) -> l0(B, A) is valid; one to a symbol without a number, which has no place that would need an
  -- update, isn't.
  pub to_start : IsValidRule (starting_at 0 []) (rule_to 0 (Variable 1 ∷ Variable 0 ∷ []) [])
  pub no_target : ¬ (IsValidRule (starting_at 0 []) (rule_to 2 [] []))
  -- An atom may be B >= A; one that reads a third variable on either side isn't valid.
  pub second_in_guard : IsValidRule (starting_at 0 [])
      (rule_with (Variable 0 ∷ []) (Compare (Variable 1) AtLeast (Variable 0) ∷ []))
  pub third_in_guard : ¬ (IsValidRule (starting_at 0 [])
      (rule_with (Variable 0 ∷ []) (Compare (Variable 2) AtLeast (Variable 0) ∷ [])))
  pub third_behind_sign : ¬ (IsValidRule (starting_at 0 [])
      (rule_with (Variable 0 ∷ []) (Compare (Variable 1) AtLeast (Variable 2) ∷ [])))
  -- A cost may be B, or A^8 - 3; one that reads a third variable, or A^9, isn't valid.
  pub cost : IsValidRule (starting_at 0 []) (rule_costing (Variable 1) [])
  pub eighth_power : IsValidRule (starting_at 0 [])
      (rule_costing (Subtraction (Exponentiation (Variable 0) 8) (Literal (pos 3))) [])
  pub third_in_cost : ¬ (IsValidRule (starting_at 0 []) (rule_costing (Variable 2) []))
  pub ninth_power_in_cost : ¬ (IsValidRule (starting_at 0 []) (rule_costing (Exponentiation (Variable 0) 9) []))
  -- The names of variables aren't A and A, A alone, A and the empty one, or A and 1.
  pub same_names : ¬ (IsValidRule (starting_at 0 []) (rule_from 0 2 0 ((65 ∷ []) ∷ (65 ∷ []) ∷ [])))
  pub one_name : ¬ (IsValidRule (starting_at 0 []) (rule_from 0 2 0 ((65 ∷ []) ∷ [])))
  pub empty_name : ¬ (IsValidRule (starting_at 0 []) (rule_from 0 2 0 ((65 ∷ []) ∷ [] ∷ [])))
  pub digit : ¬ (IsValidRule (starting_at 0 []) (rule_from 0 2 0 ((65 ∷ []) ∷ (49 ∷ []) ∷ [])))
  -- A symbol isn't named 1 or by the empty name, and neither is a start argument.
  pub digit_symbol : ¬ (IsValid (named_by (49 ∷ []) ((65 ∷ []) ∷ (66 ∷ []) ∷ [])))
  pub nameless_symbol : ¬ (IsValid (named_by [] ((65 ∷ []) ∷ (66 ∷ []) ∷ [])))
  pub digit_start_name : ¬ (IsValid (named_by (108 ∷ 48 ∷ []) ((65 ∷ []) ∷ (49 ∷ []) ∷ [])))
  pub nameless_start : ¬ (IsValid (named_by (108 ∷ 48 ∷ []) ((65 ∷ []) ∷ [] ∷ [])))
  -- Two symbols don't share a name, and there is a name for each start argument, each different.
  pub same_symbols : ¬ (IsValid (record {
    symbols = record { name = 108 ∷ []; arity = 1 } ∷ record { name = 108 ∷ []; arity = 1 } ∷ [];
    start = 0;
    start_names = (65 ∷ []) ∷ [];
    rules = rule_from 0 1 0 ((65 ∷ []) ∷ []) ∷ [];
  }))
  pub one_start_name : ¬ (IsValid (named_by (108 ∷ 48 ∷ []) ((65 ∷ []) ∷ [])))
  pub same_start_names : ¬ (IsValid (named_by (108 ∷ 48 ∷ []) ((65 ∷ []) ∷ (65 ∷ []) ∷ [])))

-- The limits on both of their sides: 32 places, 64 atoms, 63 with a cost, and 1,000 rules; and 65 variables are too
-- many.
pub record LimitsAreKept : Type 0 where
  pub places : IsValidSymbol (record { name = 108 ∷ []; arity = 32 })
  pub more_places : ¬ (IsValidSymbol (record { name = 108 ∷ []; arity = 33 }))
  pub atoms : IsValidRule (starting_at 0 []) (rule_with (Variable 0 ∷ []) (replicate 64 Always))
  pub more_atoms : ¬ (IsValidRule (starting_at 0 []) (rule_with (Variable 0 ∷ []) (replicate 65 Always)))
  pub atoms_and_cost : IsValidRule (starting_at 0 []) (rule_costing (Variable 1) (replicate 63 Always))
  pub more_and_cost : ¬ (IsValidRule (starting_at 0 []) (rule_costing (Variable 1) (replicate 64 Always)))
  pub rules : IsValid (starting_at 0 (replicate 1000 (rule_with (Variable 0 ∷ []) [])))
  pub more_rules : ¬ (IsValid (starting_at 0 (replicate 1001 (rule_with (Variable 0 ∷ []) []))))
  pub more_variables : (names : List Name) → ¬ (IsValidRule (starting_at 0 []) (rule_from 0 2 63 names))

-- The difference of A and 3 under each relation.
pub record DifferencesAreTaken : Type 0 where
  pub at_least : difference_of (Variable 0) AtLeast (Literal (pos 3)) ≡ Subtraction (Variable 0) (Literal (pos 3))
  pub more_than : difference_of (Variable 0) MoreThan (Literal (pos 3))
      ≡ Subtraction (Subtraction (Variable 0) (Literal (pos 3))) (Literal (pos 1))
  pub at_most : difference_of (Variable 0) AtMost (Literal (pos 3)) ≡ Subtraction (Literal (pos 3)) (Variable 0)
  pub less_than : difference_of (Variable 0) LessThan (Literal (pos 3))
      ≡ Subtraction (Subtraction (Literal (pos 3)) (Variable 0)) (Literal (pos 1))
  pub equal_to : difference_of (Variable 0) EqualTo (Literal (pos 3)) ≡ Subtraction (Variable 0) (Literal (pos 3))

-- All worked values of programs.
pub record ProgramsAreWorkedOut : Type 0 where
  pub valid : ProgramsAreValid
  pub parts : PartsAgree
  pub limits : LimitsAreKept
  pub differences : DifferencesAreTaken
