-- Small while programs, with their worked translations and executions.
use Rattle.std.specs.Prelude.{◌≡◌, ℕ, List, [], ◌∷◌, ℤ, pos, negsuc, None}
use Rattle.model.specs.Terms.{Term, Literal, Variable, Subtraction}
use Rattle.model.specs.Programs.{Name, AtLeast, MoreThan, LessThan, EqualTo, Atom, Always, Compare, Symbol, Rule, Program}
use Rattle.while_model.specs.Statements.{Assign, Choose, Skip, Statements, Nothing, Simple, While, If}
use Rattle.while_model.specs.Executions.{Executes, EndsWith}
use Rattle.while_model.specs.Moves.{negations, passing, program_moves}
use Rattle.while_model.specs.Translation.{points_of, free_name, rule_of, program_of}

-- The lists of inputs `A`, and `A` and `B`.
abbrev pub one_input : List Name
one_input = (65 ∷ []) ∷ []

abbrev pub two_inputs : List Name
two_inputs = (65 ∷ []) ∷ (66 ∷ []) ∷ []

-- The atom that a variable is at least a number.
abbrev pub at_least : ℕ → ℤ → Atom
at_least x z = Compare (Variable x) AtLeast (Literal z)

abbrev pub below : ℕ → ℤ → Atom
below x z = Compare (Variable x) LessThan (Literal z)

-- The expression A - 1.
abbrev pub one_less : Term
one_less = Subtraction (Variable 0) (Literal (pos 1))

-- The program `while (A >= 1) { A := A - 1; }`.
abbrev pub counting : Statements
counting = While (at_least 0 (pos 1) ∷ []) (Simple (Assign 0 one_less) Nothing) Nothing

-- The program `if (A >= 0) {} else { skip; } skip;`.
abbrev pub empty_first : Statements
empty_first = If (at_least 0 (pos 0) ∷ []) Nothing (Simple Skip Nothing) (Simple Skip Nothing)

-- The program `while (A >= 1) { while (B >= 1) {} }`.
abbrev pub loop_in_loop : Statements
loop_in_loop = While (at_least 0 (pos 1) ∷ []) (While (at_least 1 (pos 1) ∷ []) Nothing Nothing) Nothing

-- The program `if (A >= 0) { A := A - 1; } else { while (TRUE) {} }`.
abbrev pub both_blocks : Statements
both_blocks = If (at_least 0 (pos 0) ∷ []) (Simple (Assign 0 one_less) Nothing) (While (Always ∷ []) Nothing Nothing) Nothing

-- A rule of the counting loop, over A alone.
abbrev pub counting_rule : ℕ → ℕ → List Term → List Atom → Rule
counting_rule source target updates guard = record {
  source = source;
  target = target;
  left = 1;
  free = 0;
  names = one_input;
  updates = updates;
  guard = guard;
  cost = None;
}

-- The translation of `A := ?;` with the input A: p0(A) -> p1(h).
abbrev pub choosing_rule : Rule
choosing_rule = record {
  source = 0;
  target = 1;
  left = 1;
  free = 1;
  names = (65 ∷ []) ∷ (104 ∷ []) ∷ [];
  updates = Variable 1 ∷ [];
  guard = [];
  cost = None;
}

-- The symbol `p` with a digit, over A alone.
abbrev pub point_symbol : ℕ → Symbol
point_symbol digit = record { name = 112 ∷ digit ∷ []; arity = 1 }

-- The translation of the counting loop: p0(A) -> p1(A) :|: A >= 1, p0(A) -> p2(A) :|: A < 1 and p1(A) -> p0(A - 1).
abbrev pub counting_program : Program
counting_program = record {
  symbols = point_symbol 48 ∷ point_symbol 49 ∷ point_symbol 50 ∷ [];
  start = 0;
  start_names = one_input;
  rules = counting_rule 0 1 (Variable 0 ∷ []) (at_least 0 (pos 1) ∷ [])
      ∷ counting_rule 0 2 (Variable 0 ∷ []) (below 0 (pos 1) ∷ []) ∷ counting_rule 1 0 (one_less ∷ []) [] ∷ [];
}

-- The translations of small programs are the worked ones.
pub record ProgramsAreTranslated : Type 0 where
  pub counts : program_of one_input counting ≡ counting_program
  -- The symbols come in the order of their first occurrence: p0, p2, p1, p3.
  pub skips_first : program_moves empty_first ≡ passing 0 (at_least 0 (pos 0) ∷ []) 2 ∷ passing 0 (below 0 (pos 0) ∷ []) 1
      ∷ passing 1 [] 2 ∷ passing 2 [] 3 ∷ []
  pub in_order : points_of (program_moves empty_first) ≡ 0 ∷ 2 ∷ 1 ∷ 3 ∷ []
  -- A loop with an empty block has a move to itself, and one to the loop around it.
  pub inside : program_moves loop_in_loop ≡ passing 0 (at_least 0 (pos 1) ∷ []) 1 ∷ passing 0 (below 0 (pos 1) ∷ []) 2
      ∷ passing 1 (at_least 1 (pos 1) ∷ []) 1 ∷ passing 1 (below 1 (pos 1) ∷ []) 0 ∷ []
  -- After the first block of a branch comes what follows the second one; a loop on `TRUE` is never left.
  pub blocks : program_moves both_blocks ≡ passing 0 (at_least 0 (pos 0) ∷ []) 1 ∷ passing 0 (below 0 (pos 0) ∷ []) 2
      ∷ record { from = 1; to = 3; guard = []; action = Assign 0 one_less } ∷ passing 2 (Always ∷ []) 2 ∷ []
  pub chooses : rule_of one_input (0 ∷ 1 ∷ []) (record { from = 0; to = 1; guard = []; action = Choose 0 }) ≡ choosing_rule
  -- The negations of TRUE && A = B && A >= 0.
  pub negated : negations (Always ∷ Compare (Variable 0) EqualTo (Variable 1) ∷ at_least 0 (pos 0) ∷ [])
      ≡ Compare (Variable 0) LessThan (Variable 1) ∷ Compare (Variable 0) MoreThan (Variable 1) ∷ below 0 (pos 0) ∷ []

-- The free variable is `h` if there are no inputs, `h_` for the inputs `h` and `h__`, `h__` for `h_` and `h`, and `h`
-- for `h_` alone.
pub record FreeNamesAreFound : Type 0 where
  pub without : free_name [] ≡ 104 ∷ []
  pub between : free_name ((104 ∷ []) ∷ (104 ∷ 95 ∷ 95 ∷ []) ∷ []) ≡ 104 ∷ 95 ∷ []
  pub behind : free_name ((104 ∷ 95 ∷ []) ∷ (104 ∷ []) ∷ []) ≡ 104 ∷ 95 ∷ 95 ∷ []
  pub first : free_name ((104 ∷ 95 ∷ []) ∷ []) ≡ 104 ∷ []

-- The loop's block, followed by the loop.
abbrev pub in_block : Statements
in_block = Simple (Assign 0 one_less) counting

-- The worked steps and executions are those of the language, on both sides.
pub record StepsAreExecuted : Type 0 where
  -- The loop is entered from 1 and left from 0, and not the other way round.
  pub enters : Executes counting (pos 1 ∷ []) in_block (pos 1 ∷ [])
  pub not_from_0 : ¬ (Executes counting (pos 0 ∷ []) in_block (pos 0 ∷ []))
  pub leaves : Executes counting (pos 0 ∷ []) Nothing (pos 0 ∷ [])
  pub not_from_1 : ¬ (Executes counting (pos 1 ∷ []) Nothing (pos 1 ∷ []))
  -- A test changes no value.
  pub unchanged : ¬ (Executes counting (pos 1 ∷ []) in_block (pos 2 ∷ []))
  -- An assignment changes its variable, by the values before it.
  pub assigns : Executes in_block (pos 1 ∷ []) counting (pos 0 ∷ [])
  pub assigns_it : ¬ (Executes in_block (pos 1 ∷ []) counting (pos 1 ∷ []))
  -- A choice gives its variable any value, and changes no other one.
  pub chooses : Executes (Simple (Choose 1) Nothing) (pos 1 ∷ pos 2 ∷ []) Nothing (pos 1 ∷ negsuc 4 ∷ [])
  pub not_another : ¬ (Executes (Simple (Choose 1) Nothing) (pos 1 ∷ pos 2 ∷ []) Nothing (pos 0 ∷ pos 2 ∷ []))
  pub skips : ¬ (Executes (Simple Skip Nothing) (pos 1 ∷ []) Nothing (pos 2 ∷ []))
  -- If nothing is left to execute, there is no step.
  pub ends : (left : Statements) (env end : List ℤ) → ¬ (Executes Nothing env left end)
  -- A branch leads to its first block if the test holds, else to its second.
  pub first_block : Executes empty_first (pos 0 ∷ []) (Simple Skip Nothing) (pos 0 ∷ [])
  pub second_block : Executes empty_first (negsuc 0 ∷ []) (Simple Skip (Simple Skip Nothing)) (negsuc 0 ∷ [])
  pub not_second : ¬ (Executes empty_first (pos 0 ∷ []) (Simple Skip (Simple Skip Nothing)) (pos 0 ∷ []))
  -- From 1, the counting loop ends after three steps with 0; from 0, it makes no second step.
  pub counted : EndsWith counting (pos 1 ∷ []) 3 (pos 0 ∷ [])
  pub no_second : (end : List ℤ) → ¬ (EndsWith counting (pos 0 ∷ []) 2 end)
