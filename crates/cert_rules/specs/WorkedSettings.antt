-- Small programs with their rows, worked out by hand, for worked values of acceptance.
use Rattle.std.specs.Prelude.{ℕ, zero, suc, Bool, true, false, cond, ◌&&◌, ◌||◌, List, [], ◌∷◌, ℤ, pos, negsuc, Option}
use Rattle.std.specs.Prelude.{None}
use Rattle.run_counting.specs.model.Terms.{Term, Literal, Variable, Subtraction, Multiplication}
use Rattle.run_counting.specs.model.Programs.{AtLeast, Atom, Compare, Symbol, Rule, Program}
use Rattle.run_counting.specs.model.Polynomials.{Polynomial}
use Rattle.run_counting.specs.model.Bounds.{Bound, Constant, Input, SumOf, ProductOf, MaximumOf, PowerOf, Parts}
use Rattle.run_counting.specs.model.Bounds.{NoParts, Part}
use Rattle.rule_forms.specs.linear_forms.Forms.{Form}
use Rattle.cert_rules.specs.Setting.{Setting}

-- the bound is 0, by its structure
abbrev mutual
  pub is_nothing : Bound → Bool
  is_nothing (Constant zero) = true
  is_nothing (Constant (suc n)) = false
  is_nothing (Input i) = false
  is_nothing (SumOf bs) = are_nothing bs
  is_nothing (ProductOf bs) = has_nothing bs
  is_nothing (MaximumOf bs) = are_nothing bs
  is_nothing (PowerOf c e) = false

  pub are_nothing : Parts → Bool
  are_nothing NoParts = true
  are_nothing (Part b bs) = is_nothing b && are_nothing bs

  pub has_nothing : Parts → Bool
  has_nothing NoParts = false
  has_nothing (Part b bs) = is_nothing b || has_nothing bs

-- the least rewriting that these programs need: a bound that is 0 becomes the constant 0
abbrev pub folded : Bound → Bound
folded b = cond (is_nothing b) (Constant 0) b

-- the least order: the constant 0 is below everything
abbrev pub zero_below : Bound → Bound → Bool
zero_below (Constant zero) b = true
zero_below a b = false

-- a symbol with a name of one letter, and a form
abbrev pub symbol_of : ℕ → ℕ → Symbol
symbol_of letter places = record { name = letter ∷ []; arity = places }

abbrev pub form : List ℤ → ℤ → Form
form coefs constant = record { coefs = coefs; constant = constant }

-- a rule over one left variable and some free ones
abbrev pub rule_over : ℕ → ℕ → ℕ → Term → List Atom → Rule
rule_over source target free update guard = record {
  source = source;
  target = target;
  left = 1;
  free = free;
  names = [];
  updates = update ∷ [];
  guard = guard;
  cost = None;
}

-- a program over three symbols with one place each
abbrev pub program_with : List Rule → Program
program_with rules = record {
  symbols = symbol_of 107 1 ∷ symbol_of 108 1 ∷ symbol_of 109 1 ∷ [];
  start = 0;
  start_names = (65 ∷ []) ∷ [];
  rules = rules;
}

-- no update has degree 2 or more
abbrev pub no_poly : ℕ → ℕ → Option Polynomial
no_poly t i = None

-- no rule has a row
abbrev pub no_rows : ℕ → List Form
no_rows t = []

-- no rule has a cost
abbrev pub no_cost : ℕ → Form
no_cost t = form [] (pos 0)

abbrev pub no_cost_poly : ℕ → Option Polynomial
no_cost_poly t = None

-- k(A) -> l(A), and l(A) -> l(A - 1) where A >= 1
abbrev pub enter : Rule
enter = rule_over 0 1 0 (Variable 0) []

abbrev pub count_down : Rule
count_down = rule_over 1 1 0 (Subtraction (Variable 0) (Literal (pos 1)))
    (Compare (Variable 0) AtLeast (Literal (pos 1)) ∷ [])

abbrev pub counting_rows : ℕ → List Form
counting_rows zero = []
counting_rows (suc zero) = []
counting_rows (suc (suc zero)) = form (pos 1 ∷ []) (negsuc 0) ∷ []
counting_rows (suc (suc (suc t))) = []

abbrev pub counting_new_values : ℕ → List Form
counting_new_values zero = []
counting_new_values (suc zero) = form (pos 1 ∷ []) (pos 0) ∷ []
counting_new_values (suc (suc zero)) = form (pos 1 ∷ []) (negsuc 0) ∷ []
counting_new_values (suc (suc (suc t))) = []

-- the program that counts down
abbrev pub counting : Setting
counting = record {
  program = program_with (enter ∷ count_down ∷ []);
  rows = counting_rows;
  new_values = counting_new_values;
  poly = no_poly;
  cost_rows = no_rows;
  cost_value = no_cost;
  cost_poly = no_cost_poly;
  rewrite = folded;
  below = zero_below;
}

-- the program that counts down without its guard: the value falls for ever
abbrev pub falling : Setting
falling = record {
  program = program_with (enter ∷ rule_over 1 1 0 (Subtraction (Variable 0) (Literal (pos 1))) [] ∷ []);
  rows = no_rows;
  new_values = counting_new_values;
  poly = no_poly;
  cost_rows = no_rows;
  cost_value = no_cost;
  cost_poly = no_cost_poly;
  rewrite = folded;
  below = zero_below;
}

-- k(A) -> l(C) with a free variable C
abbrev pub free_new_values : ℕ → List Form
free_new_values t = form (pos 0 ∷ pos 1 ∷ []) (pos 0) ∷ []

abbrev pub guessing : Setting
guessing = record {
  program = program_with (rule_over 0 1 1 (Variable 1) [] ∷ []);
  rows = no_rows;
  new_values = free_new_values;
  poly = no_poly;
  cost_rows = no_rows;
  cost_value = no_cost;
  cost_poly = no_cost_poly;
  rewrite = folded;
  below = zero_below;
}

-- k(A) -> l(A), and m(A) -> m(A), whose source is never reached
abbrev pub apart : Setting
apart = record {
  program = program_with (enter ∷ rule_over 2 2 0 (Variable 0) [] ∷ []);
  rows = no_rows;
  new_values = counting_new_values;
  poly = no_poly;
  cost_rows = no_rows;
  cost_value = no_cost;
  cost_poly = no_cost_poly;
  rewrite = folded;
  below = zero_below;
}

-- k(A) -> l(A), k(A) -> l(A), and l(A) -> l(A - 1): the loop has two entries
abbrev pub two_ways_in : Program
two_ways_in = program_with (enter ∷ enter ∷ count_down ∷ [])

-- k(A) -> l(A), and l(A) -> l(2 * A)
abbrev pub doubling_new_values : ℕ → List Form
doubling_new_values zero = []
doubling_new_values (suc zero) = form (pos 1 ∷ []) (pos 0) ∷ []
doubling_new_values (suc (suc t)) = form (pos 2 ∷ []) (pos 0) ∷ []

abbrev pub doubling : Setting
doubling = record {
  program = program_with (enter ∷ rule_over 1 1 0 (Multiplication (Literal (pos 2)) (Variable 0)) [] ∷ []);
  rows = no_rows;
  new_values = doubling_new_values;
  poly = no_poly;
  cost_rows = no_rows;
  cost_value = no_cost;
  cost_poly = no_cost_poly;
  rewrite = folded;
  below = zero_below;
}

-- k(A) -> l(A), and l(A) -> l(A) where A >= 1 and A <= 0
abbrev pub stuck_rows : ℕ → List Form
stuck_rows zero = []
stuck_rows (suc zero) = []
stuck_rows (suc (suc t)) = form (pos 1 ∷ []) (negsuc 0) ∷ form (negsuc 0 ∷ []) (pos 0) ∷ []

abbrev pub stay : Rule
stay = rule_over 1 1 0 (Variable 0)
    (Compare (Variable 0) AtLeast (Literal (pos 1)) ∷ Compare (Literal (pos 0)) AtLeast (Variable 0) ∷ [])

abbrev pub stuck : Setting
stuck = record {
  program = program_with (enter ∷ stay ∷ []);
  rows = stuck_rows;
  new_values = counting_new_values;
  poly = no_poly;
  cost_rows = no_rows;
  cost_value = no_cost;
  cost_poly = no_cost_poly;
  rewrite = folded;
  below = zero_below;
}
