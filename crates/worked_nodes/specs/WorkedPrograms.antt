-- Small programs for worked values of nodes.
use Rattle.std.specs.Prelude.{ℕ, List, [], ◌∷◌, map, pos, None}
use Rattle.cert_program.specs.model.Terms.{Term, Literal, Variable, Subtraction, Multiplication}
use Rattle.cert_program.specs.model.Programs.{AtLeast, AtMost, Atom, Compare, Rule, Program}

-- a rule from one symbol to another, over this many left and free variables, with these updates and this guard
abbrev pub rule : ℕ → ℕ → ℕ → ℕ → List Term → List Atom → Rule
rule source target left free updates guard = record {
  source = source;
  target = target;
  left = left;
  free = free;
  names = [];
  updates = updates;
  guard = guard;
  cost = None;
}

-- a program over symbols with this many places each, which starts at the first one
abbrev pub program : List ℕ → List Rule → Program
program arities rules = record {
  symbols = map (λ n. record { name = []; arity = n }) arities;
  start = 0;
  start_names = [];
  rules = rules;
}

-- the first variables, which are A, B and C below, and numbers
abbrev pub first : Term
first = Variable 0

abbrev pub second : Term
second = Variable 1

abbrev pub third : Term
third = Variable 2

abbrev pub number : ℕ → Term
number n = Literal (pos n)

-- a term less a number, and a multiple of a term
abbrev pub lowered : Term → ℕ → Term
lowered e n = Subtraction e (number n)

abbrev pub times : ℕ → Term → Term
times n e = Multiplication (number n) e

abbrev pub square : Term → Term
square e = Multiplication e e

-- the atoms that a term is at least a number, and at most a number
abbrev pub at_least : Term → ℕ → Atom
at_least e n = Compare e AtLeast (number n)

abbrev pub at_most : Term → ℕ → Atom
at_most e n = Compare e AtMost (number n)

-- the entering rules k(A) -> l(A), and k(A, B) -> l(A, B)
abbrev pub enter : Rule
enter = rule 0 1 1 0 (first ∷ []) []

abbrev pub enter_with_two : Rule
enter_with_two = rule 0 1 2 0 (first ∷ second ∷ []) []

-- l(A) -> l(t) for this term t, with this guard
abbrev pub loop : Term → List Atom → Rule
loop update guard = rule 1 1 1 0 (update ∷ []) guard

-- the entering rule, and l(A) -> l(A - 1) where A >= 1
abbrev pub counting_down : Program
counting_down = program (1 ∷ 1 ∷ []) (enter ∷ loop (lowered first 1) (at_least first 1 ∷ []) ∷ [])

-- the entering rule twice, and the same loop
abbrev pub two_ways_in : Program
two_ways_in = program (1 ∷ 1 ∷ []) (enter ∷ enter ∷ loop (lowered first 1) (at_least first 1 ∷ []) ∷ [])

-- k(A) -> k(A - 1) where A >= 1
abbrev pub looping_start : Program
looping_start = program (1 ∷ []) (rule 0 0 1 0 (lowered first 1 ∷ []) (at_least first 1 ∷ []) ∷ [])

-- the entering rule, and l(A) -> l(A - 2) where A >= 1
abbrev pub by_twos : Program
by_twos = program (1 ∷ 1 ∷ []) (enter ∷ loop (lowered first 2) (at_least first 1 ∷ []) ∷ [])

-- k(A) -> l(A) where A >= 5
abbrev pub guarded_entry : Program
guarded_entry = program (1 ∷ 1 ∷ []) (rule 0 1 1 0 (first ∷ []) (at_least first 5 ∷ []) ∷ [])

-- the entering rule, and l(A) -> l(A) where A >= 1 and A <= 0
abbrev pub contradicted : Program
contradicted = program (1 ∷ 1 ∷ []) (enter ∷ loop first (at_least first 1 ∷ at_most first 0 ∷ []) ∷ [])

-- the entering rule, and l(A) -> l(A) where 2 * A >= 1 and 2 * A <= 1, which no integer meets
abbrev pub between_integers : Program
between_integers =
    program (1 ∷ 1 ∷ []) (enter ∷ loop first (at_least (times 2 first) 1 ∷ at_most (times 2 first) 1 ∷ []) ∷ [])

-- the entering rule, and m(A) -> m(A)
abbrev pub apart : Program
apart = program (1 ∷ 1 ∷ 1 ∷ []) (enter ∷ rule 2 2 1 0 (first ∷ []) [] ∷ [])

-- the entering rule, l(A) -> m(A) where A >= 1 and A <= 0, and m(A) -> m(A)
abbrev pub cut_off : Program
cut_off = program (1 ∷ 1 ∷ 1 ∷ [])
    (enter ∷ rule 1 2 1 0 (first ∷ []) (at_least first 1 ∷ at_most first 0 ∷ []) ∷ rule 2 2 1 0 (first ∷ []) [] ∷ [])

-- k(A) -> l(A * A)
abbrev pub squaring : Program
squaring = program (1 ∷ 1 ∷ []) (rule 0 1 1 0 (square first ∷ []) [] ∷ [])

-- the entering rule, and l(A, B) -> l(A - 1, B * B) where A >= 1
abbrev pub squaring_loop : Program
squaring_loop = program (2 ∷ 2 ∷ [])
    (enter_with_two ∷ rule 1 1 2 0 (lowered first 1 ∷ square second ∷ []) (at_least first 1 ∷ []) ∷ [])

-- the entering rule, l(A) -> l(2 * A), and l(A) -> l(3 * A)
abbrev pub twice_or_thrice : Program
twice_or_thrice = program (1 ∷ 1 ∷ []) (enter ∷ loop (times 2 first) [] ∷ loop (times 3 first) [] ∷ [])

-- the entering rule, l(A) -> l(2 * A), and l(A) -> l(A * A)
abbrev pub twice_or_squared : Program
twice_or_squared = program (1 ∷ 1 ∷ []) (enter ∷ loop (times 2 first) [] ∷ loop (square first) [] ∷ [])

-- k(A, B) -> l(A, C) where C <= B and C >= 0 - A
abbrev pub chosen_between : Program
chosen_between = program (2 ∷ 2 ∷ [])
    (rule 0 1 2 1 (first ∷ third ∷ [])
    (Compare third AtMost second ∷ Compare third AtLeast (Subtraction (number 0) first) ∷ []) ∷ [])

-- the entering rule, l(A, B) -> m(A, A) where A >= 1, m(A, B) -> m(A, B - 1) where B >= 1, and m(A, B) -> l(A - 1, B)
-- where B <= 0
abbrev pub nested_loops : Program
nested_loops = program (2 ∷ 2 ∷ 2 ∷ [])
    (enter_with_two
    ∷ rule 1 2 2 0 (first ∷ first ∷ []) (at_least first 1 ∷ [])
    ∷ rule 2 2 2 0 (first ∷ lowered second 1 ∷ []) (at_least second 1 ∷ [])
    ∷ rule 2 1 2 0 (lowered first 1 ∷ second ∷ []) (at_most second 0 ∷ []) ∷ [])

-- the entering rule, l(A, B) -> l(A - 1, 2 * B) where A >= 1, l(A, B) -> m(B, B), and m(A, B) -> m(A - 1, B) where A >=
-- 1
abbrev pub doubling : Program
doubling = program (2 ∷ 2 ∷ 2 ∷ [])
    (enter_with_two
    ∷ rule 1 1 2 0 (lowered first 1 ∷ times 2 second ∷ []) (at_least first 1 ∷ [])
    ∷ rule 1 2 2 0 (second ∷ second ∷ []) []
    ∷ rule 2 2 2 0 (lowered first 1 ∷ second ∷ []) (at_least first 1 ∷ []) ∷ [])
