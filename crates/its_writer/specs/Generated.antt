-- The generated programs.
use Rattle.std.specs.Prelude.{ℕ, zero, suc, ◌+◌, List, [], ◌∷◌, ◌++◌, pos, codes, None}
use Rattle.its_text.specs.expr_text.model.Programs.{Name, AtLeast, Compare, Symbol, Rule, Program}
use Rattle.its_text.specs.expr_text.model.Terms.{Literal, Variable, Subtraction}
use Rattle.its_writer.specs.Layout.{numeral}

-- the symbol of a location: `l` and its number as name, with two places
abbrev pub location : ℕ → Symbol
location i = record { name = codes "l" ++ numeral i; arity = 2 }

-- the variables `A` and `B`
abbrev pub two_names : List Name
two_names = codes "A" ∷ codes "B" ∷ []

-- the first rule: `l0(A,B) -> Com_1(l1(A,B))`
abbrev pub entry_rule : Rule
entry_rule = record {
  source = 0;
  target = 1;
  left = 2;
  free = 0;
  names = two_names;
  updates = Variable 0 ∷ Variable 1 ∷ [];
  guard = [];
  cost = None;
}

-- the rule that counts down: `li(A,B) -> Com_1(li(A-1,B)) :|: A >= 1`
abbrev pub counting_rule : ℕ → Rule
counting_rule i = record {
  source = i;
  target = i;
  left = 2;
  free = 0;
  names = two_names;
  updates = Subtraction (Variable 0) (Literal (pos 1)) ∷ Variable 1 ∷ [];
  guard = Compare (Variable 0) AtLeast (Literal (pos 1)) ∷ [];
  cost = None;
}

-- the rule to the next location: `li(A,B) -> Com_1(lj(B,B))` with j = i + 1
abbrev pub leaving_rule : ℕ → Rule
leaving_rule i = record {
  source = i;
  target = suc i;
  left = 2;
  free = 0;
  names = two_names;
  updates = Variable 1 ∷ Variable 1 ∷ [];
  guard = [];
  cost = None;
}

-- the symbols with the numbers below n
abbrev pub locations : ℕ → List Symbol
locations zero = []
locations (suc n) = locations n ++ location n ∷ []

-- the first rule, and the two rules for each i from 1 to n
abbrev pub generated_rules : ℕ → List Rule
generated_rules zero = entry_rule ∷ []
generated_rules (suc n) = generated_rules n ++ counting_rule (suc n) ∷ leaving_rule (suc n) ∷ []

-- the generated program
abbrev pub generated : ℕ → Program
generated n = record {
  symbols = locations (n + 2);
  start = 0;
  start_names = two_names;
  rules = generated_rules n;
}
