-- Worked values of accepted and refused moves, side bounds and sizes.
use Rattle.std.specs.Prelude.{ℕ, zero, suc, List, [], ◌∷◌, pos, Option, Some, None}
use Rattle.run_counting.specs.model.Terms.{Variable, Multiplication}
use Rattle.run_counting.specs.model.Bounds.{Constant, Input}
use Rattle.run_counting.specs.model.Facts.{Fact, Time, Size}
use Rattle.run_counting.specs.model.Polynomials.{Polynomial}
use Rattle.cert_rules.specs.Nodes.{Poly, Member, Cite, Start, Spread, Cycle, NoProof, AndProof}
use Rattle.cert_rules.specs.Known.{table_of}
use Rattle.cert_rules.specs.Setting.{Setting}
use Rattle.cert_rules.specs.AcceptsSizes.{HasSizesAfter}
use Rattle.cert_rules.specs.Acceptance.{Accepts}
use Rattle.cert_rules.specs.WorkedSettings.{rule_over, program_with, no_rows, no_cost, no_cost_poly, folded}
use Rattle.cert_rules.specs.WorkedSettings.{zero_below}
use Rattle.cert_rules.specs.WorkedSettings.{counting, counting_new_values, doubling}
use Rattle.cert_rules.specs.Worked.{side_bound, only, down, entered_member, looped_member, doubled}

-- A * A as a polynomial
abbrev pub square : Polynomial
square = record { coef = pos 1; vars = 0 ∷ 0 ∷ [] } ∷ []

-- the only new value of each rule is A * A
abbrev pub squares : ℕ → ℕ → Option Polynomial
squares t zero = Some square
squares t (suc i) = None

-- k(A) -> l(A * A), and l(A) -> l(A * A)
abbrev pub squaring : Setting
squaring = record {
  program = program_with
      (rule_over 0 1 0 (Multiplication (Variable 0) (Variable 0)) []
      ∷ rule_over 1 1 0 (Multiplication (Variable 0) (Variable 0)) [] ∷ []);
  rows = no_rows;
  new_values = counting_new_values;
  poly = squares;
  cost_rows = no_rows;
  cost_value = no_cost;
  cost_poly = no_cost_poly;
  rewrite = folded;
  below = zero_below;
}

-- the place after a rule, with the update's own polynomial on both sides
abbrev pub nonlinear_member : ℕ → Member
nonlinear_member rule = record {
  result_variable = record { rule = rule; place = 1 };
  local = record { up = Poly; low = Poly };
}

-- the place after the first rule that counts down, with A on the low side, where -A is never below the negation
abbrev pub wrong_low : List ℕ → Member
wrong_low multipliers = record {
  result_variable = record { rule = 1; place = 1 };
  local = record { up = side_bound (pos 1) (pos 0) []; low = side_bound (pos 1) (pos 0) multipliers };
}

-- a member of which only the low side bound reads the place
abbrev pub low_reader : Member
low_reader = record {
  result_variable = record { rule = 1; place = 1 };
  local = record { up = side_bound (pos 0) (pos 0) []; low = side_bound (pos 1) (pos 0) [] };
}

-- the facts of one lemma: a size after the first rule
abbrev pub one_size : List (List Fact)
one_size = (Size 1 1 (Input 0) ∷ []) ∷ []

-- the facts of two lemmas: this size, and how often the second rule occurs
abbrev pub size_and_time : List (List Fact)
size_and_time = (Size 1 1 (Input 0) ∷ []) ∷ (Time 2 (Constant 3) ∷ []) ∷ []

-- worked values: a polynomial side bound outside a loop is accepted, but not one that reads a member. Refused are a
-- move that its multipliers don't show, a lower side bound that isn't over the negation, a spread or a loop without a
-- size that it reads, on either side, and a loop that multiplies by a rule without a time; with that time the loop is
-- accepted
pub record SizeNodesAreJudged : Type 0 where
  pub poly : Accepts squaring [] (Spread (nonlinear_member 1) (only Start))
  pub nonlinear : ¬ (Accepts squaring one_size (Cycle (nonlinear_member 2 ∷ []) (only (Cite 1))))
  pub wrong_move : ¬ (Accepts counting [] (down (1 ∷ []) (1 ∷ [])))
  pub wrong_low_side_bound : (multipliers : List ℕ) → ¬ (Accepts counting [] (Spread (wrong_low multipliers) (only Start)))
  pub spread_size : ¬ (Accepts counting [] (Spread entered_member NoProof))
  pub size_of_low_side_bound : ¬ (HasSizesAfter counting (table_of []) [] low_reader 0)
  pub loop_size : ¬ (Accepts counting [] (Cycle (looped_member ∷ []) (only Start)))
  pub loop_time : ¬ (Accepts doubling one_size (Cycle doubled (only (Cite 1))))
  pub with_time : Accepts doubling size_and_time (Cycle doubled (AndProof (Cite 1) (only (Cite 2))))
