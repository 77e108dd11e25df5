-- Worked values of the questions about rules: their columns, equations and costs, each with a solution or a dual, and
-- with numbers that are neither.
use Rattle.std.specs.Prelude.{◌≡◌, ℕ, ◌&&◌, Bool, false, nat_eq, if◌then◌else◌, List, [], ◌∷◌, ℤ, pos, negsuc}
use Rattle.linear_forms.specs.Forms.{Form, at}
use Rattle.linear_forms.specs.LinearProgram.{IsSolution, IsDual}
use Rattle.linear_forms.specs.Questions.{Equation, equations, program_of_question}
use Rattle.linear_forms.specs.RuleQuestions.{RuleForms, RankedSet, empty_question, rank_question, before_rule, opposite}
use Rattle.linear_forms.specs.RuleQuestions.{value_up, value_low, constant_question, fixed_question, affine_question}

-- forms in one unknown, and in two, by their coefficients and constants
abbrev pub line_form : ℤ → ℤ → Form
line_form a b = record { coefs = a ∷ []; constant = b }

abbrev pub plane_form : ℤ → ℤ → ℤ → Form
plane_form a b c = record { coefs = a ∷ b ∷ []; constant = c }

-- an equation, by its numbers and its right side
abbrev pub equation : List ℤ → ℤ → Equation
equation numbers right = record { numbers = numbers; right = right }

-- the rule f(A) -> g(A)
unfoldable pub entering_rule : RuleForms
entering_rule =
    record { source = 0; target = 1; left = 1; unknowns = 1; rows = []; new_values = line_form (pos 1) (pos 0) ∷ [] }

-- the rule f(A) -> g(C), whose new value is free
unfoldable pub free_rule : RuleForms
free_rule =
    record { source = 0; target = 1; left = 1; unknowns = 2; rows = []; new_values = plane_form (pos 0) (pos 1) (pos 0) ∷ [] }

-- the rule g(A) -> g(A - 1) :|: A >= 1
unfoldable pub falling_rule : RuleForms
falling_rule = record {
  source = 1;
  target = 1;
  left = 1;
  unknowns = 1;
  rows = line_form (pos 1) (negsuc 0) ∷ [];
  new_values = line_form (pos 1) (negsuc 0) ∷ [];
}

-- the rule g(A) -> g(A) :|: A >= 1 && A <= 0
unfoldable pub impossible_rule : RuleForms
impossible_rule = record {
  source = 1;
  target = 1;
  left = 1;
  unknowns = 1;
  rows = line_form (pos 1) (negsuc 0) ∷ line_form (negsuc 0) (pos 0) ∷ [];
  new_values = line_form (pos 1) (pos 0) ∷ [];
}

-- the rule g(A, B) -> g(A + B, B - 1) :|: A >= 1
unfoldable pub sliding_rule : RuleForms
sliding_rule = record {
  source = 1;
  target = 1;
  left = 2;
  unknowns = 2;
  rows = plane_form (pos 1) (pos 0) (negsuc 0) ∷ [];
  new_values = plane_form (pos 1) (pos 1) (pos 0) ∷ plane_form (pos 0) (pos 1) (negsuc 0) ∷ [];
}

-- no place is shut
abbrev pub none_shut : ℕ → ℕ → Bool
none_shut s i = false

-- the rules f(A) -> g(A) and g(A) -> g(A - 1) :|: A >= 1, of which the second has to decrease; f is entered
unfoldable pub falling_set : RankedSet
falling_set = record {
  symbols = 2;
  arity = λ s. 1;
  rule = λ t. if nat_eq t 1 then entering_rule else falling_rule;
  set = 1 ∷ 2 ∷ [];
  strict = 2;
  shut = none_shut;
  entered = λ s. nat_eq s 0;
}

-- the second of these rules alone, with g as an entered symbol and its place shut
unfoldable pub shut_set : RankedSet
shut_set = record {
  symbols = 2;
  arity = λ s. 1;
  rule = λ t. falling_rule;
  set = 2 ∷ [];
  strict = 2;
  shut = λ s i. nat_eq s 1 && nat_eq i 1;
  entered = λ s. nat_eq s 1;
}

-- the rule g(A, B) -> g(A + B, B - 1) :|: A >= 1 alone, with g as an entered symbol
unfoldable pub sliding_set : RankedSet
sliding_set = record {
  symbols = 2;
  arity = λ s. 2;
  rule = λ t. sliding_rule;
  set = 2 ∷ [];
  strict = 2;
  shut = none_shut;
  entered = λ s. nat_eq s 1;
}

-- the rows A - 1 >= 0 and -A >= 0 have no point. The equations are -(m - n) = 0 and -(-m) - s = 1, in the columns m, n,
-- s. The solution m = n = 1, s = 0 satisfies them, and m = 1, n = 0 doesn't
pub record ImpossibleIsEmpty : Type 0 where
  pub columns : (program_of_question (empty_question impossible_rule)).columns ≡ 3
  pub equations_are : equations 0 (empty_question impossible_rule).groups
      ≡ equation (negsuc 0 ∷ pos 1 ∷ pos 0 ∷ []) (pos 0) ∷ equation (pos 1 ∷ pos 0 ∷ negsuc 0 ∷ []) (pos 1) ∷ []
  pub solved : IsSolution (program_of_question (empty_question impossible_rule)) (at (pos 1 ∷ pos 1 ∷ pos 0 ∷ []))
      (pos 1)
  pub unsolved : ¬ (IsSolution (program_of_question (empty_question impossible_rule)) (at (pos 1 ∷ pos 0 ∷ pos 0 ∷ []))
      (pos 1))

-- the row A - 1 >= 0 in A and B has a point. The equations are -m = 0, 0 = 0 and -(-m) - s = 1, in the columns m, s.
-- The dual 1, 1, 1 refutes them, with the point A = B = 1; the dual 0, 0, 1 doesn't, as A = B = 0 is no point
pub record SlidingHasPoint : Type 0 where
  pub columns : (program_of_question (empty_question sliding_rule)).columns ≡ 2
  pub equations_are : equations 0 (empty_question sliding_rule).groups
      ≡ equation (negsuc 0 ∷ pos 0 ∷ []) (pos 0) ∷ equation (pos 0 ∷ pos 0 ∷ []) (pos 0)
      ∷ equation (pos 1 ∷ negsuc 0 ∷ []) (pos 1) ∷ []
  pub refuted : IsDual (program_of_question (empty_question sliding_rule)) (at (pos 1 ∷ pos 1 ∷ pos 1 ∷ []))
  pub not_refuted : ¬ (IsDual (program_of_question (empty_question sliding_rule)) (at (pos 0 ∷ pos 0 ∷ pos 1 ∷ [])))

-- the function a*A + b at f and c*A + d at g, in the columns a+, a-, b+, b-, c+, c-, d+, d-, then s for the first rule,
-- m and t for the second, and n and u for the floor. The equations are a - c = 0 and b - d - s = 0; -m = 0 and c + m -
-- t = 1; c - n = 0 and d + n - u = 1. The function A at both symbols, with n = 1, satisfies them; with n = 0 it doesn't
pub record FallingIsRanked : Type 0 where
  pub columns : (program_of_question (rank_question falling_set)).columns ≡ 13
  pub entering_lines : equations 0 (rank_question falling_set).groups
      ≡ equation (pos 1 ∷ negsuc 0 ∷ pos 0 ∷ pos 0 ∷ negsuc 0 ∷ pos 1 ∷ pos 0 ∷ pos 0 ∷ pos 0 ∷ []) (pos 0)
      ∷ equation (pos 0 ∷ pos 0 ∷ pos 1 ∷ negsuc 0 ∷ pos 0 ∷ pos 0 ∷ negsuc 0 ∷ pos 1 ∷ negsuc 0 ∷ []) (pos 0)
      ∷ equation (pos 0 ∷ pos 0 ∷ pos 0 ∷ pos 0 ∷ pos 0 ∷ pos 0 ∷ pos 0 ∷ pos 0 ∷ pos 0 ∷ negsuc 0 ∷ pos 0 ∷ []) (pos 0)
      ∷ equation (pos 0 ∷ pos 0 ∷ pos 0 ∷ pos 0 ∷ pos 1 ∷ negsuc 0 ∷ pos 0 ∷ pos 0 ∷ pos 0 ∷ pos 1 ∷ negsuc 0 ∷ [])
      (pos 1)
      ∷ equation (pos 0 ∷ pos 0 ∷ pos 0 ∷ pos 0 ∷ pos 1 ∷ negsuc 0 ∷ pos 0 ∷ pos 0 ∷ pos 0 ∷ pos 0 ∷ pos 0 ∷ negsuc 0
      ∷ pos 0 ∷ []) (pos 0)
      ∷ equation (pos 0 ∷ pos 0 ∷ pos 0 ∷ pos 0 ∷ pos 0 ∷ pos 0 ∷ pos 1 ∷ negsuc 0 ∷ pos 0 ∷ pos 0 ∷ pos 0 ∷ pos 1
      ∷ negsuc 0 ∷ []) (pos 1)
      ∷ []
  pub first : (j : ℕ) → (program_of_question (rank_question falling_set)).first j
      ≡ at (pos 1 ∷ pos 1 ∷ pos 0 ∷ pos 0 ∷ pos 0 ∷ pos 0 ∷ pos 0 ∷ pos 0 ∷ []) j
  pub second : (j : ℕ) → (program_of_question (rank_question falling_set)).second j
      ≡ at (pos 0 ∷ pos 0 ∷ pos 1 ∷ pos 0 ∷ pos 0 ∷ pos 0 ∷ pos 0 ∷ pos 0 ∷ []) j
  pub solved : IsSolution (program_of_question (rank_question falling_set))
      (at (pos 1 ∷ pos 0 ∷ pos 0 ∷ pos 0 ∷ pos 1 ∷ pos 0 ∷ pos 0 ∷ pos 0 ∷ pos 0 ∷ pos 0 ∷ pos 0 ∷ pos 1 ∷ pos 0 ∷ []))
      (pos 1)
  pub unsolved : ¬ (IsSolution (program_of_question (rank_question falling_set))
      (at (pos 1 ∷ pos 0 ∷ pos 0 ∷ pos 0 ∷ pos 1 ∷ pos 0 ∷ pos 0 ∷ pos 0 ∷ pos 0 ∷ pos 0 ∷ pos 0 ∷ pos 0 ∷ pos 0 ∷ []))
      (pos 1))

-- if A is shut, the function is a constant b, in the columns b+, b-, then m and s for the rule, and n and t for the
-- floor. The equations are -m = 0 and m - s = 1; -n = 0 and b + n - t = 1. The dual 1, 1, 1, 0 refutes them: the rule
-- moves from A = 1, and the floor is the ray along A. A dual with the floor at a point doesn't
pub record ShutIsNotRanked : Type 0 where
  pub columns : (program_of_question (rank_question shut_set)).columns ≡ 6
  pub equations_are : equations 0 (rank_question shut_set).groups
      ≡ equation (pos 0 ∷ pos 0 ∷ negsuc 0 ∷ pos 0 ∷ []) (pos 0)
      ∷ equation (pos 0 ∷ pos 0 ∷ pos 1 ∷ negsuc 0 ∷ []) (pos 1)
      ∷ equation (pos 0 ∷ pos 0 ∷ pos 0 ∷ pos 0 ∷ negsuc 0 ∷ pos 0 ∷ []) (pos 0)
      ∷ equation (pos 1 ∷ negsuc 0 ∷ pos 0 ∷ pos 0 ∷ pos 1 ∷ negsuc 0 ∷ []) (pos 1)
      ∷ []
  pub refuted : IsDual (program_of_question (rank_question shut_set)) (at (pos 1 ∷ pos 1 ∷ pos 1 ∷ pos 0 ∷ []))
  pub not_refuted : ¬ (IsDual (program_of_question (rank_question shut_set)) (at (pos 1 ∷ pos 1 ∷ pos 1 ∷ pos 1 ∷ [])))

-- the function a*A + b*B + c, in the columns a+, a-, b+, b-, c+, c-, then m and s for the rule, and n and t for the
-- floor. The equations are -m = 0, -a = 0 and b + m - s = 1; a - n = 0, b = 0 and c + n - t = 1. The dual 1, 1, 1, 1,
-- -1, 0 refutes them: the rule moves from A = B = 1, and the floor is the ray along A and against B. Without the ray
-- the coefficients of b don't cancel
pub record SlidingIsNotRanked : Type 0 where
  pub columns : (program_of_question (rank_question sliding_set)).columns ≡ 10
  pub equations_are : equations 0 (rank_question sliding_set).groups
      ≡ equation (pos 0 ∷ pos 0 ∷ pos 0 ∷ pos 0 ∷ pos 0 ∷ pos 0 ∷ negsuc 0 ∷ pos 0 ∷ []) (pos 0)
      ∷ equation (negsuc 0 ∷ pos 1 ∷ pos 0 ∷ pos 0 ∷ pos 0 ∷ pos 0 ∷ pos 0 ∷ pos 0 ∷ []) (pos 0)
      ∷ equation (pos 0 ∷ pos 0 ∷ pos 1 ∷ negsuc 0 ∷ pos 0 ∷ pos 0 ∷ pos 1 ∷ negsuc 0 ∷ []) (pos 1)
      ∷ equation (pos 1 ∷ negsuc 0 ∷ pos 0 ∷ pos 0 ∷ pos 0 ∷ pos 0 ∷ pos 0 ∷ pos 0 ∷ negsuc 0 ∷ pos 0 ∷ []) (pos 0)
      ∷ equation (pos 0 ∷ pos 0 ∷ pos 1 ∷ negsuc 0 ∷ pos 0 ∷ pos 0 ∷ pos 0 ∷ pos 0 ∷ pos 0 ∷ pos 0 ∷ []) (pos 0)
      ∷ equation (pos 0 ∷ pos 0 ∷ pos 0 ∷ pos 0 ∷ pos 1 ∷ negsuc 0 ∷ pos 0 ∷ pos 0 ∷ pos 1 ∷ negsuc 0 ∷ []) (pos 1)
      ∷ []
  pub first : (j : ℕ) → (program_of_question (rank_question sliding_set)).first j
      ≡ at (pos 1 ∷ pos 1 ∷ pos 1 ∷ pos 1 ∷ pos 0 ∷ pos 0 ∷ []) j
  pub second : (j : ℕ) → (program_of_question (rank_question sliding_set)).second j
      ≡ at (pos 0 ∷ pos 0 ∷ pos 0 ∷ pos 0 ∷ pos 1 ∷ pos 0 ∷ []) j
  pub refuted : IsDual (program_of_question (rank_question sliding_set))
      (at (pos 1 ∷ pos 1 ∷ pos 1 ∷ pos 1 ∷ negsuc 0 ∷ pos 0 ∷ []))
  pub not_refuted : ¬ (IsDual (program_of_question (rank_question sliding_set))
      (at (pos 1 ∷ pos 1 ∷ pos 1 ∷ pos 0 ∷ pos 0 ∷ pos 0 ∷ [])))

-- the falling rule's new value A - 1 is at most the argument A: the equations -m = 0 and m - s = -1 have the solution m
-- = 0, s = 1, and m = s = 0 isn't one. It isn't at most -A: the equations -m = 2 and m - s = -1 are refuted by the dual
-- 1, 1, with the point A = 1
pub record FallingStaysBelow : Type 0 where
  pub equations_are : equations 0 (fixed_question falling_rule (value_up falling_rule 1) (before_rule 1)).groups
      ≡ equation (negsuc 0 ∷ pos 0 ∷ []) (pos 0) ∷ equation (pos 1 ∷ negsuc 0 ∷ []) (negsuc 0) ∷ []
  pub solved : IsSolution (program_of_question (fixed_question falling_rule (value_up falling_rule 1) (before_rule 1)))
      (at (pos 0 ∷ pos 1 ∷ [])) (pos 1)
  pub unsolved : ¬ (IsSolution (program_of_question
      (fixed_question falling_rule (value_up falling_rule 1) (before_rule 1))) (at (pos 0 ∷ pos 0 ∷ [])) (pos 1))
  pub opposite_equations_are : equations 0 (fixed_question falling_rule (value_up falling_rule 1)
      (opposite (before_rule 1))).groups
      ≡ equation (negsuc 0 ∷ pos 0 ∷ []) (pos 2) ∷ equation (pos 1 ∷ negsuc 0 ∷ []) (negsuc 0) ∷ []
  pub refuted : IsDual (program_of_question (fixed_question falling_rule (value_up falling_rule 1)
      (opposite (before_rule 1)))) (at (pos 1 ∷ pos 1 ∷ []))

-- the negated new value 1 - A is at most a constant b: the equations are -m = -1 and b + m - s = 1, in the columns b+,
-- b-, m, s, with the solution m = 1, b = 0; the constant is weighed by the second costs
pub record FallingStaysAbove : Type 0 where
  pub columns : (program_of_question (constant_question falling_rule (value_low falling_rule 1))).columns ≡ 4
  pub equations_are : equations 0 (constant_question falling_rule (value_low falling_rule 1)).groups
      ≡ equation (pos 0 ∷ pos 0 ∷ negsuc 0 ∷ pos 0 ∷ []) (negsuc 0)
      ∷ equation (pos 1 ∷ negsuc 0 ∷ pos 1 ∷ negsuc 0 ∷ []) (pos 1) ∷ []
  pub first : (j : ℕ) → (program_of_question (constant_question falling_rule (value_low falling_rule 1))).first j
      ≡ at (pos 0 ∷ pos 0 ∷ []) j
  pub second : (j : ℕ) → (program_of_question (constant_question falling_rule (value_low falling_rule 1))).second j
      ≡ at (pos 1 ∷ pos 0 ∷ []) j
  pub solved : IsSolution (program_of_question (constant_question falling_rule (value_low falling_rule 1)))
      (at (pos 0 ∷ pos 0 ∷ pos 1 ∷ pos 0 ∷ [])) (pos 1)

-- the sliding rule's new value A + B is at most a form a*A + b*B + c: the equations are a - m = 1, b = 1 and c + m - s
-- = 0, in the columns a+, a-, b+, b-, c+, c-, m, s, with the solution a = b = 1
pub record SlidingIsAffine : Type 0 where
  pub columns : (program_of_question (affine_question sliding_rule (value_up sliding_rule 1))).columns ≡ 8
  pub equations_are : equations 0 (affine_question sliding_rule (value_up sliding_rule 1)).groups
      ≡ equation (pos 1 ∷ negsuc 0 ∷ pos 0 ∷ pos 0 ∷ pos 0 ∷ pos 0 ∷ negsuc 0 ∷ pos 0 ∷ []) (pos 1)
      ∷ equation (pos 0 ∷ pos 0 ∷ pos 1 ∷ negsuc 0 ∷ pos 0 ∷ pos 0 ∷ pos 0 ∷ pos 0 ∷ []) (pos 1)
      ∷ equation (pos 0 ∷ pos 0 ∷ pos 0 ∷ pos 0 ∷ pos 1 ∷ negsuc 0 ∷ pos 1 ∷ negsuc 0 ∷ []) (pos 0)
      ∷ []
  pub first : (j : ℕ) → (program_of_question (affine_question sliding_rule (value_up sliding_rule 1))).first j
      ≡ at (pos 1 ∷ pos 1 ∷ pos 1 ∷ pos 1 ∷ pos 0 ∷ pos 0 ∷ []) j
  pub second : (j : ℕ) → (program_of_question (affine_question sliding_rule (value_up sliding_rule 1))).second j
      ≡ at (pos 0 ∷ pos 0 ∷ pos 0 ∷ pos 0 ∷ pos 1 ∷ pos 0 ∷ []) j
  pub solved : IsSolution (program_of_question (affine_question sliding_rule (value_up sliding_rule 1)))
      (at (pos 1 ∷ pos 0 ∷ pos 1 ∷ pos 0 ∷ pos 0 ∷ pos 0 ∷ pos 0 ∷ pos 0 ∷ [])) (pos 1)

-- the free rule's new value C is at most no form a*A + c: the equations are a = 0, 0 = 1 and c - s = 0. The dual 0, 1,
-- 0 refutes them, which is a ray along C; the ray along A doesn't
pub record FreeIsUnbounded : Type 0 where
  pub equations_are : equations 0 (affine_question free_rule (value_up free_rule 1)).groups
      ≡ equation (pos 1 ∷ negsuc 0 ∷ pos 0 ∷ pos 0 ∷ pos 0 ∷ []) (pos 0)
      ∷ equation (pos 0 ∷ pos 0 ∷ pos 0 ∷ pos 0 ∷ pos 0 ∷ []) (pos 1)
      ∷ equation (pos 0 ∷ pos 0 ∷ pos 1 ∷ negsuc 0 ∷ negsuc 0 ∷ []) (pos 0)
      ∷ []
  pub refuted : IsDual (program_of_question (affine_question free_rule (value_up free_rule 1)))
      (at (pos 0 ∷ pos 1 ∷ pos 0 ∷ []))
  pub not_refuted : ¬ (IsDual (program_of_question (affine_question free_rule (value_up free_rule 1)))
      (at (pos 1 ∷ pos 0 ∷ pos 0 ∷ [])))

-- the worked values of questions
pub record QuestionValues : Type 0 where
  pub impossible : ImpossibleIsEmpty
  pub point : SlidingHasPoint
  pub ranked : FallingIsRanked
  pub shut : ShutIsNotRanked
  pub not_ranked : SlidingIsNotRanked
  pub below : FallingStaysBelow
  pub above : FallingStaysAbove
  pub affine : SlidingIsAffine
  pub unbounded : FreeIsUnbounded
