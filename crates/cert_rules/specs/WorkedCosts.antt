-- Nodes on costs that are accepted and that aren't, with their first reasons, worked out by hand.
use Rattle.std.specs.Prelude.{◌≡◌, ℕ, List, [], ◌∷◌, pos, negsuc, Option, Some, None}
use Rattle.run_counting.specs.model.Terms.{Term, Literal, Variable, Subtraction, Multiplication}
use Rattle.run_counting.specs.model.Programs.{AtLeast, Compare, Rule}
use Rattle.run_counting.specs.model.Polynomials.{Polynomial}
use Rattle.run_counting.specs.model.Bounds.{Bound, Constant, Input, ProductOf, MaximumOf, val}
use Rattle.run_counting.specs.model.Facts.{Fact, Time, Cost}
use Rattle.run_counting.specs.model.WorkedCosts.{with_cost}
use Rattle.rule_forms.specs.linear_forms.Forms.{Form}
use Rattle.cert_rules.specs.Nodes.{Poly, CostBy, EmptyCost, NeverCost, SideBoundCost, Proof, Cite, Start, Never, Weaken}
use Rattle.cert_rules.specs.Nodes.{Unreached, CostBound}
use Rattle.cert_rules.specs.Nodes.{Proofs, NoProof, AndProof}
use Rattle.cert_rules.specs.Composed.{both_parts}
use Rattle.cert_rules.specs.Setting.{Setting, IsFaithful}
use Rattle.cert_rules.specs.Acceptance.{Accepts, facts_of}
use Rattle.cert_rules.specs.Reasons.{Shape, NotEmpty, NotZero, SideBoundUp, MissingTime, MissingSize, Large}
use Rattle.cert_rules.specs.Checks.{IsFirstReason}
use Rattle.cert_rules.specs.WorkedSettings.{form, program_with, enter, rule_over, no_rows, counting_new_values, free_new_values}
use Rattle.cert_rules.specs.WorkedSettings.{no_poly}
use Rattle.cert_rules.specs.WorkedSettings.{folded, zero_below, counting}
use Rattle.cert_rules.specs.Worked.{one_part, side_bound, only, one_times, once_time, first_fact}
use Rattle.cert_rules.specs.WorkedSizes.{square}
use Rattle.cert_rules.specs.WorkedReasons.{tower}

-- the setting of one rule with a cost: its rows and new values, and the rows, the value and the polynomial of its cost,
-- are given; no update has degree 2 or more
abbrev pub one_paying : Rule → (ℕ → List Form) → (ℕ → List Form) → List Form → Form → Option Polynomial → Setting
one_paying rule rows new_values cost_rows cost_value cost_poly = record {
  program = program_with (rule ∷ []);
  rows = rows;
  new_values = new_values;
  poly = no_poly;
  cost_rows = λ t. cost_rows;
  cost_value = λ t. cost_value;
  cost_poly = λ t. cost_poly;
  rewrite = folded;
  below = zero_below;
}

-- A, as a form in the only left argument
abbrev pub form_of_A : Form
form_of_A = form (pos 1 ∷ []) (pos 0)

-- k(A) -> l(A) with the cost A: its cost rule has the row A >= 0, and the new value A
abbrev pub paying_rule : Rule
paying_rule = with_cost (Variable 0) enter

abbrev pub paying : Setting
paying = one_paying paying_rule no_rows counting_new_values (form_of_A ∷ []) form_of_A None

-- this setting with a rewriting that makes every bound 201 levels deep
abbrev pub paying_towers : Setting
paying_towers = record {
  program = paying.program;
  rows = paying.rows;
  new_values = paying.new_values;
  poly = paying.poly;
  cost_rows = paying.cost_rows;
  cost_value = paying.cost_value;
  cost_poly = paying.cost_poly;
  rewrite = λ b. tower 200;
  below = zero_below;
}

-- k(A) -> l(A) where A >= 0, with the cost -1 - A, which is never at least 0
abbrev pub below_zero : Term
below_zero = Subtraction (Literal (negsuc 0)) (Variable 0)

abbrev pub never_paying_rule : Rule
never_paying_rule =
    with_cost below_zero (rule_over 0 1 0 (Variable 0) (Compare (Variable 0) AtLeast (Literal (pos 0)) ∷ []))

abbrev pub never_paying : Setting
never_paying = one_paying never_paying_rule
    (λ t. form_of_A ∷ []) counting_new_values (form_of_A ∷ form (negsuc 0 ∷ []) (negsuc 0) ∷ [])
    (form (negsuc 0 ∷ []) (negsuc 0)) None

-- k(A) -> l(A) with the cost A * A; atoms of degree 2 give no row, and the cost has an unknown of its own
abbrev pub paying_squares : Setting
paying_squares = one_paying (with_cost (Multiplication (Variable 0) (Variable 0)) enter) no_rows counting_new_values []
    (form (pos 0 ∷ pos 1 ∷ []) (pos 0)) (Some square)

-- k(A) -> l(C) with the cost C * C, where C is free
abbrev pub free_square : Polynomial
free_square = record { coef = pos 1; vars = 1 ∷ 1 ∷ [] } ∷ []

abbrev pub paying_free_squares : Setting
paying_free_squares = one_paying
    (with_cost (Multiplication (Variable 1) (Variable 1)) (rule_over 0 1 1 (Variable 1) [])) no_rows free_new_values []
    (form (pos 0 ∷ pos 0 ∷ pos 1 ∷ []) (pos 0)) (Some free_square)

-- a node on the cost of a rule
abbrev pub charge : ℕ → CostBy → Proofs → Proof
charge rule by uses = CostBound (record { rule = rule; by = by }) uses

-- a side bound of a times A, with these multipliers for the cost rows
abbrev pub times_A : ℕ → List ℕ → CostBy
times_A a multipliers = SideBoundCost (side_bound (pos a) (pos 0) multipliers)

-- premises: the virtual entry, and the first lemma
abbrev pub start_and_first : Proofs
start_and_first = AndProof Start (only (Cite 1))

-- the facts of lemmas: a time of 0 for the rule; the times 1 and 0; and a cost of 0
abbrev pub no_time : List (List Fact)
no_time = (Time 1 (Constant 0) ∷ []) ∷ []

abbrev pub once_and_never : List (List Fact)
once_and_never = (Time 1 once_time ∷ []) ∷ (Time 1 (Constant 0) ∷ []) ∷ []

abbrev pub free_of_charge : List (List Fact)
free_of_charge = (Cost 1 (Constant 0) ∷ []) ∷ []

-- the rule's time, times the maximum over the rules that can come before: A, and 1 * A * A
abbrev pub cost_of_A : Bound
cost_of_A = ProductOf (both_parts once_time (MaximumOf (one_part (one_times (Input 0)))))

-- worked values: a cost of A is accepted with the side bound A, if the rule has a time, and A a size; with the side
-- bound 0 it isn't, nor without this time or size, nor at a rule without a cost. Cost rows that add up to -1, a rule
-- whose first time is 0, and the square of a left argument are accepted; other rows, times and squares are not. A fact
-- on a cost may be weakened; it is no time, and doesn't show that a rule never runs
pub record CostNodesAreJudged : Type 0 where
  pub side_bound : Accepts paying first_fact (charge 1 (times_A 1 (0 ∷ [])) start_and_first)
  pub side_bound_fact :
      facts_of paying first_fact (charge 1 (times_A 1 (0 ∷ [])) start_and_first) ≡ Cost 1 cost_of_A ∷ []
  pub side_bound_value : val cost_of_A (5 ∷ []) ≡ 5
  pub wrong_side_bound : (multiplier : ℕ)
      → ¬ (Accepts paying first_fact (charge 1 (times_A 0 (multiplier ∷ [])) start_and_first))
  pub side_bound_time : ¬ (Accepts paying [] (charge 1 (times_A 1 (0 ∷ [])) (only Start)))
  pub side_bound_size : ¬ (Accepts paying first_fact (charge 1 (times_A 1 (0 ∷ [])) (only (Cite 1))))
  pub no_cost : ¬ (Accepts counting first_fact (charge 1 (times_A 1 []) start_and_first))
  pub empty : Accepts never_paying [] (charge 1 (EmptyCost (1 ∷ 1 ∷ [])) NoProof)
  pub empty_fact : facts_of never_paying [] (charge 1 (EmptyCost (1 ∷ 1 ∷ [])) NoProof) ≡ Cost 1 (Constant 0) ∷ []
  pub not_empty : ¬ (Accepts never_paying [] (charge 1 (EmptyCost (1 ∷ 0 ∷ [])) NoProof))
  pub never : Accepts paying no_time (charge 1 NeverCost (only (Cite 1)))
  pub never_fact : facts_of paying no_time (charge 1 NeverCost (only (Cite 1))) ≡ Cost 1 (Constant 0) ∷ []
  pub first_time_counts : ¬ (Accepts paying once_and_never (charge 1 NeverCost (AndProof (Cite 1) (only (Cite 2)))))
  pub cost_is_no_time : ¬ (Accepts paying free_of_charge (charge 1 NeverCost (only (Cite 1))))
  pub poly : Accepts paying_squares first_fact (charge 1 (SideBoundCost Poly) start_and_first)
  pub free_poly : ¬ (Accepts paying_free_squares first_fact (charge 1 (SideBoundCost Poly) start_and_first))
  pub flat_poly : ¬ (Accepts paying first_fact (charge 1 (SideBoundCost Poly) start_and_first))
  pub weaker : Accepts paying free_of_charge (Weaken (Cite 1) (Input 0))
  pub weaker_fact : facts_of paying free_of_charge (Weaken (Cite 1) (Input 0)) ≡ Cost 1 (Input 0) ∷ []
  pub cost_is_no_dead_rule : ¬ (Accepts paying free_of_charge (Never (Cite 1)))
  pub cost_leaves_reached : ¬ (Accepts counting free_of_charge (Unreached 2 (only (Cite 1))))
  pub time_leaves_unreached : Accepts counting no_time (Unreached 2 (only (Cite 1)))

-- for each reason a node on a cost whose first reason it is; a missing time comes before a missing size, and a side
-- bound that isn't certified before both
pub record CostReasonsComeInOrder : Type 0 where
  pub no_cost : IsFirstReason counting first_fact (charge 1 NeverCost NoProof) Shape
  pub no_rule : IsFirstReason paying first_fact (charge 2 NeverCost NoProof) Shape
  pub long_empty : IsFirstReason never_paying [] (charge 1 (EmptyCost (1 ∷ [])) NoProof) Shape
  pub long_side_bound : IsFirstReason paying [] (charge 1 (times_A 0 []) NoProof) Shape
  pub not_empty : IsFirstReason never_paying [] (charge 1 (EmptyCost (1 ∷ 0 ∷ [])) NoProof) NotEmpty
  pub never_time : IsFirstReason paying [] (charge 1 NeverCost NoProof) (MissingTime 1)
  pub not_zero : IsFirstReason paying first_fact (charge 1 NeverCost (only (Cite 1))) NotZero
  pub side_bound_up : IsFirstReason paying [] (charge 1 (times_A 0 (0 ∷ [])) NoProof) (SideBoundUp 1 0)
  pub missing_time : IsFirstReason paying [] (charge 1 (times_A 1 (0 ∷ [])) NoProof) (MissingTime 1)
  pub missing_size : IsFirstReason paying first_fact (charge 1 (times_A 1 (0 ∷ [])) (only (Cite 1))) (MissingSize 0 1)
  pub never_over_cost : IsFirstReason paying free_of_charge (Never (Cite 1)) Shape
  pub large : IsFirstReason paying_towers first_fact (charge 1 (times_A 1 (0 ∷ [])) start_and_first) (Large 201)

-- the setting of the rule with the cost A is true of it and of its cost, so the laws apply to some setting with a cost
abbrev pub PayingIsFaithful : Type 0
PayingIsFaithful = IsFaithful paying
