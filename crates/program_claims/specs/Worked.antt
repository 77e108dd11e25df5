-- Worked values of the copies of rules in a small program that a section spells, and of what statements mean for runs.
use Rattle.std.specs.Prelude.{◌≡◌, [], ◌∷◌, pos, Some, None}
use Rattle.model.specs.Terms.{Variable, Negation}
use Rattle.model.specs.Programs.{rule_at}
use Rattle.model.specs.Polynomials.{Polynomial}
use Rattle.model.specs.WorkedRuns.{countdown}
use Rattle.model.specs.WorkedCosts.{paying}
use Rattle.refinement.specs.Sections.{spelled, projection_of}
use Rattle.refinement.specs.Worked.{split_by_sign, by_sign}
use Rattle.signed_bounds.specs.Bounds.{Constant, PositivePart}
use Rattle.potential_nodes.specs.Facts.{one_form}
use Rattle.program_claims.specs.Claims.{Time, Cost, Total, Above, Below, HoldsOf}
use Rattle.program_claims.specs.Copies.{copies_of, charge_by, cost_charges, update_at}

-- the polynomials A and B
abbrev pub a_form : Polynomial
a_form = record { coef = pos 1; vars = 0 ∷ [] } ∷ []

abbrev pub b_form : Polynomial
b_form = record { coef = pos 1; vars = 1 ∷ [] } ∷ []

-- rule 1 has two copies and rule 2 one; no rule has number 3; the updates are those of the rules, by place
pub record CopiesAreWorkedOut : Type 0 where
  pub first : copies_of by_sign (projection_of countdown split_by_sign) 1 ≡ 1 ∷ 2 ∷ []
  pub second : copies_of by_sign (projection_of countdown split_by_sign) 2 ≡ 3 ∷ []
  pub third : copies_of by_sign (projection_of countdown split_by_sign) 3 ≡ []
  pub costs : cost_charges 1 (spelled paying split_by_sign).rules
      ≡ charge_by a_form 1 ∷ charge_by a_form 2 ∷ charge_by b_form 3 ∷ []
  pub ones : cost_charges 1 by_sign.rules ≡ charge_by one_form 1 ∷ charge_by one_form 2 ∷ charge_by one_form 3 ∷ []
  pub second_place : update_at (rule_at countdown 2) 2 ≡ Some (Negation (Variable 0))
  pub no_place : update_at (rule_at countdown 2) 0 ≡ None
  pub third_place : update_at (rule_at countdown 2) 3 ≡ None

-- worked statements hold of the small program, and don't with lower bounds or over another start value: entering takes
-- one step from any start; from A = 9 on there are 9 rounds, after the first of which A is 8; entering with A = 3 ends
-- with A = 3, and entering with A = -3 with A = -3; and with costs entering from A = 100 costs 100
pub record MeaningsAreWorkedOut : Type 0 where
  pub once : HoldsOf countdown (Time 1 (Constant 1))
  pub never : ¬ (HoldsOf countdown (Time 1 (Constant 0)))
  pub nine_rounds : HoldsOf countdown (Time 2 (Constant 9))
  pub eight_rounds : ¬ (HoldsOf countdown (Time 2 (Constant 8)))
  pub entering_paid : ¬ (HoldsOf paying (Cost 1 (Constant 2)))
  pub entering_by_other : ¬ (HoldsOf paying (Cost 1 (PositivePart b_form)))
  pub paying_by_steps : ¬ (HoldsOf paying (Total (Constant 10)))
  pub plain_cost : HoldsOf countdown (Cost 2 (Constant 9))
  pub ten_steps : HoldsOf countdown (Total (Constant 10))
  pub nine_steps : ¬ (HoldsOf countdown (Total (Constant 9)))
  pub up_to_8 : HoldsOf countdown (Above 2 1 (Constant 8))
  pub up_to_7 : ¬ (HoldsOf countdown (Above 2 1 (Constant 7)))
  pub down_to_minus_8 : HoldsOf countdown (Below 2 1 (Constant 8))
  pub above_2 : ¬ (HoldsOf countdown (Above 1 1 (Constant 2)))
  pub below_minus_2 : ¬ (HoldsOf countdown (Below 1 1 (Constant 2)))
