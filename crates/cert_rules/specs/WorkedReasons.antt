-- First reasons, worked out by hand.
use Rattle.std.specs.Prelude.{ℕ, zero, suc, [], ◌∷◌, pos}
use Rattle.run_counting.specs.model.Bounds.{Bound, Constant, Input, PowerOf}
use Rattle.cert_rules.specs.Nodes.{Member, Cite, Start, Unreached, Never, Spread, Cycle, Weaken, NoProof, AndProof}
use Rattle.cert_rules.specs.Setting.{Setting}
use Rattle.cert_rules.specs.Reasons.{Shape, NotEmpty, Reached, NotZero, Move, Floor, SideBoundUp, SideBoundLow, MissingTime}
use Rattle.cert_rules.specs.Reasons.{MissingSize, Nonlinear, Large, NotWeaker}
use Rattle.cert_rules.specs.Checks.{IsFirstReason}
use Rattle.cert_rules.specs.WorkedSettings.{counting, stuck, counting_rows, counting_new_values, no_poly, no_rows, no_cost}
use Rattle.cert_rules.specs.WorkedSettings.{no_cost_poly, zero_below}
use Rattle.cert_rules.specs.Worked.{side_bound, only, once, down, down_alone, empty_loop, first_fact, first_and_size}
use Rattle.cert_rules.specs.WorkedSizes.{squaring, nonlinear_member, wrong_low, one_size}

-- 2 to the power of 2 to the power .. of A
abbrev pub tower : ℕ → Bound
tower zero = Input 0
tower (suc n) = PowerOf 2 (tower n)

-- the program that counts down, with a rewriting that makes every bound 201 levels deep
abbrev pub towering : Setting
towering = record {
  program = counting.program;
  rows = counting_rows;
  new_values = counting_new_values;
  poly = no_poly;
  cost_rows = no_rows;
  cost_value = no_cost;
  cost_poly = no_cost_poly;
  rewrite = λ b. tower 200;
  below = zero_below;
}

-- the place after the first rule that counts down, with 0 as the upper side bound, which A exceeds
abbrev pub wrong_up : Member
wrong_up = record {
  result_variable = record { rule = 1; place = 1 };
  local = record { up = side_bound (pos 0) (pos 0) []; low = side_bound (pos 1) (pos 0) [] };
}

-- for each reason, a node whose first reason it is; if both side bounds are wrong, the upper one is reported
pub record ReasonsComeInOrder : Type 0 where
  pub shape : IsFirstReason counting first_fact (Cite 2) Shape
  pub not_empty : IsFirstReason stuck [] (empty_loop (1 ∷ 0 ∷ [])) NotEmpty
  pub reached : IsFirstReason counting [] (Unreached 2 NoProof) Reached
  pub not_zero : IsFirstReason counting first_fact (Never (Cite 1)) NotZero
  pub never_of_more : IsFirstReason counting [] (Never Start) Shape
  pub not_weaker : IsFirstReason counting first_fact (Weaken (Cite 1) (Constant 0)) NotWeaker
  pub weaken_of_more : IsFirstReason counting [] (Weaken Start (Constant 0)) NotWeaker
  pub move : IsFirstReason counting [] (down (1 ∷ []) (0 ∷ [])) (Move 2)
  pub floor : IsFirstReason counting [] (down (0 ∷ []) (0 ∷ [])) Floor
  pub missing_time :
      IsFirstReason counting first_and_size (down_alone (AndProof Start (only (Cite 2)))) (MissingTime 1)
  pub missing_size :
      IsFirstReason counting first_fact (down_alone (AndProof Start (only (Cite 1)))) (MissingSize 1 1)
  pub large : IsFirstReason towering [] once (Large 201)
  pub side_bound_up : IsFirstReason counting [] (Spread wrong_up NoProof) (SideBoundUp 1 1)
  pub side_bound_low : IsFirstReason counting [] (Spread (wrong_low []) NoProof) (SideBoundLow 1 1)
  pub nonlinear : IsFirstReason squaring one_size (Cycle (nonlinear_member 2 ∷ []) (only (Cite 1))) (Nonlinear 2 1)
