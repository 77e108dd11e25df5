-- Lemmas on programs with costs, and nodes on costs that are refused, worked out by hand.
use Rattle.std.specs.Prelude.{◌≡◌, ℕ, List, [], ◌∷◌, ℤ, pos, Option, Some, None}
use Rattle.cert_program.specs.model.Terms.{Term, Literal, Addition, Subtraction}
use Rattle.cert_program.specs.model.Programs.{AtMost, Compare, Program}
use Rattle.cert_program.specs.model.Bounds.{Constant, Input}
use Rattle.cert_program.specs.model.Facts.{Fact, Time, Size, Cost}
use Rattle.cert_program.specs.model.WorkedCosts.{with_cost}
use Rattle.cert_program.specs.cert_rules.Nodes.{Linear, Poly, CostBy, EmptyCost, NeverCost, SideBoundCost, Proof, Cite}
use Rattle.cert_program.specs.cert_rules.Nodes.{Empty, Cycle}
use Rattle.cert_program.specs.cert_rules.Nodes.{Weaken, CostBound, Proofs, NoProof, AndProof, Start}
use Rattle.cert_program.specs.cert_rules.Reasons.{Reason, Shape, NotEmpty, NotZero, SideBoundUp, MissingTime, MissingSize}
use Rattle.cert_program.specs.cert_rules.Reasons.{NotWeaker}
use Rattle.cert_program.specs.cert_rules.Acceptance.{AcceptsLemmas, facts_of_lemmas}
use Rattle.cert_program.specs.Setting.{setting_of}
use Rattle.worked_nodes.specs.WorkedPrograms.{rule, program, first, second, number, square, lowered, at_least}
use Rattle.worked_nodes.specs.WorkedPrograms.{at_most}
use Rattle.worked_nodes.specs.WorkedPrograms.{enter, loop, counting_down}
use Rattle.worked_nodes.specs.WorkedNodes.{minus, one, two, form, side_bound, entered, cited, sum, product, first_reason_in}
use Rattle.worked_nodes.specs.WorkedNodes.{only}
use Rattle.worked_nodes.specs.WorkedLemmas.{once, down, copied, lessened}
use Rattle.worked_nodes.specs.WorkedShapes.{most, over}

-- k(A) -> l(A) with this cost
abbrev pub entry_with_cost : Term → Program
entry_with_cost cost = program (1 ∷ 1 ∷ []) (with_cost cost enter ∷ [])

-- the entering rule, and l(A) -> l(A - 1) where A >= 1 with this cost
abbrev pub loop_with_cost : Term → Program
loop_with_cost cost =
    program (1 ∷ 1 ∷ []) (enter ∷ with_cost cost (loop (lowered first 1) (at_least first 1 ∷ [])) ∷ [])

-- the entering rule, and l(A) -> l(A) where A >= 1 and A <= 0 with the cost A
abbrev pub loop_that_never_runs : Program
loop_that_never_runs =
    program (1 ∷ 1 ∷ []) (enter ∷ with_cost first (loop first (at_least first 1 ∷ at_most first 0 ∷ [])) ∷ [])

-- k(A) -> l(A) with the cost C, which is free, and the same where C <= A
abbrev pub entry_with_free_cost : Program
entry_with_free_cost = program (1 ∷ 1 ∷ []) (with_cost second (rule 0 1 1 1 (first ∷ []) []) ∷ [])

abbrev pub entry_with_cost_at_most_A : Program
entry_with_cost_at_most_A =
    program (1 ∷ 1 ∷ []) (with_cost second (rule 0 1 1 1 (first ∷ []) (Compare second AtMost first ∷ [])) ∷ [])

-- k(A, B) -> l(A) with this cost
abbrev pub entry_of_two_with_cost : Term → Program
entry_of_two_with_cost cost = program (2 ∷ 1 ∷ []) (with_cost cost (rule 0 1 2 0 (first ∷ []) []) ∷ [])

-- a node on the cost of a rule
abbrev pub charge : ℕ → CostBy → Proofs → Proof
charge t by uses = CostBound (record { rule = t; by = by }) uses

-- the cost by the side bound a * A + c, with these multipliers for the cost rows
abbrev pub cost_by_side_bound : ℤ → ℤ → List ℕ → CostBy
cost_by_side_bound a c multipliers = SideBoundCost (side_bound (one a) c multipliers)

-- premises: the virtual entry, and these lemmas
abbrev pub entered_and : List ℕ → Proofs
entered_and ns = AndProof Start (cited ns)

-- the lemmas that the rule runs once, and how its cost is shown, with the multipliers of its rows
abbrev pub time_one_and_cost : List ℕ → CostBy → List Proof
time_one_and_cost multipliers by = once multipliers ∷ charge 1 by (entered_and (1 ∷ [])) ∷ []

-- the lemmas that the place after the rule is A, that it runs once and costs A, and that this is at most A + 7
abbrev pub entering_lemmas : List Proof
entering_lemmas =
    once [] ∷
    copied ∷
    charge 1 (cost_by_side_bound (pos 1) (pos 0) (0 ∷ [])) (entered_and (1 ∷ [])) ∷
    Weaken (Cite 3) (sum (Input 0 ∷ Constant 7 ∷ [])) ∷ []

abbrev pub entering_facts : List (List Fact)
entering_facts =
    (Time 1 (Constant 1) ∷ []) ∷
    (Size 1 1 (Input 0) ∷ []) ∷
    (Cost 1 (Input 0) ∷ []) ∷ (Cost 1 (sum (Input 0 ∷ Constant 7 ∷ [])) ∷ []) ∷ []

-- lemmas on the loop, on its rule's time and its place's size, before one on its cost
abbrev pub loop_lemmas_and : List Proof → List Proof
loop_lemmas_and rest = once [] ∷ down ∷ copied ∷ Cycle (lessened 2 0 ∷ []) (cited (3 ∷ [])) ∷ rest

abbrev pub loop_facts_and : List (List Fact) → List (List Fact)
loop_facts_and rest =
    (Time 1 (Constant 1) ∷ []) ∷
    (Time 2 (Input 0) ∷ []) ∷ (Size 1 1 (Input 0) ∷ []) ∷ (Size 2 1 (Input 0) ∷ []) ∷ rest

-- the lemmas with the cost of each round
abbrev pub loop_cost_lemmas : List Proof
loop_cost_lemmas = loop_lemmas_and (charge 2 (cost_by_side_bound (pos 1) (pos 0) (0 ∷ 0 ∷ [])) (cited (2 ∷ 3 ∷ 4 ∷ [])) ∷ [])

-- the lemmas on rounds with the cost -A, which cost nothing: the rows A >= 1 and -A >= 0 add up to -1
abbrev pub rounds_free : List Proof
rounds_free = loop_lemmas_and (charge 2 (EmptyCost (1 ∷ 1 ∷ [])) NoProof ∷ [])

-- all worked lemmas on costs are accepted, with these facts: entering with the costs A, A * A, 5, and -1, which counts
-- as 0; entering with a free cost of at most A; A rounds with the cost A each, and with the cost -A, which counts as 0;
-- and a rule that never runs
pub record CostsAreJudged : Type 0 where
  pub entering : AcceptsLemmas (setting_of (entry_with_cost first)) entering_lemmas
  pub entering_stated : facts_of_lemmas (setting_of (entry_with_cost first)) entering_lemmas ≡ entering_facts
  pub squares : AcceptsLemmas (setting_of (entry_with_cost (square first))) (time_one_and_cost [] (SideBoundCost Poly))
  pub squares_stated : facts_of_lemmas (setting_of (entry_with_cost (square first))) (time_one_and_cost [] (SideBoundCost Poly))
      ≡ (Time 1 (Constant 1) ∷ []) ∷ (Cost 1 (product (Input 0 ∷ Input 0 ∷ [])) ∷ []) ∷ []
  pub five : AcceptsLemmas (setting_of (entry_with_cost (number 5))) (time_one_and_cost [] (cost_by_side_bound (pos 0) (pos 5) []))
  pub five_stated : facts_of_lemmas (setting_of (entry_with_cost (number 5))) (time_one_and_cost [] (cost_by_side_bound (pos 0) (pos 5) []))
      ≡ (Time 1 (Constant 1) ∷ []) ∷ (Cost 1 (Constant 5) ∷ []) ∷ []
  pub negative : AcceptsLemmas (setting_of (entry_with_cost (Literal (minus 1)))) (time_one_and_cost [] (EmptyCost (1 ∷ [])))
  pub negative_stated : facts_of_lemmas (setting_of (entry_with_cost (Literal (minus 1)))) (time_one_and_cost [] (EmptyCost (1 ∷ [])))
      ≡ (Time 1 (Constant 1) ∷ []) ∷ (Cost 1 (Constant 0) ∷ []) ∷ []
  pub free : AcceptsLemmas (setting_of entry_with_cost_at_most_A) (time_one_and_cost (0 ∷ []) (cost_by_side_bound (pos 1) (pos 0) (1 ∷ 0 ∷ [])))
  pub free_stated :
      facts_of_lemmas (setting_of entry_with_cost_at_most_A) (time_one_and_cost (0 ∷ []) (cost_by_side_bound (pos 1) (pos 0) (1 ∷ 0 ∷ [])))
      ≡ (Time 1 (Constant 1) ∷ []) ∷ (Cost 1 (Input 0) ∷ []) ∷ []
  pub rounds : AcceptsLemmas (setting_of (loop_with_cost first)) loop_cost_lemmas
  pub rounds_stated : facts_of_lemmas (setting_of (loop_with_cost first)) loop_cost_lemmas
      ≡ loop_facts_and ((Cost 2 (product (Input 0 ∷ Input 0 ∷ [])) ∷ []) ∷ [])
  pub free_rounds : AcceptsLemmas (setting_of (loop_with_cost (Subtraction (number 0) first))) rounds_free
  pub free_rounds_stated : facts_of_lemmas (setting_of (loop_with_cost (Subtraction (number 0) first))) rounds_free
      ≡ loop_facts_and ((Cost 2 (Constant 0) ∷ []) ∷ [])
  pub never : AcceptsLemmas (setting_of loop_that_never_runs) (Empty 2 (1 ∷ 1 ∷ []) ∷ charge 2 NeverCost (cited (1 ∷ [])) ∷ [])
  pub never_stated :
      facts_of_lemmas (setting_of loop_that_never_runs) (Empty 2 (1 ∷ 1 ∷ []) ∷ charge 2 NeverCost (cited (1 ∷ [])) ∷ [])
      ≡ (Time 2 (Constant 0) ∷ []) ∷ (Cost 2 (Constant 0) ∷ []) ∷ []

-- the first reason of a node on the cost of entering, without premises
abbrev pub entering_reason : Term → CostBy → Option Reason
entering_reason cost by = first_reason_in (entry_with_cost cost) [] (charge 1 by NoProof)

-- the first reason of a node on the cost of a round, which is A, where the rule runs A times and the place is A after
-- both rules
abbrev pub round_reason : CostBy → List ℕ → Option Reason
round_reason by uses = first_reason_in (loop_with_cost first) (loop_facts_and []) (charge 2 by (cited uses))

-- a side bound that isn't certified is reported before a missing time, and that before missing sizes, which come in
-- the order of the rules that can come before; a rule without a cost, a number of no rule, wrong lengths and numbers
-- over their limits come before all
pub record CostReasonsAreInOrder : Type 0 where
  pub no_cost : first_reason_in counting_down [] (charge 1 NeverCost NoProof) ≡ Some Shape
  pub no_rule : first_reason_in (entry_with_cost first) [] (charge 2 NeverCost NoProof) ≡ Some Shape
  pub no_entry : first_reason_in (entry_with_cost first) [] (charge 0 NeverCost entered) ≡ Some Shape
  pub wrong_side_bound : entering_reason first (cost_by_side_bound (pos 0) (pos 0) (0 ∷ [])) ≡ Some (SideBoundUp 1 0)
  pub missing_time : entering_reason first (cost_by_side_bound (pos 1) (pos 0) (0 ∷ [])) ≡ Some (MissingTime 1)
  pub long_side_bound : entering_reason first (cost_by_side_bound (pos 1) (pos 0) []) ≡ Some Shape
  pub wide_side_bound : entering_reason first (SideBoundCost (side_bound (two (pos 1) (pos 0)) (pos 0) (0 ∷ []))) ≡ Some Shape
  pub no_den : entering_reason first (SideBoundCost (Linear 0 (form (one (pos 0)) (pos 0)) (0 ∷ []))) ≡ Some Shape
  pub most_multiplier : entering_reason first (cost_by_side_bound (pos 0) (pos 0) (most ∷ [])) ≡ Some (SideBoundUp 1 0)
  pub multiplier_over : entering_reason first (cost_by_side_bound (pos 0) (pos 0) (over ∷ [])) ≡ Some Shape
  pub coefficient_over : entering_reason first (cost_by_side_bound (pos over) (pos 0) (0 ∷ [])) ≡ Some Shape
  pub flat : entering_reason first (SideBoundCost Poly) ≡ Some (SideBoundUp 1 0)
  pub empty_over : entering_reason first (EmptyCost (over ∷ [])) ≡ Some Shape
  pub long_empty : entering_reason first (EmptyCost []) ≡ Some Shape
  pub not_empty : entering_reason first (EmptyCost (1 ∷ [])) ≡ Some NotEmpty
  pub never_time : entering_reason first NeverCost ≡ Some (MissingTime 1)
  pub any : first_reason_in entry_with_free_cost [] (charge 1 (cost_by_side_bound (pos 1) (pos 0) (0 ∷ [])) NoProof) ≡ Some (SideBoundUp 1 0)
  pub round_time : round_reason (cost_by_side_bound (pos 1) (pos 0) (0 ∷ 0 ∷ [])) (3 ∷ []) ≡ Some (MissingTime 2)
  pub first_size : round_reason (cost_by_side_bound (pos 1) (pos 0) (0 ∷ 0 ∷ [])) (2 ∷ []) ≡ Some (MissingSize 1 1)
  pub second_size : round_reason (cost_by_side_bound (pos 1) (pos 0) (0 ∷ 0 ∷ [])) (3 ∷ 2 ∷ []) ≡ Some (MissingSize 2 1)
  pub no_size : round_reason (cost_by_side_bound (pos 1) (pos 0) (0 ∷ 0 ∷ [])) (4 ∷ 3 ∷ 2 ∷ []) ≡ None
  pub not_zero : round_reason NeverCost (2 ∷ []) ≡ Some NotZero
  pub not_weaker :
      first_reason_in (entry_with_cost first) (only (Cost 1 (Input 0))) (Weaken (Cite 1) (Constant 7)) ≡ Some NotWeaker
  -- a place that the side bound doesn't read needs no size; of two that it reads the first one without a size is
  -- reported
  pub none_read : first_reason_in (entry_with_cost (number 5)) (only (Time 1 (Constant 1)))
      (charge 1 (cost_by_side_bound (pos 0) (pos 5) []) (cited (1 ∷ []))) ≡ None
  pub one_read : first_reason_in (entry_of_two_with_cost second) ((Time 1 (Constant 1) ∷ []) ∷ (Size 0 2 (Input 1) ∷ []) ∷ [])
      (charge 1 (SideBoundCost (side_bound (two (pos 0) (pos 1)) (pos 0) (0 ∷ []))) (cited (1 ∷ 2 ∷ []))) ≡ None
  pub first_place : first_reason_in (entry_of_two_with_cost (Addition first second)) (only (Time 1 (Constant 1)))
      (charge 1 (SideBoundCost (side_bound (two (pos 1) (pos 1)) (pos 0) (0 ∷ []))) (cited (1 ∷ []))) ≡ Some (MissingSize 0 1)
  pub second_place : first_reason_in (entry_of_two_with_cost (Addition first second))
      ((Time 1 (Constant 1) ∷ []) ∷ (Size 0 1 (Input 0) ∷ []) ∷ [])
      (charge 1 (SideBoundCost (side_bound (two (pos 1) (pos 1)) (pos 0) (0 ∷ []))) (cited (1 ∷ 2 ∷ []))) ≡ Some (MissingSize 0 2)
