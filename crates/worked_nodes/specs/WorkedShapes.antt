-- Shapes that are refused, numbers at their limits, and the first of several facts, worked out by hand.
use Rattle.std.specs.Prelude.{◌≡◌, ℕ, ◌+◌, ◌-◌, ◌^◌, List, [], ◌∷◌, pos, Some, None}
use Rattle.cert_program.specs.model.Bounds.{Bound, Constant, Input, PowerOf}
use Rattle.cert_program.specs.model.Facts.{Fact, Time, Size}
use Rattle.cert_program.specs.cert_rules.Nodes.{Linear, Proof, Cite, Empty, Unreached, Spread, Cycle, Weaken, NoProof}
use Rattle.cert_program.specs.cert_rules.Reasons.{Shape, Reached, Move, Floor, SideBoundLow, NotWeaker}
use Rattle.cert_program.specs.cert_rules.Acceptance.{facts_of}
use Rattle.cert_program.specs.Setting.{setting_of}
use Rattle.worked_nodes.specs.WorkedPrograms.{counting_down, contradicted, apart, cut_off, nested_loops}
use Rattle.worked_nodes.specs.WorkedNodes.{minus, one, two, form, at_symbol, rank, equal_to, entered}
use Rattle.worked_nodes.specs.WorkedNodes.{cited, product, first_reason_in, only}
use Rattle.worked_nodes.specs.WorkedLoops.{round_member, kept_member, back_member}
use Rattle.worked_nodes.specs.WorkedOrder.{alone}

-- the ranking node of the outer of the nested loops, with its forms in another order
abbrev pub disordered : Proof
disordered = rank 2 (1 ∷ 2 ∷ 3 ∷ 4 ∷ []) 1
    (at_symbol 1 (two (pos 1) (pos 0)) (pos 0)
    ∷ at_symbol 0 (two (pos 1) (pos 0)) (pos 0)
    ∷ at_symbol 2 (two (pos 1) (pos 0)) (minus 1) ∷ [])
    ([] ∷ (0 ∷ []) ∷ (0 ∷ []) ∷ (0 ∷ []) ∷ []) (1 ∷ []) entered

-- the ranking node of the inner loop, with a form for another symbol too, and with multipliers for another rule too
abbrev pub one_form_more : Proof
one_form_more = rank 3 (3 ∷ []) 1
    (at_symbol 1 (two (pos 0) (pos 0)) (pos 0) ∷ at_symbol 2 (two (pos 0) (pos 1)) (pos 0) ∷ [])
    ((0 ∷ []) ∷ []) (1 ∷ []) NoProof

abbrev pub one_move_more : Proof
one_move_more = rank 3 (3 ∷ []) 1 (at_symbol 2 (two (pos 0) (pos 1)) (pos 0) ∷ [])
    ((0 ∷ []) ∷ (0 ∷ []) ∷ []) (1 ∷ []) NoProof

-- the ranking node of the rule that leads back, over a set that descends, and over one without the rule
abbrev pub descending : Proof
descending = rank 4 (4 ∷ 3 ∷ []) 1
    (at_symbol 1 (two (pos 0) (pos 0)) (pos 0) ∷ at_symbol 2 (two (pos 0) (pos 0)) (pos 1) ∷ [])
    ((0 ∷ []) ∷ (0 ∷ []) ∷ []) (0 ∷ []) NoProof

abbrev pub without_itself : Proof
without_itself =
    rank 4 (3 ∷ []) 1 (at_symbol 2 (two (pos 0) (pos 0)) (pos 1) ∷ []) ((0 ∷ []) ∷ []) (0 ∷ []) NoProof

-- a form with a coefficient less than its symbol has places
abbrev pub short_form : Proof
short_form = rank 3 (3 ∷ []) 1 (at_symbol 2 (one (pos 0)) (pos 0) ∷ []) ((0 ∷ []) ∷ []) (1 ∷ []) NoProof

-- a set with the number of no rule
abbrev pub foreign_set : Proof
foreign_set = rank 2 (1 ∷ 2 ∷ 3 ∷ []) 1
    (at_symbol 0 (one (pos 1)) (pos 0) ∷ at_symbol 1 (one (pos 1)) (pos 0) ∷ [])
    ([] ∷ (0 ∷ []) ∷ [] ∷ []) (1 ∷ []) entered

-- the place after a rule is A
abbrev pub at_result_variable : ℕ → ℕ → Proof
at_result_variable rule place = Spread (equal_to rule place (one (pos 1)) []) entered

-- each of these nodes has a wrong shape
pub record ShapesAreRefused : Type 0 where
  pub disordered : first_reason_in nested_loops [] disordered ≡ Some Shape
  pub one_form_more : first_reason_in nested_loops [] one_form_more ≡ Some Shape
  pub one_move_more : first_reason_in nested_loops [] one_move_more ≡ Some Shape
  pub short_form : first_reason_in nested_loops [] short_form ≡ Some Shape
  pub descending : first_reason_in nested_loops [] descending ≡ Some Shape
  pub without_itself : first_reason_in nested_loops [] without_itself ≡ Some Shape
  pub later_member_first :
      first_reason_in nested_loops [] (Cycle (kept_member ∷ round_member ∷ back_member ∷ []) NoProof) ≡ Some Shape
  pub twice_the_same : first_reason_in nested_loops [] (Cycle (round_member ∷ round_member ∷ []) NoProof) ≡ Some Shape
  pub no_member : first_reason_in counting_down [] (Cycle [] entered) ≡ Some Shape
  pub no_lemma : first_reason_in counting_down [] (Cite 0) ≡ Some Shape
  pub no_rule : first_reason_in apart [] (Unreached 3 NoProof) ≡ Some Shape
  pub past_the_places : first_reason_in counting_down [] (at_result_variable 1 2) ≡ Some Shape
  pub no_place_0 : first_reason_in counting_down [] (at_result_variable 1 0) ≡ Some Shape
  pub past_the_rules : first_reason_in counting_down [] (at_result_variable 3 1) ≡ Some Shape
  pub set_past_the_rules : first_reason_in counting_down [] foreign_set ≡ Some Shape

-- the function (a * A + c) / den as a ranking node of the rule that counts down, with these multipliers of the rule and
-- the floor
abbrev pub large_numbers : ℕ → ℕ → ℕ → ℕ → ℕ → Proof
large_numbers den a c move floor = rank 2 (1 ∷ 2 ∷ []) den
    (at_symbol 0 (one (pos a)) (pos c) ∷ at_symbol 1 (one (pos a)) (pos c) ∷ [])
    ([] ∷ (move ∷ []) ∷ []) (floor ∷ []) entered

-- multipliers, denominators, coefficients and constants of ranking functions are accepted up to 2^56
abbrev pub most : ℕ
most = 2 ^ 56

abbrev pub over : ℕ
over = 2 ^ 56 + 1

pub record RankLimitsAreMet : Type 0 where
  pub multipliers : first_reason_in contradicted [] (Empty 2 (most ∷ most ∷ [])) ≡ None
  pub multipliers_over : first_reason_in contradicted [] (Empty 2 (over ∷ over ∷ [])) ≡ Some Shape
  pub most_den : first_reason_in counting_down [] (large_numbers most most 0 0 most) ≡ None
  pub most_stated : facts_of (setting_of counting_down) [] (large_numbers most most 0 0 most) ≡ Time 2 (Input 0) ∷ []
  pub den_over : first_reason_in counting_down [] (large_numbers over most 0 0 most) ≡ Some Shape
  pub coefficient_over : first_reason_in counting_down [] (large_numbers most over 0 0 most) ≡ Some Shape
  pub most_constant : first_reason_in counting_down [] (large_numbers 1 1 most 0 1) ≡ None
  pub constant_over : first_reason_in counting_down [] (large_numbers 1 1 over 0 1) ≡ Some Shape
  pub most_move : first_reason_in counting_down [] (large_numbers 1 1 0 most 1) ≡ Some (Move 2)
  pub move_over : first_reason_in counting_down [] (large_numbers 1 1 0 over 1) ≡ Some Shape
  pub most_floor : first_reason_in counting_down [] (large_numbers 1 1 0 0 most) ≡ Some Floor
  pub floor_over : first_reason_in counting_down [] (large_numbers 1 1 0 0 over) ≡ Some Shape

-- a spread node with the upper side bound (a * A + c) / den at a place after the rule that counts down, and the lower
-- one 0, over den by this multiplier
abbrev pub large_side_bounds : ℕ → ℕ → ℕ → ℕ → Proof
large_side_bounds den a c multiplier = Spread (record {
  result_variable = record { rule = 2; place = 1 };
  local = record {
    up = Linear den (form (one (pos a)) (pos c)) (0 ∷ []);
    low = Linear den (form (one (pos 0)) (pos 0)) (multiplier ∷ []);
  };
}) (cited (1 ∷ []))

-- the facts that the place is A after both rules
abbrev pub two_places : List (List Fact)
two_places = (Size 1 1 (Input 0) ∷ Size 2 1 (Input 0) ∷ []) ∷ []

-- the numbers of side bounds are accepted up to their limits, too
pub record SideBoundLimitsAreMet : Type 0 where
  pub most_den : first_reason_in counting_down two_places (large_side_bounds most most 0 most) ≡ None
  pub most_stated :
      facts_of (setting_of counting_down) two_places (large_side_bounds most most 0 most) ≡ Size 2 1 (Input 0) ∷ []
  pub no_den : first_reason_in counting_down two_places (large_side_bounds 0 0 0 0) ≡ Some Shape
  pub den_over : first_reason_in counting_down two_places (large_side_bounds over most 0 most) ≡ Some Shape
  pub coefficient_over : first_reason_in counting_down two_places (large_side_bounds most over 0 most) ≡ Some Shape
  pub most_constant : first_reason_in counting_down two_places (large_side_bounds 1 1 most 1) ≡ None
  pub constant_over : first_reason_in counting_down two_places (large_side_bounds 1 1 over 1) ≡ Some Shape
  pub most_multiplier : first_reason_in counting_down two_places (large_side_bounds 1 1 0 most) ≡ Some (SideBoundLow 2 1)
  pub multiplier_over : first_reason_in counting_down two_places (large_side_bounds 1 1 0 over) ≡ Some Shape

-- the constants of a weaker bound go up to 2^127 - 1, its bases down to 2, and its inputs are start arguments
abbrev pub weaker_than_never : Bound → Proof
weaker_than_never b = Weaken (Cite 1) b

pub record WeakerLimitsAreMet : Type 0 where
  pub constant :
      first_reason_in contradicted (only (Time 2 (Constant 0))) (weaker_than_never (Constant (2 ^ 127 - 1))) ≡ None
  pub constant_over :
      first_reason_in contradicted (only (Time 2 (Constant 0))) (weaker_than_never (Constant (2 ^ 127))) ≡ Some Shape
  pub base : first_reason_in contradicted (only (Time 2 (Constant 0))) (weaker_than_never (PowerOf 2 (Input 0))) ≡ None
  pub base_under : first_reason_in contradicted (only (Time 2 (Constant 0))) (weaker_than_never (PowerOf 1 (Input 0))) ≡ Some Shape
  pub input_over : first_reason_in contradicted (only (Time 2 (Constant 0))) (weaker_than_never (PowerOf 2 (Input 1))) ≡ Some Shape

-- the facts that the first rule occurs once, and at most five times, and that the place after it is A
abbrev pub two_times : List (List Fact)
two_times = (Time 1 (Constant 1) ∷ []) ∷ (Time 1 (Constant 5) ∷ []) ∷ (Size 1 1 (Input 0) ∷ []) ∷ []

-- the facts that the second rule occurs never, and at most three times
abbrev pub never_or_thrice : List (List Fact)
never_or_thrice = (Time 2 (Constant 0) ∷ []) ∷ (Time 2 (Constant 3) ∷ []) ∷ []

-- of several times of a rule the first counts, but a time of 0 counts in any position
pub record FirstFactsCount : Type 0 where
  pub five : facts_of (setting_of counting_down) two_times (alone 2 (1 ∷ []) (cited (2 ∷ 1 ∷ 3 ∷ [])))
      ≡ Time 2 (product (Constant 5 ∷ Input 0 ∷ [])) ∷ []
  pub five_accepted : first_reason_in counting_down two_times (alone 2 (1 ∷ []) (cited (2 ∷ 1 ∷ 3 ∷ []))) ≡ None
  pub one : facts_of (setting_of counting_down) two_times (alone 2 (1 ∷ []) (cited (1 ∷ 2 ∷ 3 ∷ [])))
      ≡ Time 2 (Input 0) ∷ []
  pub unreached : first_reason_in cut_off never_or_thrice (Unreached 3 (cited (2 ∷ 1 ∷ []))) ≡ None
  pub reached : first_reason_in cut_off never_or_thrice (Unreached 3 (cited (2 ∷ []))) ≡ Some Reached
  pub not_weaker : first_reason_in counting_down two_times (Weaken (Cite 2) (Constant 4)) ≡ Some NotWeaker
