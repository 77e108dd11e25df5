-- Worked values of nodes with several faults, and which of these is reported.
use Rattle.std.specs.Prelude.{◌≡◌, ℕ, List, [], ◌∷◌, ℤ, pos, Option, Some, None}
use Rattle.cert_program.specs.model.Bounds.{Constant, Input}
use Rattle.cert_program.specs.model.Facts.{Fact, Time, Size}
use Rattle.cert_program.specs.cert_rules.Nodes.{Member, Proof, Cite, Start, Empty, Never, Spread, Cycle, Weaken}
use Rattle.cert_program.specs.cert_rules.Nodes.{Proofs, NoProof}
use Rattle.cert_program.specs.cert_rules.Setting.{Setting}
use Rattle.cert_program.specs.cert_rules.Reasons.{Shape, Move, Floor, SideBoundUp, SideBoundLow, MissingTime, MissingSize, Nonlinear}
use Rattle.cert_program.specs.cert_rules.Reasons.{Large, Reason}
use Rattle.cert_program.specs.cert_rules.Worked.{entered_member, doubled}
use Rattle.cert_program.specs.cert_rules.WorkedSettings as settings
use Rattle.cert_program.specs.cert_rules.WorkedReasons.{tower, towering}
use Rattle.cert_program.specs.cert_rules.Deciding.{first_reason}
use Rattle.worked_nodes.specs.WorkedPrograms.{counting_down, two_ways_in, contradicted, twice_or_thrice}
use Rattle.worked_nodes.specs.WorkedPrograms.{twice_or_squared, chosen_between, nested_loops, doubling}
use Rattle.worked_nodes.specs.WorkedNodes.{minus, one, two, at_symbol, rank, side_bound, member, equal_to, nonlinear, entered}
use Rattle.worked_nodes.specs.WorkedNodes.{cited, first_reason_in, only}
use Rattle.worked_nodes.specs.WorkedLoops.{outer, back_member, round_members}
use Rattle.worked_nodes.specs.WorkedLoops.{handed_over, doubled_member}

-- the ranking node of the rule that counts down, over both rules, with this denominator, this coefficient at k and
-- these multipliers
abbrev pub down_with : ℕ → ℤ → List ℕ → Proof
down_with den a multipliers = rank 2 (1 ∷ 2 ∷ []) den
    (at_symbol 0 (one a) (pos 0) ∷ at_symbol 1 (one (pos 1)) (pos 0) ∷ []) ([] ∷ multipliers ∷ []) (1 ∷ []) entered

-- the ranking node of the rule that counts down, over it alone, with this number and floor
abbrev pub alone : ℕ → List ℕ → Proofs → Proof
alone rule floor uses = rank rule (rule ∷ []) 1 (at_symbol 1 (one (pos 1)) (pos 0) ∷ []) ((0 ∷ []) ∷ []) floor uses

-- a fact: the first rule occurs once
abbrev pub once_fact : Fact
once_fact = Time 1 (Constant 1)

-- a fact: the place after the first rule is A
abbrev pub place_fact : Fact
place_fact = Size 1 1 (Input 0)

-- a shape comes first; then the rules of the set in their order; then the floor; then the times of all entries; and
-- then the sizes after them
pub record RankReasonsAreInOrder : Type 0 where
  pub shape_before_move : first_reason_in counting_down [] (down_with 0 (pos 1) (5 ∷ [])) ≡ Some Shape
  pub first_move : first_reason_in counting_down [] (down_with 1 (pos 0) (1 ∷ [])) ≡ Some (Move 1)
  pub second_move : first_reason_in nested_loops [] (outer ([] ∷ (1 ∷ []) ∷ (1 ∷ []) ∷ (0 ∷ []) ∷ [])) ≡ Some (Move 2)
  pub floor_before_time : first_reason_in counting_down [] (alone 2 (0 ∷ []) NoProof) ≡ Some Floor
  pub time_before_size : first_reason_in counting_down [] (alone 2 (1 ∷ []) NoProof) ≡ Some (MissingTime 1)
  pub times_before_sizes :
      first_reason_in two_ways_in (only once_fact) (alone 3 (1 ∷ []) (cited (1 ∷ []))) ≡ Some (MissingTime 2)

-- members of two rules that multiply: as they are; and the first with a wrong lower side bound, the second with a wrong
-- upper one
abbrev pub twice_member : Member
twice_member = equal_to 2 1 (one (pos 2)) []

abbrev pub thrice_member : Member
thrice_member = equal_to 3 1 (one (pos 3)) []

abbrev pub wrong_low : Member
wrong_low = member 2 1 (side_bound (one (pos 2)) (pos 0) []) (side_bound (one (pos 2)) (pos 0) [])

abbrev pub wrong_up : Member
wrong_up = member 3 1 (side_bound (one (pos 2)) (pos 0) []) (side_bound (one (minus 3)) (pos 0) [])

-- the members of the nested loops, with a wrong lower side bound at the first and a wrong upper one at the second
abbrev pub wrong_round : Member
wrong_round = member 2 1 (side_bound (two (pos 1) (pos 0)) (pos 0) (0 ∷ [])) (side_bound (two (pos 0) (pos 0)) (pos 0) (0 ∷ []))

abbrev pub wrong_kept : Member
wrong_kept = member 3 1 (side_bound (two (pos 0) (pos 0)) (pos 0) (0 ∷ [])) (side_bound (two (minus 1) (pos 0)) (pos 0) (0 ∷ []))

-- all upper side bounds come before all lower ones; then the sizes; then nonlinear side bounds; and then the times,
-- ascending
pub record LoopReasonsAreInOrder : Type 0 where
  pub up_before_low :
      first_reason_in nested_loops [] (Cycle (wrong_round ∷ wrong_kept ∷ back_member ∷ []) NoProof) ≡ Some (SideBoundUp 3 1)
  pub up_of_second :
      first_reason_in twice_or_thrice (only place_fact) (Cycle (wrong_low ∷ wrong_up ∷ []) (cited (1 ∷ []))) ≡ Some (SideBoundUp 3 1)
  pub low_before_size : first_reason_in twice_or_thrice [] (Cycle (wrong_low ∷ thrice_member ∷ []) NoProof) ≡ Some (SideBoundLow 2 1)
  pub size_before_nonlinear :
      first_reason_in twice_or_squared [] (Cycle (twice_member ∷ nonlinear 3 1 ∷ []) NoProof) ≡ Some (MissingSize 1 1)
  pub nonlinear_before_time :
      first_reason_in twice_or_squared (only place_fact) (Cycle (twice_member ∷ nonlinear 3 1 ∷ []) (cited (1 ∷ [])))
      ≡ Some (Nonlinear 3 1)
  pub first_time :
      first_reason_in twice_or_thrice (only place_fact) (Cycle (twice_member ∷ thrice_member ∷ []) (cited (1 ∷ [])))
      ≡ Some (MissingTime 2)
  pub size_before_time : first_reason_in nested_loops [] (Cycle round_members NoProof) ≡ Some (MissingSize 1 1)
  pub time : first_reason_in nested_loops (only place_fact) (Cycle round_members (cited (1 ∷ []))) ≡ Some (MissingTime 4)
  pub doubled_size : first_reason_in doubling [] (Cycle (doubled_member ∷ []) NoProof) ≡ Some (MissingSize 1 2)
  pub doubled_time :
      first_reason_in doubling (only (Size 1 2 (Input 1))) (Cycle (doubled_member ∷ []) (cited (1 ∷ []))) ≡ Some (MissingTime 2)

-- the place that is chosen below B and above -A
abbrev pub chosen : Member
chosen = member 1 2 (side_bound (two (pos 0) (pos 1)) (pos 0) (1 ∷ 0 ∷ [])) (side_bound (two (pos 1) (pos 0)) (pos 0) (0 ∷ 1 ∷ []))

-- the program that counts down, with a rewriting that makes every bound 0
abbrev pub vanishing : Setting
vanishing = record {
  program = towering.program;
  rows = towering.rows;
  new_values = towering.new_values;
  poly = towering.poly;
  cost_rows = towering.cost_rows;
  cost_value = towering.cost_value;
  cost_poly = towering.cost_poly;
  rewrite = λ b. Constant 0;
  below = towering.below;
}

-- the reason at the place after the first rule, where the place after the virtual entry has a tower of n powers as its
-- size
abbrev pub over_tower : ℕ → Option Reason
over_tower n = first_reason vanishing ((Size 0 1 (tower n) ∷ []) ∷ []) (Spread entered_member (cited (1 ∷ [])))

-- a loop that doubles, with a rewriting after which every bound has 201 levels
abbrev pub doubling_towers : Setting
doubling_towers = record {
  program = settings.doubling.program;
  rows = settings.no_rows;
  new_values = settings.doubling_new_values;
  poly = settings.no_poly;
  cost_rows = settings.no_rows;
  cost_value = settings.no_cost;
  cost_poly = settings.no_cost_poly;
  rewrite = λ b. tower 200;
  below = settings.zero_below;
}

-- a size that the upper side bound reads comes before one that the lower one reads, whatever their places; sizes are
-- needed after each rule that can come before, in their order; a missing size comes before a bound that is too large;
-- and a bound is measured before and after it is rewritten
pub record SizeReasonsAreInOrder : Type 0 where
  pub up_before_low : first_reason_in chosen_between [] (Spread chosen NoProof) ≡ Some (MissingSize 0 2)
  pub first_before : first_reason_in nested_loops [] (Spread handed_over NoProof) ≡ Some (MissingSize 1 1)
  pub second_before :
      first_reason_in nested_loops (only place_fact) (Spread handed_over (cited (1 ∷ []))) ≡ Some (MissingSize 4 1)
  pub size_before_large : first_reason towering [] (Spread entered_member NoProof) ≡ Some (MissingSize 0 1)
  pub large : first_reason towering [] (Spread entered_member entered) ≡ Some (Large 201)
  pub large_before : over_tower 196 ≡ Some (Large 404)
  pub small_before : over_tower 195 ≡ None
  pub time_before_large :
      first_reason doubling_towers (only place_fact) (Cycle doubled (cited (1 ∷ []))) ≡ Some (MissingTime 2)
  pub large_loop :
      first_reason doubling_towers ((place_fact ∷ Time 2 (Constant 3) ∷ []) ∷ []) (Cycle doubled (cited (1 ∷ [])))
      ≡ Some (Large 201)

-- the check for one time of a rule comes before the check that it is 0; the check that a bound has the right shape
-- before the check that it is weaker; and the check for one multiplier a row before the check that the rows add up
pub record PlainReasonsAreInOrder : Type 0 where
  pub never_of_a_size : first_reason_in counting_down (only place_fact) (Never (Cite 1)) ≡ Some Shape
  pub never_of_the_entry : first_reason_in counting_down [] (Never Start) ≡ Some Shape
  pub weaker_start : first_reason_in counting_down [] (Weaken Start (Input 1)) ≡ Some Shape
  pub empty_length : first_reason_in contradicted [] (Empty 2 (1 ∷ [])) ≡ Some Shape
