-- The lemmas and nodes on programs with costs, computed.
use Rattle.std.proofs.Common.{[], ◌∷◌, refl, pos}
use Rattle.cert_program.specs.bound_table.Below.{below}
use Rattle.cert_program.specs.bound_table.InForce.{rewritten}
use Rattle.cert_program.specs.bound_table.Rewriting.{simplified, passes_until_same, at_node, parts_passed}
use Rattle.cert_program.specs.guard_prep.Tightening.{divisor_of}
use Rattle.cert_program.specs.model.Terms.{Literal, Subtraction}
use Rattle.cert_program.specs.cert_rules.Acceptance.{facts_of_lemmas}
use Rattle.cert_program.specs.cert_rules.Nodes.{Poly, EmptyCost, NeverCost, SideBoundCost, Empty}
use Rattle.cert_program.specs.Setting.{setting_of}
use Rattle.worked_nodes.specs.WorkedPrograms.{first, number, square}
use Rattle.worked_nodes.specs.WorkedNodes.{minus, cited}
use Rattle.worked_nodes.specs.WorkedCosts.{entry_with_cost, loop_with_cost, loop_that_never_runs, entry_with_cost_at_most_A, charge, cost_by_side_bound}
use Rattle.worked_nodes.specs.WorkedCosts.{time_one_and_cost, entering_lemmas, loop_cost_lemmas, rounds_free, CostsAreJudged}
use Rattle.worked_nodes.specs.WorkedCosts.{CostReasonsAreInOrder}
use Rattle.cert_program.proofs.cert_rules.Refusals.{lemmas-decided}

pub costs_judged : CostsAreJudged
unfolding rewritten simplified passes_until_same at_node parts_passed divisor_of facts_of_lemmas below
costs_judged = record {
  entering = (lemmas-decided.each (setting_of (entry_with_cost first)) entering_lemmas).0 refl;
  entering_stated = refl;
  squares = (lemmas-decided.each (setting_of (entry_with_cost (square first))) (time_one_and_cost [] (SideBoundCost Poly))).0 refl;
  squares_stated = refl;
  five = (lemmas-decided.each (setting_of (entry_with_cost (number 5))) (time_one_and_cost [] (cost_by_side_bound (pos 0) (pos 5) []))).0 refl;
  five_stated = refl;
  negative = (lemmas-decided.each (setting_of (entry_with_cost (Literal (minus 1)))) (time_one_and_cost [] (EmptyCost (1 ∷ [])))).0 refl;
  negative_stated = refl;
  free = (lemmas-decided.each (setting_of entry_with_cost_at_most_A)
      (time_one_and_cost (0 ∷ []) (cost_by_side_bound (pos 1) (pos 0) (1 ∷ 0 ∷ [])))).0 refl;
  free_stated = refl;
  rounds = (lemmas-decided.each (setting_of (loop_with_cost first)) loop_cost_lemmas).0 refl;
  rounds_stated = refl;
  free_rounds = (lemmas-decided.each (setting_of (loop_with_cost (Subtraction (number 0) first))) rounds_free).0 refl;
  free_rounds_stated = refl;
  never = (lemmas-decided.each (setting_of loop_that_never_runs)
      (Empty 2 (1 ∷ 1 ∷ []) ∷ charge 2 NeverCost (cited (1 ∷ [])) ∷ [])).0 refl;
  never_stated = refl;
}

pub cost_reasons_in_order : CostReasonsAreInOrder
unfolding rewritten simplified passes_until_same at_node parts_passed divisor_of facts_of_lemmas below
cost_reasons_in_order = record {
  no_cost = refl;
  no_rule = refl;
  no_entry = refl;
  wrong_side_bound = refl;
  missing_time = refl;
  long_side_bound = refl;
  wide_side_bound = refl;
  no_den = refl;
  most_multiplier = refl;
  multiplier_over = refl;
  coefficient_over = refl;
  flat = refl;
  empty_over = refl;
  long_empty = refl;
  not_empty = refl;
  never_time = refl;
  any = refl;
  round_time = refl;
  first_size = refl;
  second_size = refl;
  no_size = refl;
  not_zero = refl;
  not_weaker = refl;
  none_read = refl;
  one_read = refl;
  first_place = refl;
  second_place = refl;
}
