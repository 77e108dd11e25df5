-- The worked values of nodes on costs hold, mostly by computation.
use Rattle.std.proofs.Common.{◌≡◌, [], ◌∷◌, refl, arith}
use Rattle.std.specs.Prelude.{pos, negsuc, ◌+ℤ◌, ◌*ℤ◌}
use Rattle.std.proofs.lemmas.Int.{ints}
use Rattle.run_counting.specs.model.Bounds.{Input}
use Rattle.cert_rules.specs.Nodes.{Poly, EmptyCost, NeverCost, SideBoundCost, Cite, Start, Unreached, Never, Weaken}
use Rattle.cert_rules.specs.Nodes.{NoProof, AndProof}
use Rattle.cert_rules.specs.WorkedSettings.{counting}
use Rattle.cert_rules.specs.Worked.{only, first_fact}
use Rattle.cert_rules.specs.WorkedCosts.{paying, paying_towers, never_paying, paying_squares, paying_free_squares}
use Rattle.cert_rules.specs.WorkedCosts.{charge, times_A, start_and_first, no_time, once_and_never, free_of_charge}
use Rattle.cert_rules.specs.WorkedCosts.{CostNodesAreJudged, CostReasonsComeInOrder}
use Rattle.cert_rules.proofs.Deciding.{reason}
use Rattle.cert_rules.proofs.Refusals.{accepted, refused}

-- the worked nodes on costs are accepted and refused as stated
pub cost_nodes : CostNodesAreJudged
cost_nodes = record {
  side_bound = accepted paying first_fact (charge 1 (times_A 1 (0 ∷ [])) start_and_first) refl;
  side_bound_fact = refl;
  side_bound_value = refl;
  wrong_side_bound = λ m h. let e : negsuc 0 ≡ pos m *ℤ pos 1 +ℤ pos 0 = h.1.by.up.coefs 0 in omega (arith, ints, e);
  side_bound_time = refused paying [] (charge 1 (times_A 1 (0 ∷ [])) (only Start)) refl;
  side_bound_size = refused paying first_fact (charge 1 (times_A 1 (0 ∷ [])) (only (Cite 1))) refl;
  no_cost = refused counting first_fact (charge 1 (times_A 1 []) start_and_first) refl;
  empty = accepted never_paying [] (charge 1 (EmptyCost (1 ∷ 1 ∷ [])) NoProof) refl;
  empty_fact = refl;
  not_empty = refused never_paying [] (charge 1 (EmptyCost (1 ∷ 0 ∷ [])) NoProof) refl;
  never = accepted paying no_time (charge 1 NeverCost (only (Cite 1))) refl;
  never_fact = refl;
  first_time_counts = refused paying once_and_never (charge 1 NeverCost (AndProof (Cite 1) (only (Cite 2)))) refl;
  cost_is_no_time = refused paying free_of_charge (charge 1 NeverCost (only (Cite 1))) refl;
  poly = accepted paying_squares first_fact (charge 1 (SideBoundCost Poly) start_and_first) refl;
  free_poly = refused paying_free_squares first_fact (charge 1 (SideBoundCost Poly) start_and_first) refl;
  flat_poly = refused paying first_fact (charge 1 (SideBoundCost Poly) start_and_first) refl;
  weaker = accepted paying free_of_charge (Weaken (Cite 1) (Input 0)) refl;
  weaker_fact = refl;
  cost_is_no_dead_rule = refused paying free_of_charge (Never (Cite 1)) refl;
  cost_leaves_reached = refused counting free_of_charge (Unreached 2 (only (Cite 1))) refl;
  time_leaves_unreached = accepted counting no_time (Unreached 2 (only (Cite 1))) refl;
}

-- the worked first reasons are as stated
pub cost_reasons : CostReasonsComeInOrder
cost_reasons = record {
  no_cost = reason counting first_fact (charge 1 NeverCost NoProof) _ refl;
  no_rule = reason paying first_fact (charge 2 NeverCost NoProof) _ refl;
  long_empty = reason never_paying [] (charge 1 (EmptyCost (1 ∷ [])) NoProof) _ refl;
  long_side_bound = reason paying [] (charge 1 (times_A 0 []) NoProof) _ refl;
  not_empty = reason never_paying [] (charge 1 (EmptyCost (1 ∷ 0 ∷ [])) NoProof) _ refl;
  never_time = reason paying [] (charge 1 NeverCost NoProof) _ refl;
  not_zero = reason paying first_fact (charge 1 NeverCost (only (Cite 1))) _ refl;
  side_bound_up = reason paying [] (charge 1 (times_A 0 (0 ∷ [])) NoProof) _ refl;
  missing_time = reason paying [] (charge 1 (times_A 1 (0 ∷ [])) NoProof) _ refl;
  missing_size = reason paying first_fact (charge 1 (times_A 1 (0 ∷ [])) (only (Cite 1))) _ refl;
  never_over_cost = reason paying free_of_charge (Never (Cite 1)) _ refl;
  large = reason paying_towers first_fact (charge 1 (times_A 1 (0 ∷ [])) start_and_first) _ refl;
}
