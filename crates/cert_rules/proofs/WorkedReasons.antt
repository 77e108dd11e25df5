-- The worked first reasons of nodes on small programs, computed.
use Rattle.std.proofs.Common.{[], ◌∷◌, refl}
use Rattle.run_counting.specs.model.Bounds.{Constant}
use Rattle.cert_rules.specs.Nodes.{Cite, Start, Unreached, Never, Spread, Cycle, Weaken, NoProof, AndProof}
use Rattle.cert_rules.specs.WorkedSettings.{counting, stuck}
use Rattle.cert_rules.specs.Worked.{only, once, down, down_alone, empty_loop, first_fact, first_and_size}
use Rattle.cert_rules.specs.WorkedSizes.{squaring, nonlinear_member, wrong_low, one_size}
use Rattle.cert_rules.specs.WorkedReasons.{wrong_up, towering, ReasonsComeInOrder}
use Rattle.cert_rules.proofs.Deciding.{reason}

-- the worked first reasons are as stated
pub reasons_worked : ReasonsComeInOrder
reasons_worked = record {
  shape = reason counting first_fact (Cite 2) _ refl;
  not_empty = reason stuck [] (empty_loop (1 ∷ 0 ∷ [])) _ refl;
  reached = reason counting [] (Unreached 2 NoProof) _ refl;
  not_zero = reason counting first_fact (Never (Cite 1)) _ refl;
  never_of_more = reason counting [] (Never Start) _ refl;
  not_weaker = reason counting first_fact (Weaken (Cite 1) (Constant 0)) _ refl;
  weaken_of_more = reason counting [] (Weaken Start (Constant 0)) _ refl;
  move = reason counting [] (down (1 ∷ []) (0 ∷ [])) _ refl;
  floor = reason counting [] (down (0 ∷ []) (0 ∷ [])) _ refl;
  missing_time = reason counting first_and_size (down_alone (AndProof Start (only (Cite 2)))) _ refl;
  missing_size = reason counting first_fact (down_alone (AndProof Start (only (Cite 1)))) _ refl;
  large = reason towering [] once _ refl;
  side_bound_up = reason counting [] (Spread wrong_up NoProof) _ refl;
  side_bound_low = reason counting [] (Spread (wrong_low []) NoProof) _ refl;
  nonlinear = reason squaring one_size (Cycle (nonlinear_member 2 ∷ []) (only (Cite 1))) _ refl;
}
