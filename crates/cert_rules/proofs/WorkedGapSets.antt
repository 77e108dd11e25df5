-- The worked gaps over two rules hold, or have the stated faults, by computation.
use Rattle.std.proofs.Common.{[], ◌∷◌, refl}
use Rattle.std.specs.Prelude.{pos, negsuc}
use Rattle.cert_rules.specs.WorkedGaps.{scaled, one, nowhere}
use Rattle.cert_rules.specs.WorkedGapSets.{crossing, crossing_forms, guarded, guarded_forms, loops, loops_forms, along}
use Rattle.cert_rules.specs.WorkedGapSets.{gap_of_two, GapsOfTwoRulesAreJudged}
use Rattle.cert_rules.proofs.GapsInLine.{tested-holds, first-fault}
use Rattle.cert_rules.proofs.OnlyFaults.{only-fault}

pub gaps_of_two_judged : GapsOfTwoRulesAreJudged
gaps_of_two_judged = record {
  second_strict = tested-holds _ _ _ refl;
  third_strict = tested-holds _ _ _ refl;
  floor_at_l = only-fault crossing crossing_forms (gap_of_two 2 one one along one one) _ refl;
  floor_at_m = only-fault crossing crossing_forms (gap_of_two 3 one one along one one) _ refl;
  constant_at_m = only-fault crossing crossing_forms (gap_of_two 3 one one (scaled (pos 0 ∷ []) 1) one one) _ refl;
  lesser_symbol = first-fault crossing crossing_forms (gap_of_two 3 one (scaled (pos 2 ∷ []) 1) nowhere one one) _ refl;
  lesser_constant = first-fault crossing crossing_forms (gap_of_two 3 one along nowhere one one) _ refl;
  lesser_rule = first-fault crossing crossing_forms (gap_of_two 3 one one nowhere along along) _ refl;
  kept_of_third = only-fault crossing crossing_forms (gap_of_two 3 one one nowhere one along) _ refl;
  move_of_third = only-fault guarded guarded_forms (gap_of_two 2 (scaled (pos 0 ∷ []) 1) (scaled (pos 0 ∷ []) 1) nowhere one one) _ refl;
  floor_of_strict = first-fault guarded guarded_forms (gap_of_two 3 one one (scaled (negsuc 0 ∷ []) 0) one one) _ refl;
  floor_of_other = only-fault guarded guarded_forms (gap_of_two 2 one one (scaled (negsuc 0 ∷ []) 0) one one) _ refl;
  other_loses = only-fault loops loops_forms (gap_of_two 3 one nowhere nowhere one one) _ refl;
  strict_loses = tested-holds _ _ _ refl;
}
