-- The worked gaps at the limits, of wrong shapes, with two faults and with shut places are judged as stated, by
-- computation.
use Rattle.std.proofs.Common.{[], ◌∷◌, ◌+◌, ◌^◌, refl}
use Rattle.std.specs.Prelude.{pos, negsuc}
use Rattle.cert_rules.specs.WorkedGaps.{scaled, one, nowhere, gap_with, gap_over, gap_of_one, turning, turning_forms}
use Rattle.cert_rules.specs.WorkedGaps.{guessed, guessed_forms, pairs, pairs_forms, place_of_l}
use Rattle.cert_rules.specs.WorkedGapShapes.{place_of, GapLimitsAreJudged, GapShapesAreJudged}
use Rattle.cert_rules.specs.WorkedGapShapes.{GapFaultsComeInOrder, ShutPlacesAreJudged}
use Rattle.cert_rules.proofs.GapsInLine.{tested-holds, first-fault}
use Rattle.cert_rules.proofs.OnlyFaults.{only-fault}

pub gap_limits_judged : GapLimitsAreJudged
gap_limits_judged = record {
  dens_at_the_limit = tested-holds _ _ _ refl;
  negative_at_the_limit = tested-holds _ _ _ refl;
  floor_at_the_limit = tested-holds _ _ _ refl;
  negative_past = only-fault turning turning_forms (gap_of_one [] (negsuc (2 ^ 45)) 1 (pos 0) 0 (pos 1) 1) _ refl;
  den_past = only-fault turning turning_forms (gap_of_one [] (pos 1) (2 ^ 45 + 1) (pos 0) 0 (pos 1) 1) _ refl;
  kept_past = only-fault turning turning_forms (gap_of_one [] (pos 1) 1 (pos 0) 0 (pos (2 ^ 45 + 1)) 1) _ refl;
  kept_den_past = only-fault turning turning_forms (gap_of_one [] (pos 1) 1 (pos 0) 0 (pos 1) (2 ^ 45 + 1)) _ refl;
  floor_past = only-fault guessed guessed_forms (gap_of_one place_of_l (pos 1) 1 (pos (2 ^ 45 + 1)) 0 (pos 1) 1) _ refl;
}

pub gap_shapes_judged : GapShapesAreJudged
gap_shapes_judged = record {
  rule_twice = only-fault turning turning_forms (gap_with 2 (2 ∷ 2 ∷ []) [] (one ∷ one ∷ []) nowhere (one ∷ one ∷ [])) _ refl;
  no_such_rule = only-fault turning turning_forms (gap_with 2 (2 ∷ 3 ∷ []) [] (one ∷ one ∷ []) nowhere (one ∷ one ∷ [])) _ refl;
  move_too_many = only-fault turning turning_forms (gap_with 2 (2 ∷ []) [] (one ∷ one ∷ []) nowhere (one ∷ [])) _ refl;
  kept_too_many = only-fault turning turning_forms (gap_with 2 (2 ∷ []) [] (one ∷ []) nowhere (one ∷ one ∷ [])) _ refl;
  part_of_move = only-fault turning turning_forms (gap_over 2 [] (scaled (pos 1 ∷ pos 0 ∷ []) 1) nowhere one) _ refl;
  part_of_floor = only-fault turning turning_forms (gap_over 2 [] one (scaled (pos 0 ∷ pos 0 ∷ []) 0) one) _ refl;
  part_of_kept = only-fault turning turning_forms (gap_over 2 [] one nowhere (scaled (pos 1 ∷ pos 0 ∷ []) 1)) _ refl;
  descending = first-fault turning turning_forms (gap_with 2 (2 ∷ 1 ∷ []) [] (one ∷ one ∷ []) nowhere (one ∷ one ∷ [])) _ refl;
  rule_0 = first-fault turning turning_forms (gap_with 2 (0 ∷ 2 ∷ []) [] (one ∷ one ∷ []) nowhere (one ∷ one ∷ [])) _ refl;
  no_move = first-fault turning turning_forms (gap_with 2 (2 ∷ []) [] [] nowhere (one ∷ [])) _ refl;
  no_kept = first-fault turning turning_forms (gap_with 2 (2 ∷ []) [] (one ∷ []) nowhere []) _ refl;
}

pub gap_order_judged : GapFaultsComeInOrder
gap_order_judged = record {
  shape_first = first-fault guessed guessed_forms (gap_of_one place_of_l (negsuc (2 ^ 45)) 1 (pos 1) 0 (pos 1) 1) _ refl;
  floor_before_kept = first-fault guessed guessed_forms (gap_of_one place_of_l (pos 1) 1 (negsuc 0) 0 (pos 0) 1) _ refl;
  kept_before_balance = first-fault turning turning_forms (gap_of_one [] (pos 1) 1 (pos 1) 0 (pos 1) 0) _ refl;
  balance_before_loss = first-fault turning turning_forms (gap_of_one [] (pos 0) 0 (pos 1) 0 (pos 1) 1) _ refl;
}

pub shut_places_judged : ShutPlacesAreJudged
shut_places_judged = record {
  shut_twice = tested-holds _ _ _ refl;
  shut_outside = tested-holds _ _ _ refl;
  shut_elsewhere = only-fault guessed guessed_forms (gap_of_one (place_of 0 1 ∷ []) (pos 1) 1 (pos 1) 0 (pos 1) 1) _ refl;
  constant_stays = only-fault turning turning_forms (gap_of_one (place_of 1 0 ∷ []) (pos 1) 1 (pos 0) 1 (pos 1) 1) _ refl;
  second_of_two = tested-holds _ _ _ refl;
  first_of_two = only-fault pairs pairs_forms (gap_over 2 (place_of 1 1 ∷ []) (scaled (pos 1 ∷ pos 1 ∷ []) 1) (scaled (pos 1 ∷ pos 0 ∷ []) 0) (scaled (pos 1 ∷ pos 1 ∷ []) 1)) _ refl;
}
