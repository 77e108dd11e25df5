-- The worked gaps on small programs hold, or have the stated faults, by computation.
use Rattle.std.proofs.Common.{[], ◌∷◌, ◌+◌, ◌^◌, refl}
use Rattle.std.specs.Prelude.{pos, negsuc}
use Rattle.cert_rules.specs.WorkedGaps.{scaled, gap_over, turning, turning_forms, guessed, guessed_forms, place_of_l}
use Rattle.cert_rules.specs.WorkedGaps.{gap_of_one, GapsAreJudged}
use Rattle.cert_rules.proofs.GapsInLine.{tested-holds, first-fault}
use Rattle.cert_rules.proofs.OnlyFaults.{only-fault}

pub gaps_judged : GapsAreJudged
gaps_judged = record {
  turning_holds = tested-holds _ _ _ refl;
  pairs_hold = tested-holds _ _ _ refl;
  guessed_holds = tested-holds _ _ _ refl;
  place_unbalanced = only-fault turning turning_forms (gap_of_one [] (pos 1) 1 (pos 1) 0 (pos 1) 1) _ refl;
  constant_unbalanced = only-fault turning turning_forms (gap_of_one [] (pos 1) 1 (pos 0) 1 (pos 1) 1) _ refl;
  constant_first = first-fault turning turning_forms (gap_of_one [] (pos 1) 1 (pos 1) 1 (pos 1) 1) _ refl;
  nothing_lost = only-fault turning turning_forms (gap_of_one [] (pos 0) 0 (pos 0) 0 (pos 1) 1) _ refl;
  ray_kept = only-fault turning turning_forms (gap_of_one [] (pos 1) 1 (pos 0) 0 (pos 1) 0) _ refl;
  past_the_limit = only-fault turning turning_forms (gap_of_one [] (pos (2 ^ 45 + 1)) 1 (pos 0) 0 (pos 1) 1) _ refl;
  at_the_limit = tested-holds _ _ _ refl;
  other_set = first-fault turning turning_forms (gap_over 1 [] (scaled (pos 1 ∷ []) 1) (scaled (pos 0 ∷ []) 0) (scaled (pos 1 ∷ []) 1)) _ refl;
  move_off = only-fault guessed guessed_forms (gap_of_one place_of_l (pos 0) 1 (pos 1) 0 (pos 1) 1) _ refl;
  floor_off = only-fault guessed guessed_forms (gap_of_one place_of_l (pos 1) 1 (negsuc 0) 0 (pos 1) 1) _ refl;
  move_first = first-fault guessed guessed_forms (gap_of_one place_of_l (pos 0) 1 (negsuc 0) 0 (pos 1) 1) _ refl;
  kept_off = only-fault guessed guessed_forms (gap_of_one place_of_l (pos 1) 1 (pos 1) 0 (pos 0) 1) _ refl;
  not_shut = only-fault guessed guessed_forms (gap_of_one [] (pos 1) 1 (pos 1) 0 (pos 1) 1) _ refl;
}
