-- The worked statements hold of the program that enters a loop and counts A down, or don't.
use Rattle.std.proofs.Common.{◌≤◌, [], ◌∷◌, refl, arith}
use Rattle.std.specs.Prelude.{pos, negsuc, ◌≤ℤ◌}
use Rattle.std.proofs.lemmas.Int.{ints}
use Rattle.model.specs.WorkedRuns.{both}
use Rattle.model.specs.Worked.{by_rule, two_values}
use Rattle.model.proofs.WorkedRuns.{entered, looped}
use Rattle.model.proofs.WorkedFacts.{times_hold, sizes_hold}
use Rattle.model.proofs.WorkedCosts.{costs_hold, as_paying}
use Rattle.model.proofs.WorkedTotals.{totals_hold}
use Rattle.program_claims.specs.Worked.{MeaningsAreWorkedOut}
use Rattle.program_claims.proofs.ClaimLaws.{up-to, down-to}

pub meanings : MeaningsAreWorkedOut
meanings = record {
  once = record { each = λ start steps c run. times_hold.first.each start steps c run };
  never = λ h. times_hold.first_never (record { each = λ start steps c run. h.each start steps c run });
  nine_rounds = record { each = λ start steps c run. times_hold.loop.each start steps c run };
  eight_rounds = λ h. times_hold.loop_less (record { each = λ start steps c run. h.each start steps c run });
  entering_paid = λ h. costs_hold.entering_less (record { each = λ start steps c run. h.each start steps c run });
  entering_by_other = λ h.
      let paid : 3 ≤ 0 =
      h.each (both (pos 3) (pos 0)) (by_rule 1 ∷ []) (two_values 1 (pos 3) (pos 0))
      (as_paying (both (pos 3) (pos 0)) (by_rule 1 ∷ []) (two_values 1 (pos 3) (pos 0)) (entered (pos 3) (pos 0))) in
      omega (arith, paid);
  paying_by_steps = λ h. totals_hold.paying_by_steps (record { each = λ start steps c run. h.each start steps c run });
  plain_cost = record { each = λ start steps c run. costs_hold.plain.each start steps c run };
  ten_steps = record { each = λ start steps c run. totals_hold.plain.each start steps c run };
  nine_steps = λ h. totals_hold.plain_less (record { each = λ start steps c run. h.each start steps c run });
  up_to_8 = record {
    each = λ start steps c run last. up-to _ 8 (sizes_hold.loop_first.each start steps c run last);
  };
  up_to_7 = λ h.
      let run =
      looped (both (pos 9) (pos 0)) (by_rule 1 ∷ []) (pos 9) (pos 0) (pos 8) (negsuc 8) (omega (arith, ints))
      (omega (arith, ints)) refl (entered (pos 9) (pos 0)) in
      let high : pos 8 ≤ℤ pos 7 =
      h.each (both (pos 9) (pos 0)) (by_rule 2 ∷ by_rule 1 ∷ []) (two_values 1 (pos 8) (negsuc 8)) run refl in
      omega (arith, ints, high);
  down_to_minus_8 = record {
    each = λ start steps c run last. down-to _ 8 (sizes_hold.loop_first.each start steps c run last);
  };
  above_2 = λ h.
      let high : pos 3 ≤ℤ pos 2 =
      h.each (both (pos 3) (pos 7)) (by_rule 1 ∷ []) (two_values 1 (pos 3) (pos 7)) (entered (pos 3) (pos 7)) refl in
      omega (arith, ints, high);
  below_minus_2 = λ h.
      let low : pos 3 ≤ℤ pos 2 =
      h.each (both (negsuc 2) (pos 7)) (by_rule 1 ∷ []) (two_values 1 (negsuc 2) (pos 7)) (entered (negsuc 2) (pos 7)) refl
      in
      omega (arith, ints, low);
}
