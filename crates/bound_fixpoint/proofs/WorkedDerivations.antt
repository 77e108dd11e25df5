-- The bounds, numbers and premises read off derivations of the program that counts down.
use Rattle.std.proofs.Common.{refl}
use Rattle.bound_fixpoint.specs.WorkedDerivations.{DerivationsAreReadOff, KeysAreWorkedOut, PremisesAreWorkedOut, LemmasAreWorkedOut}

pub derivations_worked : DerivationsAreReadOff
derivations_worked = record {
  entry_time = refl;
  entry_size = refl;
  no_other_place = refl;
  no_rule = refl;
  first_counts = refl;
  other_first = refl;
  second_key = refl;
  no_key = refl;
  entry_stays = refl;
  found_alone = refl;
  first_number = refl;
  second_number = refl;
  no_number = refl;
  entry_number = refl;
}

pub keys_worked : KeysAreWorkedOut
keys_worked = record {
  time = refl;
  size = refl;
  time_over = refl;
  size_over = refl;
  no_size_over = refl;
  has = refl;
  other_place = refl;
  other_rule = refl;
  facts = refl;
  of_empty = refl;
  of_unreached = refl;
  of_never = refl;
  of_rank = refl;
  of_spread = refl;
  of_cycle = refl;
}

pub premises_worked : PremisesAreWorkedOut
premises_worked = record {
  of_alone = refl;
  of_both = refl;
  of_spread = refl;
  of_cycle = refl;
  with_time = refl;
  none = refl;
  start = refl;
  start_first = refl;
  in_order = refl;
}

pub lemmas_worked : LemmasAreWorkedOut
lemmas_worked = record {
  counting_down = refl;
  turned = refl;
  of_unreached = refl;
  of_empty = refl;
  of_cut = refl;
}
