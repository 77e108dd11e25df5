-- The worked lemmas, checked by computing.
use Rattle.std.proofs.Common.{refl}
use Rattle.guard_prep.specs.Tightening.{divisor_of}
use Rattle.potential_ground.specs.WorkedCounters.{ThreeCountersAreBounded}
use Rattle.potential_ground.specs.WorkedLexicographic.{LexicographicLoopsAreBounded}
use Rattle.potential_ground.specs.WorkedSides.{TwoSidesAreBounded}
use Rattle.potential_ground.specs.WorkedPhases.{PhaseChangesAreBounded}
use Rattle.potential_ground.specs.WorkedTriangle.{TrianglesAreBounded}

pub counters : ThreeCountersAreBounded
unfolding divisor_of
counters = record {
  accepted = refl;
  all_rules = refl;
  other_gain = refl;
  no_lemma = refl;
  no_gain = refl;
  own_lemma = refl;
  half = refl;
  by_zero = refl;
  multiplier = refl;
  low = refl;
}

pub lexicographic : LexicographicLoopsAreBounded
unfolding divisor_of
lexicographic = record {
  accepted = refl;
  third_rule = refl;
  all_rules = refl;
  other_gain = refl;
  other_row = refl;
  low_function = refl;
  low = refl;
}

pub sides : TwoSidesAreBounded
unfolding divisor_of
sides = record {
  accepted = refl;
  all_rules = refl;
  low_reset = refl;
  high_reset = refl;
  other_gain = refl;
  low_start = refl;
  low = refl;
  no_move = refl;
  no_move_first = refl;
}

pub phases : PhaseChangesAreBounded
unfolding divisor_of
phases = record {
  accepted = refl;
  all_rules = refl;
  value = refl;
  low_second = refl;
  multiplier = refl;
  low_factor = refl;
  low_under = refl;
  low = refl;
}

pub triangles : TrianglesAreBounded
unfolding divisor_of
triangles = record {
  accepted = refl;
  amounts = refl;
  all_rules = refl;
  other_den = refl;
  multiplier = refl;
  no_amount = refl;
  low_amount = refl;
  last_floor = refl;
  low_start = refl;
  low = refl;
}
