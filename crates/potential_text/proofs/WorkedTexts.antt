-- The lines and the refusals of small texts.
use Rattle.std.proofs.Common.{refl}
use Rattle.potential_text.specs.Worked.{BytesAreCut, TextsAreRead, TextsAreRefused, LimitsAreKept, WorkedLines}

cuts_worked : BytesAreCut
cuts_worked = record {
  line_words = refl;
  part_words = refl;
  bound_words = refl;
  claim_words = refl;
  names = refl;
  numbers = refl;
  brackets = refl;
  leading_zero = refl;
  others = refl;
  large = refl;
}

texts_worked : TextsAreRead
texts_worked = record {
  none = refl;
  fall = refl;
  moves = refl;
  rows = refl;
  combined = refl;
  phases = refl;
  bounds = refl;
  claims = refl;
  no_claim = refl;
  greatest = refl;
}

refusals_worked : TextsAreRefused
refusals_worked = record {
  early = refl;
  blanks = refl;
  word = refl;
  claim_line = refl;
  signed_line = refl;
  minus_zero = refl;
  zero_first = refl;
  negative = refl;
  no_minimum = refl;
  negative_row = refl;
  no_symbol = refl;
  row_zero = refl;
  second_row_zero = refl;
  variable_zero = refl;
  large_rule = refl;
  large_place = refl;
  large_fact = refl;
  large_coefficient = refl;
  large_constant = refl;
  large_divisor = refl;
  large_base = refl;
  first = refl;
}

limits_worked : LimitsAreKept
limits_worked = record {
  level_200 = refl;
  level_201 = refl;
  node_4096 = refl;
  node_4097 = refl;
  outside = refl;
}

pub worked_lines : WorkedLines
worked_lines = record { cuts = cuts_worked; texts = texts_worked; refusals = refusals_worked; limits = limits_worked }
