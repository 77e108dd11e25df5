-- The worked sections and refusals of small texts hold.
use Rattle.std.proofs.Common.{refl}
use Rattle.section_text.specs.Worked.{BytesAreCut, TextsAreRead, TextsAreRefused, LimitsAreKept, WorkedSections}

cuts_worked : BytesAreCut
cuts_worked = record {
  line_words = refl;
  case_words = refl;
  names = refl;
  numbers = refl;
  brackets = refl;
  leading_zero = refl;
  others = refl;
  greatest = refl;
  large = refl;
}

texts_worked : TextsAreRead
texts_worked = record {
  one = refl;
  two = refl;
  nested = refl;
}

refusals_worked : TextsAreRefused
refusals_worked = record {
  nothing = refl;
  no_copy = refl;
  early = refl;
  blanks = refl;
  empty_form = refl;
  minus_zero = refl;
  zero_first = refl;
  copy_behind = refl;
  no_symbol = refl;
  same_name = refl;
  no_source = refl;
  no_target = refl;
  rule_zero = refl;
  rule_four = refl;
  large_rule = refl;
  large_multiplier = refl;
  large_constant = refl;
  greatest = refl;
  first = refl;
}

limits_worked : LimitsAreKept
limits_worked = record {
  level_64 = refl;
  level_65 = refl;
  copy_2000 = refl;
  copy_2001 = refl;
  name_256 = refl;
  name_257 = refl;
  old_name = refl;
}

pub worked_sections : WorkedSections
worked_sections = record { cuts = cuts_worked; texts = texts_worked; refusals = refusals_worked; limits = limits_worked }
