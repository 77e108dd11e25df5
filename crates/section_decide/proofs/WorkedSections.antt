-- The worked sections are accepted, or have the stated faults.
use Rattle.std.proofs.Common.{refl}
use Rattle.section_checks.specs.refinement_rows.guard_prep.Tightening.{divisor_of}
use Rattle.section_decide.specs.Worked.{SectionsAreJudged, ShapesAreRefused, CertificatesAreRefused, LimitsAreMet}

pub sections_are_judged : SectionsAreJudged
unfolding divisor_of
sections_are_judged = record { by_two = refl; plain = refl }

pub shapes_are_refused : ShapesAreRefused
shapes_are_refused = record {
  no_copy = refl;
  start_fact = refl;
  start_symbol = refl;
  wide_fact = refl;
  wide_second = refl;
  missing = refl;
  cut_off = refl;
  twice = refl;
  exchanged = refl;
  wide_test = refl;
  other_symbol = refl;
  no_such_copy = refl;
  no_list = refl;
  no_rule = refl;
}

pub certificates_are_refused : CertificatesAreRefused
unfolding divisor_of
certificates_are_refused = record { long = refl; never = refl; large = refl; fact = refl; too_strong = refl }

pub limits_are_met : LimitsAreMet
limits_are_met = record {
  huge_fact = refl;
  before_multipliers = refl;
  full = refl;
  over = refl;
  full_beside_cost = refl;
  over_beside_cost = refl;
  other_variable = refl;
}
