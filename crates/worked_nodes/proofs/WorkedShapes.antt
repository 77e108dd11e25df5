-- Shapes, limits and first facts, computed.
use Rattle.std.proofs.Common.{refl}
use Rattle.cert_program.specs.bound_table.Below.{below}
use Rattle.cert_program.specs.bound_table.InForce.{rewritten}
use Rattle.cert_program.specs.bound_table.Rewriting.{simplified, passes_until_same, at_node, parts_passed}
use Rattle.cert_program.specs.guard_prep.Tightening.{divisor_of}
use Rattle.cert_program.specs.cert_rules.Acceptance.{facts_of_lemmas}
use Rattle.worked_nodes.specs.WorkedShapes.{ShapesAreRefused, RankLimitsAreMet, SideBoundLimitsAreMet, WeakerLimitsAreMet}
use Rattle.worked_nodes.specs.WorkedShapes.{FirstFactsCount}

pub shapes_refused : ShapesAreRefused
unfolding rewritten simplified passes_until_same at_node parts_passed divisor_of facts_of_lemmas below
shapes_refused = record {
  disordered = refl;
  one_form_more = refl;
  one_move_more = refl;
  short_form = refl;
  descending = refl;
  without_itself = refl;
  later_member_first = refl;
  twice_the_same = refl;
  no_member = refl;
  no_lemma = refl;
  no_rule = refl;
  past_the_places = refl;
  no_place_0 = refl;
  past_the_rules = refl;
  set_past_the_rules = refl;
}

pub rank_limits_met : RankLimitsAreMet
unfolding rewritten simplified passes_until_same at_node parts_passed divisor_of facts_of_lemmas below
rank_limits_met = record {
  multipliers = refl;
  multipliers_over = refl;
  most_den = refl;
  most_stated = refl;
  den_over = refl;
  coefficient_over = refl;
  most_constant = refl;
  constant_over = refl;
  most_move = refl;
  move_over = refl;
  most_floor = refl;
  floor_over = refl;
}

pub side_bound_limits_met : SideBoundLimitsAreMet
unfolding rewritten simplified passes_until_same at_node parts_passed divisor_of facts_of_lemmas below
side_bound_limits_met = record {
  most_den = refl;
  most_stated = refl;
  no_den = refl;
  den_over = refl;
  coefficient_over = refl;
  most_constant = refl;
  constant_over = refl;
  most_multiplier = refl;
  multiplier_over = refl;
}

pub weaker_limits_met : WeakerLimitsAreMet
unfolding rewritten simplified passes_until_same at_node parts_passed divisor_of facts_of_lemmas below
weaker_limits_met = record {
  constant = refl;
  constant_over = refl;
  base = refl;
  base_under = refl;
  input_over = refl;
}

pub first_facts_count : FirstFactsCount
unfolding rewritten simplified passes_until_same at_node parts_passed divisor_of facts_of_lemmas below
first_facts_count = record {
  five = refl;
  five_accepted = refl;
  one = refl;
  unreached = refl;
  reached = refl;
  not_weaker = refl;
}
