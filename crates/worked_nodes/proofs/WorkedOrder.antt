-- The first reasons of nodes with more than one fault, computed.
use Rattle.std.proofs.Common.{refl}
use Rattle.cert_program.specs.bound_table.Below.{below}
use Rattle.cert_program.specs.bound_table.InForce.{rewritten}
use Rattle.cert_program.specs.bound_table.Rewriting.{simplified, passes_until_same, at_node, parts_passed}
use Rattle.cert_program.specs.guard_prep.Tightening.{divisor_of}
use Rattle.cert_program.specs.cert_rules.Acceptance.{facts_of_lemmas}
use Rattle.worked_nodes.specs.WorkedOrder.{RankReasonsAreInOrder, LoopReasonsAreInOrder, SizeReasonsAreInOrder}
use Rattle.worked_nodes.specs.WorkedOrder.{PlainReasonsAreInOrder}

pub rank_reasons_in_order : RankReasonsAreInOrder
unfolding rewritten simplified passes_until_same at_node parts_passed divisor_of facts_of_lemmas below
rank_reasons_in_order = record {
  shape_before_move = refl;
  first_move = refl;
  second_move = refl;
  floor_before_time = refl;
  time_before_size = refl;
  times_before_sizes = refl;
}

pub loop_reasons_in_order : LoopReasonsAreInOrder
unfolding rewritten simplified passes_until_same at_node parts_passed divisor_of facts_of_lemmas below
loop_reasons_in_order = record {
  up_before_low = refl;
  up_of_second = refl;
  low_before_size = refl;
  size_before_nonlinear = refl;
  nonlinear_before_time = refl;
  first_time = refl;
  size_before_time = refl;
  time = refl;
  doubled_size = refl;
  doubled_time = refl;
}

pub size_reasons_in_order : SizeReasonsAreInOrder
unfolding rewritten simplified passes_until_same at_node parts_passed divisor_of facts_of_lemmas below
size_reasons_in_order = record {
  up_before_low = refl;
  first_before = refl;
  second_before = refl;
  size_before_large = refl;
  large = refl;
  large_before = refl;
  small_before = refl;
  time_before_large = refl;
  large_loop = refl;
}

pub plain_reasons_in_order : PlainReasonsAreInOrder
unfolding rewritten simplified passes_until_same at_node parts_passed divisor_of facts_of_lemmas below
plain_reasons_in_order = record {
  never_of_a_size = refl;
  never_of_the_entry = refl;
  weaker_start = refl;
  empty_length = refl;
}
