use Rattle.worked_nodes.proofs.WorkedOrder.{rank_reasons_in_order, loop_reasons_in_order, size_reasons_in_order}
use Rattle.worked_nodes.proofs.WorkedOrder.{plain_reasons_in_order}
use Rattle.worked_nodes.proofs.reasons_are_as_worked_out.Goals as goal

pub returns : goal.returns
returns c = record {
  ranks = rank_reasons_in_order;
  loops = loop_reasons_in_order;
  sizes = size_reasons_in_order;
  plain = plain_reasons_in_order;
}
