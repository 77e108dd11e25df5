use Rattle.worked_nodes.proofs.WorkedShapes.{shapes_refused, rank_limits_met, side_bound_limits_met, weaker_limits_met}
use Rattle.worked_nodes.proofs.WorkedShapes.{first_facts_count}
use Rattle.worked_nodes.proofs.shapes_are_as_worked_out.Goals as goal

pub returns : goal.returns
returns c = record {
  shapes = shapes_refused;
  ranks = rank_limits_met;
  side_bounds = side_bound_limits_met;
  weaker = weaker_limits_met;
  facts = first_facts_count;
}
