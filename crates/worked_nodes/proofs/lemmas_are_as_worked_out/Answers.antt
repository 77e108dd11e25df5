use Rattle.worked_nodes.proofs.WorkedLemmas.{falling_loops_judged, dead_rules_judged, squares_judged}
use Rattle.worked_nodes.proofs.WorkedLoops.{nested_judged, doubling_judged}
use Rattle.worked_nodes.proofs.lemmas_are_as_worked_out.Goals as goal

pub returns : goal.returns
returns c = record {
  falling = falling_loops_judged;
  dead = dead_rules_judged;
  squares = squares_judged;
  nested = nested_judged;
  doubling = doubling_judged;
}
