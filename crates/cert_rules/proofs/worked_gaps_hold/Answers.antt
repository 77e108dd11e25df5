use Rattle.cert_rules.proofs.WorkedGaps.{gaps_judged}
use Rattle.cert_rules.proofs.WorkedGapSets.{gaps_of_two_judged}
use Rattle.cert_rules.proofs.WorkedGapShapes.{gap_limits_judged, gap_shapes_judged, gap_order_judged}
use Rattle.cert_rules.proofs.WorkedGapShapes.{shut_places_judged}
use Rattle.cert_rules.proofs.worked_gaps_hold.Goals as goal

pub returns : goal.returns
returns c = record {
  small = gaps_judged;
  two_rules = gaps_of_two_judged;
  limits = gap_limits_judged;
  shapes = gap_shapes_judged;
  order = gap_order_judged;
  shut = shut_places_judged;
}
