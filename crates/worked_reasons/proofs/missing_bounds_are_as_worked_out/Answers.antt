use Rattle.worked_reasons.proofs.CostOutcomes.{cost_outcomes_worked}
use Rattle.worked_reasons.proofs.Costs.{costs_worked}
use Rattle.worked_reasons.proofs.FirstReasons.{first_reasons_worked}
use Rattle.worked_reasons.proofs.FirstHitsLimit.{first_hits_limit_worked}
use Rattle.worked_reasons.proofs.FirstUntimed.{first_untimed_worked}
use Rattle.worked_reasons.proofs.Growths.{growths_worked}
use Rattle.worked_reasons.proofs.Limits.{limits_worked}
use Rattle.worked_reasons.proofs.UnboundedPlaces.{unbounded_places_worked}
use Rattle.worked_reasons.proofs.PointHitsLimit.{point_hits_limit_worked}
use Rattle.worked_reasons.proofs.Products.{products_worked}
use Rattle.worked_reasons.proofs.Scales.{scales_worked}
use Rattle.worked_reasons.proofs.Squares.{squares_worked}
use Rattle.worked_reasons.proofs.HitsLimit.{hits_limit_worked}
use Rattle.worked_reasons.proofs.missing_bounds_are_as_worked_out.Goals as goal

pub returns : goal.returns
returns c = record { hits_limit = hits_limit_worked; first_hits_limit = first_hits_limit_worked; point_hits_limit = point_hits_limit_worked; limits = limits_worked; scales = scales_worked; unbounded_places = unbounded_places_worked; squares = squares_worked; products = products_worked; growths = growths_worked; first_reasons = first_reasons_worked; first_untimed = first_untimed_worked; costs = costs_worked; cost_outcomes = cost_outcomes_worked }
