use Rattle.its_model.specs.Views.{program_of}
use Rattle.cert_context.proofs.PreparedCosts.{AreCostsSoFar}
use Rattle.cert_context.proofs.costs.all_costs.Given as goal

-- the list has the prepared costs of the rules before this one
abbrev pub invariant-loop-i : goal.invariant-loop-i
invariant-loop-i l = AreCostsSoFar (program_of l.p) l.i l.costs.items
