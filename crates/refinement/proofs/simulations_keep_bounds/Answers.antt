use Rattle.refinement.proofs.Keeping as lemmas
use Rattle.refinement.proofs.simulations_keep_bounds.Goals as goal

pub returns : goal.returns
returns g c = lemmas.simulation_keeps_bounds g.F.Facts.HasFacts
