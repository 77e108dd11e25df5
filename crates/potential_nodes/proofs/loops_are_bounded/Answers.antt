use Rattle.potential_nodes.proofs.WorkedLoop as lemmas
use Rattle.potential_nodes.proofs.loops_are_bounded.Goals as goal

pub returns : goal.returns
returns c = lemmas.loops-bounded c.within_holds.ensures c.squares_are_safe.ensures.safe
