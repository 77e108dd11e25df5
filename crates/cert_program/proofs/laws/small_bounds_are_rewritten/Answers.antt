use Rattle.cert_program.proofs.Small as lemmas
use Rattle.cert_program.proofs.laws.small_bounds_are_rewritten.Goals as goal

pub returns : goal.returns
returns c = lemmas.small-bounds
