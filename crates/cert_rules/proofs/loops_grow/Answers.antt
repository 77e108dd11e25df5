use Rattle.cert_rules.proofs.LoopGrowth as lemmas
use Rattle.cert_rules.proofs.loops_grow.Goals as goal

pub returns : goal.returns
returns c = lemmas.loops_grow
