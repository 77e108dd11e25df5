use Rattle.cert_rules.proofs.Soundness as lemmas
use Rattle.cert_rules.proofs.accepted_bounds_are_based.Goals as goal

pub returns : goal.returns
returns c = lemmas.accepted_bounds_are_based
