use Rattle.cert_rules.proofs.GapExclusion as lemmas
use Rattle.cert_rules.proofs.gaps_exclude_functions.Goals as goal

pub returns : goal.returns
returns c = lemmas.gaps-exclude
