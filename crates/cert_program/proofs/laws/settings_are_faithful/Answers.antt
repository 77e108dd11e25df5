use Rattle.cert_program.proofs.Faithful as lemmas
use Rattle.cert_program.proofs.laws.settings_are_faithful.Goals as goal

pub returns : goal.returns
returns c = lemmas.settings-faithful
