use Rattle.cert_program.proofs.Files.{forms-same}
use Rattle.cert_program.proofs.laws.forms_are_those_of_settings.Goals as goal

pub returns : goal.returns
returns c = forms-same
