use Rattle.while_model.proofs.FreeNames as lemmas
use Rattle.while_model.proofs.free_names_are_apart.Goals as goal

pub returns : goal.returns
returns c = lemmas.free_names_are_apart
