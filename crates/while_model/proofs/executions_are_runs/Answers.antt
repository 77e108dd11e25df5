use Rattle.while_model.proofs.Translating as lemmas
use Rattle.while_model.proofs.executions_are_runs.Goals as goal

pub returns : goal.returns
returns c = lemmas.executions_are_runs
