use Rattle.model.proofs.SpendingSums.{plain_totals_are_lengths}
use Rattle.while_model.proofs.Translating as lemmas
use Rattle.while_model.proofs.totals_bound_executions.Goals as goal

pub returns : goal.returns
returns c = lemmas.totals_bound_executions plain_totals_are_lengths
