use Rattle.bland_end.proofs.Budgets.{never-budget}
use Rattle.bland_end.proofs.laws.bases_suffice.Goals as goal

pub returns : goal.returns
returns c = record { each = never-budget }
