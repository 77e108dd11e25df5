use Rattle.model.proofs.SpendingSums.{spending_is_by_rules, plain_totals_are_lengths}
use Rattle.model.proofs.costs.costs_add_up.Goals as goal

pub returns : goal.returns
returns c = record { by_rules = spending_is_by_rules; plain = plain_totals_are_lengths }
