use Rattle.text_core.proofs.WorkedValues.{names, positions, digits, tokens_found, break_values, fault_values, read}
use Rattle.text_core.proofs.law.worked_values_hold.Goals as goal

pub returns : goal.returns
returns c = record { names = names; positions = positions; digits = digits; tokens_found = tokens_found; breaks = break_values; faults = fault_values; read = read }
