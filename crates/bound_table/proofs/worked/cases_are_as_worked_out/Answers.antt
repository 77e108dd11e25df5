use Rattle.bound_table.proofs.WorkedValues.{evaluated_powers, shifted_powers, merged_powers, multiplied_products}
use Rattle.bound_table.proofs.WorkedValues.{limits_met, tables_worked}
use Rattle.bound_table.proofs.worked.cases_are_as_worked_out.Goals as goal

pub returns-clause-evaluated : goal.returns-clause-evaluated
returns-clause-evaluated c = evaluated_powers

pub returns-clause-shifted : goal.returns-clause-shifted
returns-clause-shifted c = shifted_powers

pub returns-clause-merged : goal.returns-clause-merged
returns-clause-merged c = merged_powers

pub returns-clause-multiplied : goal.returns-clause-multiplied
returns-clause-multiplied c = multiplied_products

pub returns-clause-limits : goal.returns-clause-limits
returns-clause-limits c = limits_met

pub returns-clause-tables : goal.returns-clause-tables
returns-clause-tables c = tables_worked
