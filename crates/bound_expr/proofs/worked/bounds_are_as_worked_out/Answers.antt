use Rattle.bound_expr.proofs.WorkedValues.{measures, numbers, tidy_bounds, substitution}
use Rattle.bound_expr.proofs.worked.bounds_are_as_worked_out.Goals as goal

pub returns-clause-measures : goal.returns-clause-measures
returns-clause-measures c = measures

pub returns-clause-numbers : goal.returns-clause-numbers
returns-clause-numbers c = numbers

pub returns-clause-tidy : goal.returns-clause-tidy
returns-clause-tidy c = tidy_bounds

pub returns-clause-substitution : goal.returns-clause-substitution
returns-clause-substitution c = substitution
