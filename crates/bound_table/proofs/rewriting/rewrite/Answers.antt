use Rattle.bound_table.specs.InForce.{rewritten}
use Rattle.bound_table.proofs.TableInForce.{in_force-tidying}
use Rattle.bound_table.proofs.rewriting.rewrite.Goals as goal

pub returns-clause-outcome : goal.returns-clause-outcome
unfolding rewritten
returns-clause-outcome c = c.simplify.ensures.outcome

pub returns-clause-tidy : goal.returns-clause-tidy
returns-clause-tidy c has = c.simplify.ensures.tidy in_force-tidying has
