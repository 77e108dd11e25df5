use Rattle.std.proofs.Common.{refl}
use Rattle.bound_table.specs.InForce.{rewritten}
use Rattle.bound_table.proofs.rewriting.tables_are_as_defined.Goals as goal

pub returns-clause-in_force : goal.returns-clause-in_force
unfolding rewritten
returns-clause-in_force c = record { listed = refl; rewrites = λ b. refl }
