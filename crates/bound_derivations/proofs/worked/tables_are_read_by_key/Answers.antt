use Rattle.bound_derivations.proofs.WorkedValues.{read_by_key}
use Rattle.bound_derivations.proofs.worked.tables_are_read_by_key.Goals as goal

pub returns : goal.returns
returns c = read_by_key
