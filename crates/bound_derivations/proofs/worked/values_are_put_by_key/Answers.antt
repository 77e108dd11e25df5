use Rattle.bound_derivations.proofs.WorkedValues.{put_by_key}
use Rattle.bound_derivations.proofs.worked.values_are_put_by_key.Goals as goal

pub returns : goal.returns
returns c = put_by_key
