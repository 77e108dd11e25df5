use Rattle.while_front.proofs.UpdateLists.{terms_set}
use Rattle.while_front.proofs.updates.put.Goals as goal

pub returns-then-place-len : goal.returns-then-place-len
returns-then-place-len c = terms_set c.args.updates.now.items c.args.x c.args.e
