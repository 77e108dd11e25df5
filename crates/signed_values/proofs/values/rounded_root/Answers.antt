use Rattle.signed_values.proofs.Numbers.{root_is}
use Rattle.signed_values.proofs.values.rounded_root.Goals as goal

pub returns : goal.returns
returns c = root_is _ _ c.isqrt.ensures.square_le c.isqrt.ensures.next_square_gt
