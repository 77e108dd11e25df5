use Rattle.bland_end.proofs.OneEnd.{whole_ends-same}
use Rattle.bland_end.proofs.laws.ends_are_one.Goals as goal

pub returns : goal.returns
returns c = record { each = whole_ends-same }
