use Rattle.command_line.proofs.OneWay.{read_in_one_way}
use Rattle.command_line.proofs.law.words_are_read_in_one_way.Goals as goal

pub returns : goal.returns
returns c = read_in_one_way
