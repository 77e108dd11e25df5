use Rattle.command_line.proofs.OneWay.{one_command, command_listed}
use Rattle.command_line.proofs.law.commands_are_listed.Goals as goal

pub returns : goal.returns
returns c = record { listed = command_listed; distinct = one_command }
