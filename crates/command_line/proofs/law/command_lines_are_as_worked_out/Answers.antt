use Rattle.command_line.proofs.WorkedLines.{command_lines}
use Rattle.command_line.proofs.WorkedOthers.{other_words}
use Rattle.command_line.proofs.law.command_lines_are_as_worked_out.Goals as goal

pub returns : goal.returns
returns c = record { asked = command_lines; nothing = other_words }
