use Rattle.command_line.proofs.Commands.{stripped}
use Rattle.command_line.proofs.kind.rest_after.Goals as goal

pub returns : goal.returns
returns c = stripped c.strip_prefix.result (λ x. x.now) c.args.word.now c.args.first.now c.strip_prefix.ensures.cases
