use Rattle.std.proofs.Common.{ap, ◌∙◌}
use Rattle.its_text.specs.StateFaults.{expansion_faults}
use Rattle.its_reader.proofs.expression.refusal_of.Goals as goal

pub returns : goal.returns
returns c = λ at. c.kind_of.ensures at ∙ ap (expansion_faults at) c.in_ok-fault.ensures
