use Rattle.std.proofs.Common.{◌∙◌}
use Rattle.check_potentials.proofs.known.is_never.Goals as goal

pub returns : goal.returns
returns c = c.is_set.ensures ∙ c.requires.tell.each c.args.rule c.requires.flagged
