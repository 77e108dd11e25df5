use Rattle.std.proofs.Common.{◌∙◌}
use Rattle.text_core.proofs.KeyLaws.{absent_position}
use Rattle.text_core.proofs.listed.NameIndex.position_or_count.Goals as goal

pub returns-in-None : goal.returns-in-None
returns-in-None c = c.len.ensures.len ∙ absent_position (λ k. k.now) c.args.name.now c.args.self.now.names.keys c.in-None.ensures
