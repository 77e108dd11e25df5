use Rattle.std.proofs.Common.{ap, ◌∙◌, ◌&&◌}
use Rattle.its_text.specs.Kinds.{ArityDiffers}
use Rattle.its_text.specs.StateFaults.{fault_if}
use Rattle.its_reader.proofs.draft.RuleDraft.refusal_in_left.Goals as goal

pub returns : goal.returns
returns c = λ at. c.arity_refusal.ensures at ∙ ap (λ v. fault_if (v && c.args.self.now.differs) ArityDiffers at)
    c.is_closed.ensures
