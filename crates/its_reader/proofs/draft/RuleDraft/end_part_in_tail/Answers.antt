use Rattle.std.proofs.Common.{refl, sym, ap, ◌∙◌, ◌&&◌}
use Rattle.its_text.specs.Kinds.{ArityDiffers}
use Rattle.its_text.specs.StateFaults.{fault_if}
use Rattle.its_reader.proofs.PartEndLaws.{tail_guarding, tail_holds}
use Rattle.its_reader.proofs.draft.RuleDraft.end_part_in_tail.Goals as goal

pub returns-in_ok-part_ended : goal.returns-in_ok-part_ended
returns-in_ok-part_ended c = tail_guarding (sym c.is_guarding.ensures ∙ c.if-is_guarding.true)
    c.in_ok-part_ended.ensures

pub returns-else-is_guarding : goal.returns-else-is_guarding
returns-else-is_guarding c = tail_holds (sym c.is_guarding.ensures ∙ c.if-is_guarding.false) (record {
  now_is = refl;
  found_is = λ at. c.arity_refusal-refusal.ensures at ∙ ap
      (λ v. fault_if (v && c.args.self.now.differs) ArityDiffers at) c.is_targeted.ensures;
  new_is = refl;
})
