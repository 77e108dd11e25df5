use Rattle.std.proofs.Common.{refl, sym, ap, ◌∙◌, ◌&&◌}
use Rattle.its_text.specs.Kinds.{ArityDiffers}
use Rattle.its_text.specs.StateFaults.{fault_if}
use Rattle.its_reader.proofs.PartEndLaws.{right_argued, right_holds}
use Rattle.its_reader.proofs.draft.RuleDraft.end_part_in_right.Goals as goal

pub returns-in_ok-part_ended-in-Some : goal.returns-in_ok-part_ended-in-Some
returns-in_ok-part_ended-in-Some c = right_argued (sym c.argument_wrap.ensures ∙ c.in-Some.is) c.inner_of.ensures
    c.in_ok-part_ended-in-Some.ensures

pub returns-in-None : goal.returns-in-None
returns-in-None c = right_holds (sym c.argument_wrap.ensures ∙ c.in-None.is) (record {
  now_is = refl;
  found_is = λ at. c.arity_refusal-refusal.ensures at ∙ ap
      (λ v. fault_if (v && c.args.self.now.differs) ArityDiffers at) c.is_closed.ensures;
  new_is = refl;
})
