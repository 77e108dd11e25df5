use Rattle.std.proofs.Common.{sym, ◌∙◌}
use Rattle.its_reader.specs.declared.parser_state.TargetState.TheVariants as places
use Rattle.its_reader.proofs.RightLaws.{com_leads}
use Rattle.its_reader.proofs.RightPromises.{always_right, arrowed_promise}
use Rattle.its_reader.proofs.draft.Draft.behind_arrow.Goals as goal

pub returns-then-is_word : goal.returns-then-is_word
returns-then-is_word c = always_right places.Arrowed _ c.args.self.now _ _
    (λ ts next f k. com_leads ts next _ f _ k (sym c.is_word.ensures ∙ c.if-is_word.true))

pub returns-else-is_word : goal.returns-else-is_word
returns-else-is_word c = arrowed_promise _ c.args.self.now _ _ (sym c.is_word.ensures ∙ c.if-is_word.false)
    c.name_target.ensures.each
