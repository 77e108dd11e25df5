use Rattle.std.proofs.Common.{sym, ◌∙◌}
use Rattle.its_reader.proofs.SectionLaws.{variables_begin}
use Rattle.its_reader.proofs.draft.Draft.begin_list.Goals as goal

pub returns-then-is_word : goal.returns-then-is_word
returns-then-is_word c = λ g s.
    record { each = λ ts next f k. variables_begin ts next _ f _ k g s (sym c.is_word.ensures ∙ c.if-is_word.true) }

pub returns-else-is_word : goal.returns-else-is_word
returns-else-is_word c = λ g s. c.begin_last.ensures g s (sym c.is_word.ensures ∙ c.if-is_word.false)
