use Rattle.std.proofs.Common.{sym, ◌∙◌}
use Rattle.its_reader.proofs.SectionLaws.{start_begins}
use Rattle.its_reader.proofs.draft.Draft.begin_another.Goals as goal

pub returns-then-is_word : goal.returns-then-is_word
returns-then-is_word c = λ g.
    record { each = λ ts next f k. start_begins ts next _ f _ k g (sym c.is_word.ensures ∙ c.if-is_word.true) }

pub returns-else-is_word : goal.returns-else-is_word
returns-else-is_word c = λ g. c.begin_list.ensures g (sym c.is_word.ensures ∙ c.if-is_word.false)
