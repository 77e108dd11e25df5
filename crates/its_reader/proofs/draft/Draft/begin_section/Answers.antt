use Rattle.std.proofs.Common.{sym, ◌∙◌}
use Rattle.its_reader.proofs.SectionLaws.{goal_begins}
use Rattle.its_reader.proofs.draft.Draft.begin_section.Goals as goal

pub returns-then-is_word : goal.returns-then-is_word
returns-then-is_word c =
    record { each = λ ts next f k. goal_begins ts next _ f _ k (sym c.is_word.ensures ∙ c.if-is_word.true) }

pub returns-else-is_word : goal.returns-else-is_word
returns-else-is_word c = c.begin_another.ensures (sym c.is_word.ensures ∙ c.if-is_word.false)
