use Rattle.std.proofs.Common.{sym, ◌∙◌}
use Rattle.its_reader.specs.declared.parser_state.SourceState.TheVariants as lefts
use Rattle.its_reader.proofs.LeftLaws.{always, opened_ends, opened_promise}
use Rattle.its_reader.proofs.draft.Draft.behind_left_bracket.Goals as goal

pub returns-in_ok-close_source : goal.returns-in_ok-close_source
returns-in_ok-close_source c = always lefts.LeftOpened _ c.args.self.now _ _
    (λ ts next f k. opened_ends ts next _ f c.args.self.now _ k
    (sym c.is_close_bracket.ensures ∙ c.if-is_close_bracket.true) c.in_ok-close_source.ensures)

pub returns-in_ok-reached : goal.returns-in_ok-reached
returns-in_ok-reached c = opened_promise _ c.args.self.now _ _
    (sym c.is_close_bracket.ensures ∙ c.if-is_close_bracket.false) c.in_ok-reached.ensures.each
