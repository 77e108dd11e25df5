use Rattle.std.proofs.Common.{sym, ◌∙◌}
use Rattle.its_reader.specs.declared.parser_state.SourceState.TheVariants as lefts
use Rattle.its_reader.proofs.LeftLaws.{always, read_ends, read_promise}
use Rattle.its_reader.proofs.draft.Draft.behind_left_argument.Goals as goal

pub returns-in_ok-close_source : goal.returns-in_ok-close_source
returns-in_ok-close_source c = always lefts.LeftRead _ c.args.self.now _ _
    (λ ts next f k. read_ends ts next _ f c.args.self.now _ k
    (sym c.is_close_bracket.ensures ∙ c.if-is_close_bracket.true) c.in_ok-close_source.ensures)

pub returns-else-is_close_bracket : goal.returns-else-is_close_bracket
returns-else-is_close_bracket c = read_promise _ c.args.self.now _ c.is_comma.result
    (sym c.is_close_bracket.ensures ∙ c.if-is_close_bracket.false) c.is_comma.ensures c.leads_if.ensures
