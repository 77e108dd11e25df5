use Rattle.its_reader.specs.declared.parser_state.SourceState.TheVariants as places
use Rattle.its_reader.proofs.LeftLaws.{in_left_state, ruled_promise, source_promise, closed_promise}
use Rattle.its_reader.proofs.draft.Draft.advance_in_left.Goals as goal

pub returns-in-AfterRule : goal.returns-in-AfterRule
returns-in-AfterRule c = in_left_state c.args.state places.AfterRule c.args.self.now _ _ _ c.in-AfterRule.is
    (ruled_promise _ c.args.self.now _ _ c.begin_rule.ensures.leads)

pub returns-in-SourceNamed : goal.returns-in-SourceNamed
returns-in-SourceNamed c = in_left_state c.args.state places.SourceNamed c.args.self.now _ _ _ c.in-SourceNamed.is
    (source_promise _ c.args.self.now _ c.is_open_bracket.result c.is_open_bracket.ensures c.leads_if.ensures)

pub returns-in-SourceClosed : goal.returns-in-SourceClosed
returns-in-SourceClosed c = in_left_state c.args.state places.SourceClosed c.args.self.now _ _ _ c.in-SourceClosed.is
    (closed_promise _ c.args.self.now _ c.behind_left.ensures)
