use Rattle.its_reader.specs.declared.parser_state.SectionState.TheVariants as places
use Rattle.its_reader.proofs.SectionLaws.{in_place, between_promise, goal_promise, start_promise, symbols_promise}
use Rattle.its_reader.proofs.SectionLaws.{said_promise, closed_promise, comment_promise, wherever}
use Rattle.its_reader.proofs.draft.Draft.advance_in_sections.Goals as goal

pub returns-in-Between : goal.returns-in-Between
returns-in-Between c = in_place c.args.state places.Between c.args.self.now _ _ _ _ c.in-Between.is
    (between_promise _ c.args.self.now c.args.at _ c.is_open_bracket.result c.is_open_bracket.ensures
    c.leads_if.ensures)

pub returns-in-GoalNamed : goal.returns-in-GoalNamed
returns-in-GoalNamed c = in_place c.args.state places.GoalNamed c.args.self.now _ _ _ _ c.in-GoalNamed.is
    (goal_promise _ c.args.self.now c.args.at _ c.is_word.result c.is_word.ensures c.leads_if-in-GoalNamed.ensures)

pub returns-in-StartNamed : goal.returns-in-StartNamed
returns-in-StartNamed c = in_place c.args.state places.StartNamed c.args.self.now _ _ _ _ c.in-StartNamed.is
    (start_promise _ c.args.self.now c.args.at _ c.is_open_bracket-in-StartNamed.result
    c.is_open_bracket-in-StartNamed.ensures c.leads_if-in-StartNamed.ensures)

pub returns-in-StartOpened : goal.returns-in-StartOpened
returns-in-StartOpened c = in_place c.args.state places.StartOpened c.args.self.now _ _ _ _ c.in-StartOpened.is
    (symbols_promise _ c.args.self.now c.args.at _ c.is_word-in-StartOpened.result c.is_word-in-StartOpened.ensures
    c.leads_if-in-StartOpened.ensures)

pub returns-in-StartRead : goal.returns-in-StartRead
returns-in-StartRead c = in_place c.args.state places.StartRead c.args.self.now _ _ _ _ c.in-StartRead.is
    (said_promise _ c.args.self.now c.args.at _ c.is_close_bracket.result c.is_close_bracket.ensures
    c.leads_if-in-StartRead.ensures)

pub returns-in-StartClosed : goal.returns-in-StartClosed
returns-in-StartClosed c = in_place c.args.state places.StartClosed c.args.self.now _ _ _ _ c.in-StartClosed.is
    (closed_promise _ c.args.self.now c.args.at _ c.is_close_bracket-in-StartClosed.result
    c.is_close_bracket-in-StartClosed.ensures c.leads_if-in-StartClosed.ensures)

pub returns-in-CommentNamed : goal.returns-in-CommentNamed
returns-in-CommentNamed c = in_place c.args.state places.CommentNamed c.args.self.now _ _ _ _ c.in-CommentNamed.is
    (comment_promise _ c.args.self.now c.args.at _ c.is_comment.result c.is_comment.ensures
    c.leads_if-in-CommentNamed.ensures)

pub returns-in-Opened : goal.returns-in-Opened
returns-in-Opened c = in_place c.args.state places.Opened c.args.self.now _ _ _ _ c.in-Opened.is
    (wherever places.Opened c.args.self.now _ _ c.args.at _ c.begin_section.ensures)

pub returns-in-GoalRead : goal.returns-in-GoalRead
returns-in-GoalRead c = in_place c.args.state places.GoalRead c.args.self.now _ _ _ _ c.in-GoalRead.is
    (wherever places.GoalRead c.args.self.now _ _ c.args.at _ c.end_goal.ensures)

pub returns-in-Listing : goal.returns-in-Listing
returns-in-Listing c = in_place c.args.state places.Listing c.args.self.now _ _ _ _ c.in-Listing.is
    (wherever places.Listing c.args.self.now _ _ c.args.at _ c.list_variable.ensures)
