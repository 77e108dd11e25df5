use Rattle.its_reader.specs.declared.parser_state.ParserState.TheVariants as places
use Rattle.its_reader.proofs.AdvanceLaws.{in_advanced_state, sections_advance, left_advances, cost_advances}
use Rattle.its_reader.proofs.AdvanceLaws.{right_advances, tail_advances}
use Rattle.its_reader.proofs.draft.Draft.advance.Goals as goal

pub returns-in-InSections : goal.returns-in-InSections
returns-in-InSections c =
    in_advanced_state c.args.state (places.InSections c.in-InSections.section) c.args.self.now _ _ _ _
    c.in-InSections.is (sections_advance c.in-InSections.section c.args.self.now _ _ _ _
    c.advance_in_sections.ensures)

pub returns-in_ok-led-in-InLeft : goal.returns-in_ok-led-in-InLeft
returns-in_ok-led-in-InLeft c = in_advanced_state c.args.state (places.InLeft c.in-InLeft.left) c.args.self.now _ _ _ _
    c.in-InLeft.is (left_advances c.in-InLeft.left c.args.self.now _ _ _ _ c.in_ok-led-in-InLeft.ensures)

pub returns-in_ok-costed-in-InCost : goal.returns-in_ok-costed-in-InCost
returns-in_ok-costed-in-InCost c = in_advanced_state c.args.state (places.InCost c.in-InCost.cost) c.args.self.now _ _ _
    _ c.in-InCost.is (cost_advances c.in-InCost.cost c.args.self.now _ _ _ _ c.in_ok-costed-in-InCost.ensures)

pub returns-in_ok-aimed-in-InRight : goal.returns-in_ok-aimed-in-InRight
returns-in_ok-aimed-in-InRight c = in_advanced_state c.args.state (places.InRight c.in-InRight.right) c.args.self.now _
    _ _ _ c.in-InRight.is (right_advances c.in-InRight.right c.args.self.now _ _ _ _ c.in_ok-aimed-in-InRight.ensures)

pub returns-in_ok-guarded-in-InTail : goal.returns-in_ok-guarded-in-InTail
returns-in_ok-guarded-in-InTail c = in_advanced_state c.args.state (places.InTail c.in-InTail.tail) c.args.self.now _ _
    _ _ c.in-InTail.is (tail_advances c.in-InTail.tail c.args.self.now _ _ _ _ c.in_ok-guarded-in-InTail.ensures)
