use Rattle.its_reader.specs.declared.parser_state.ParserState.TheVariants as places
use Rattle.its_reader.proofs.PartEndLaws.{section_ends_part, left_ends_part, right_ends_part, tail_ends_part}
use Rattle.its_reader.proofs.PartEndLaws.{in_part_ended_state}
use Rattle.its_reader.proofs.PartEndLaws.{in_same_state}
use Rattle.its_reader.proofs.CostEnds.{cost_ends_part}
use Rattle.its_reader.proofs.draft.Draft.end_part.Goals as goal

pub returns-in-InSections : goal.returns-in-InSections
returns-in-InSections c = in_same_state c.args.state _ c.args.self.now _ _ _ c.in-InSections.is
    (section_ends_part _ c.args.self.now _)

pub returns-in-InLeft : goal.returns-in-InLeft
returns-in-InLeft c = in_part_ended_state c.args.state (places.InLeft c.in-InLeft.left) c.args.self.now _ _ _ _
    c.in-InLeft.is (left_ends_part c.in-InLeft.left c.args.self.now _ _ c.refusal_in_left-refusal.ensures)

pub returns-in_ok-costed-in-InCost : goal.returns-in_ok-costed-in-InCost
returns-in_ok-costed-in-InCost c =
    in_part_ended_state c.args.state (places.InCost c.in-InCost.cost) c.args.self.now _ _ _ _ c.in-InCost.is
    (cost_ends_part c.in-InCost.cost c.args.self.now _ _ _ _ c.in_ok-costed-in-InCost.ensures)

pub returns-in_ok-argument_wrap-in-InRight : goal.returns-in_ok-argument_wrap-in-InRight
returns-in_ok-argument_wrap-in-InRight c =
    in_part_ended_state c.args.state (places.InRight c.in-InRight.right) c.args.self.now _ _ _ _ c.in-InRight.is
    (right_ends_part c.in-InRight.right c.args.self.now _ _ _ _ c.in_ok-argument_wrap-in-InRight.ensures)

pub returns-in_ok-guarded-in-InTail : goal.returns-in_ok-guarded-in-InTail
returns-in_ok-guarded-in-InTail c =
    in_part_ended_state c.args.state (places.InTail c.in-InTail.tail) c.args.self.now _ _ _ _ c.in-InTail.is
    (tail_ends_part c.in-InTail.tail c.args.self.now _ _ _ _ c.in_ok-guarded-in-InTail.ensures)
