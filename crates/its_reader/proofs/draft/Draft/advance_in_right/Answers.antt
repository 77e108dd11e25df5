use Rattle.its_reader.specs.declared.parser_state.TargetState.TheVariants as places
use Rattle.its_reader.proofs.RightPromises.{in_right_state, com_named_promise, target_named_promise}
use Rattle.its_reader.proofs.draft.Draft.advance_in_right.Goals as goal

pub returns-in-ComNamed : goal.returns-in-ComNamed
returns-in-ComNamed c = in_right_state c.args.state places.ComNamed c.args.self.now _ _ _ c.in-ComNamed.is
    (com_named_promise _ c.args.self.now _ c.is_open_bracket.result c.is_open_bracket.ensures c.leads_if.ensures)

pub returns-in-TargetNamed : goal.returns-in-TargetNamed
returns-in-TargetNamed c = in_right_state c.args.state (places.TargetNamed c.in-TargetNamed.wrap) c.args.self.now _ _ _
    c.in-TargetNamed.is (target_named_promise c.in-TargetNamed.wrap _ c.args.self.now _
    c.is_open_bracket-in-TargetNamed.result c.is_open_bracket-in-TargetNamed.ensures c.leads_if-in-TargetNamed.ensures)
