use Rattle.its_reader.specs.declared.parser_state.CostState.TheVariants as places
use Rattle.its_reader.proofs.CostLaws.{in_cost_state, costed_promise}
use Rattle.its_reader.proofs.draft.Draft.advance_in_cost.Goals as goal

pub returns-in-Costed : goal.returns-in-Costed
returns-in-Costed c = in_cost_state c.args.state places.Costed c.args.self.now _ _ _ c.in-Costed.is
    (costed_promise _ c.args.self.now _ c.behind_cost.ensures)
