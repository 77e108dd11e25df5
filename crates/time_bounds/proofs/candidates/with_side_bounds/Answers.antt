use Rattle.std.proofs.Common.{List, [], ◌∷◌, ◌++◌, length, sym, ◌∙◌, subst}
use Rattle.std.proofs.lemmas.Iterator.Adapters.{YieldsList-from_vec}
use Rattle.std.proofs.lemmas.Iterator.Consumers.{YieldsList-turn}
use Rattle.rvg_components.specs.Listing.{answer_lists, local_from}
use Rattle.rvg_components.specs.declared.component.Component.{Component}
use Rattle.time_bounds.specs.declared.candidates.Candidate.{Candidate}
use Rattle.time_bounds.specs.Candidates.{IsAnswered, AreArmed}
use Rattle.time_bounds.proofs.SideBoundLists.{armed_more}
use Rattle.time_bounds.proofs.candidates.with_side_bounds.Goals as goal

pub with_its_side_bounds-requires : goal.with_its_side_bounds-requires
with_its_side_bounds-requires c =
    let gives = c.into_iter-component-iterator.ensures.into_iter_gives in
    let turn =
    YieldsList-turn (YieldsList-from_vec {s = c.into_iter-component-iterator.result} c.args.found.items gives.0 (gives.1 ∙ c.args.found.ok.0))
    c.loop-component.yielded c.loop-component.component-iterator c.loop-component.yielded_by c.next.result c.next.new.self c.in-Some.component c.in-Some.is
    c.next.ensures.steps in
    subst (λ (x : Component). IsAnswered (answer_lists c.args.locals.now) x) (sym turn.1)
    (c.requires (length c.loop-component.yielded) c.in-Some.component turn.0)

pub loop-component-preserved : goal.loop-component-preserved
loop-component-preserved c =
    let local = local_from (answer_lists c.args.locals.now) in
    subst (λ (cs : List Candidate). AreArmed local (c.loop-component.yielded ++ c.in-Some.component ∷ []) cs) (sym c.in_ok-push.ensures.items)
    (armed_more local c.loop-component.yielded c.loop-component.candidates.items c.in-Some.component c.in_ok-with_its_side_bounds.field-0 c.loop-component.invariant
    c.in_ok-with_its_side_bounds.ensures)
