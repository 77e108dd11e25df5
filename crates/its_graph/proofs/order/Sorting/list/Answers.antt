use Rattle.std.proofs.Common.{◌+◌, not, refl, ◌∙◌, ap, List, Bool, arith}
use Rattle.std.specs.List.{count_by}
use Rattle.std.proofs.lemmas.Result.{on_ok_weaker}
use Rattle.its_graph.proofs.Sorting.{listed, popped-open, fewer-unmarked}
use Rattle.its_graph.proofs.order.Sorting.list.Goals as goal

-- The leader is a node.
pub index_mut-requires : goal.index_mut-requires
index_mut-requires c = let at = popped-open c.args.needs.now c.args.leaders.now c.args.leader c.args.self.now c.requires.popped in let e = c.args.self.now.is_listed.ok.0 in omega (arith, at.0, e)

-- The leaders that waited have to settle.
pub settle_all-requires-clause-sorting : goal.settle_all-requires-clause-sorting
settle_all-requires-clause-sorting c =
    listed c.args.needs.now c.args.leaders.now c.requires.orderable c.args.leader c.args.self.now _ c.deref.result.now c.requires.popped
    refl refl refl c.in_ok-push.ensures.items c.take_from-waiting.ensures.size c.take_from-waiting.ensures.values (c.deref.ensures.value ∙ c.take_from-waiting.ensures.taken)

-- One more mark is set.
pub returns-clause-fewer : goal.returns-clause-fewer
returns-clause-fewer c =
    let at = popped-open c.args.needs.now c.args.leaders.now c.args.leader c.args.self.now c.requires.popped in
    let fewer = fewer-unmarked c.args.self.now.is_listed.items c.args.leader at.0 at.1 in
    on_ok_weaker c.settle_all.result (λ e. ap (λ (xs : List Bool). count_by not xs + 1) e ∙ fewer) c.settle_all.ensures.marks
