use Rattle.std.proofs.Common.{ℕ, Option, is_some, ap, ◌∙◌}
use Rattle.rank_search.proofs.Marking.{values-pushed, mark-there}
use Rattle.rank_search.proofs.symbols.are_marked.Goals as goal

pub loop-mark-preserved : goal.loop-mark-preserved
loop-mark-preserved c = λ test h.
    let i = c.loop-mark.mark-index in
    values-pushed test i c.loop-mark.flags.items c.push.new.self.items c.is_some.result (c.loop-mark.invariant test h)
    c.in_ok-push.ensures.items
    (c.is_some.ensures ∙ (ap (λ (o : Option ℕ). is_some o) (h i c.loop-mark-test.true) ∙ mark-there (test i) i))
