use Rattle.std.proofs.Common.{◌≡◌, ◌+◌, ◌∙◌, filter, subst, sym}
use Rattle.std.specs.List.{range_with_len}
use Rattle.check_ranks.proofs.Marking.{marked-pushed, marked-passed}
use Rattle.check_ranks.proofs.symbols.marked.Goals as goal
use Rattle.check_ranks.proofs.symbols.marked.Goals.{in-Some+in_ok-push-in-Some, in-None}

pub loop-mark-preserved : goal.loop-mark-preserved
loop-mark-preserved c = λ test h.
    let i = c.loop-mark.mark-index in
    let here = h i c.loop-mark-test.true in
    let kept = c.loop-mark.invariant test h in
    elim c.match-mark.branch [
      | in-Some+in_ok-push-in-Some w ↦
          subst (λ v. v.items ≡ filter test (range_with_len 0 (i + 1))) (sym w.found-is)
          (marked-pushed test i c.loop-mark.found.items kept w.in-Some.number w.push.new.self.items
          (sym w.in-Some.is ∙ here) w.in_ok-push-in-Some.ensures.items)
      | in-None w ↦
          subst (λ v. v.items ≡ filter test (range_with_len 0 (i + 1))) (sym w.found-is)
          (marked-passed test i c.loop-mark.found.items kept (sym w.in-None.is ∙ here))
    ]
