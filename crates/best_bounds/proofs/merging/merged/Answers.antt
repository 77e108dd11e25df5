use Rattle.std.proofs.Common.{◌++◌, List, map, sym, subst}
use Rattle.claims_check.specs.declared.statement.Statement.{Statement}
use Rattle.claims_check.specs.Views.{stated_of}
use Rattle.best_bounds.specs.Subjects.{KeepsSubjects}
use Rattle.best_bounds.proofs.SubjectLists.{keeps_own}
use Rattle.best_bounds.proofs.MergedLists.{merging_goes_on}
use Rattle.best_bounds.proofs.merging.merged.Goals as goal

pub loop-statement-init : goal.loop-statement-init
loop-statement-init c =
    let all = map stated_of c.args.known.now ++ map stated_of c.args.found.now in
    subst (λ (ms : List Statement). KeepsSubjects all (map stated_of ms ++ all)) (sym c.new-merged.ensures.items)
    (keeps_own all)

pub loop-statement-preserved : goal.loop-statement-preserved
loop-statement-preserved c =
    merging_goes_on c.args.known.now c.args.found.now c.loop-statement.statement-index c.statement-item.result
    c.better_statement.result.statement.now c.in_ok-copied.field-0 c.loop-statement.merged.items c.loop-statement.left.now
    c.push_earlier.new.merged.items c.in_ok-behind.behind.now c.better_statement.result.left.now c.push.new.self.items
    c.loop-statement-test.true c.statement-item.is c.loop-statement.invariant c.in_ok-behind.ensures c.better_statement.ensures
    c.in_ok-copied.ensures c.in_ok-push.ensures.items
