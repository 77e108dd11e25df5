use Rattle.std.proofs.Common.{Option, [], ◌∷◌, length, subst}
use Rattle.std.proofs.lemmas.Result.{IfOk-weaker}
use Rattle.size_bounds.specs.Tables.{bounds_in}
use Rattle.time_bounds.specs.declared.asking.AnsweredRankQuestion.{AnsweredRankQuestion}
use Rattle.time_bounds.specs.AnalysisLemmas.{AreGapsInOrder}
use Rattle.time_bounds.specs.Questions.{program_in}
use Rattle.time_bounds.specs.TimesSaid.{IsKnownTime}
use Rattle.time_bounds.specs.TriedRules.{IsAskedOver}
use Rattle.time_bounds.proofs.TimeNumbers.{known_ordered}
use Rattle.time_bounds.proofs.reasons.time_entry.Goals as goal

pub known_time-requires : goal.known_time-requires
known_time-requires c =
    let b = bounds_in c.args.table.now in
    subst (λ (o : Option AnsweredRankQuestion). IsAskedOver (program_in c.args.cx.now) b b c.args.cx.now.pivots c.args.cx.now.empties.items c.args.rule o)
    c.in-None.is c.requires.asked

pub no_time-requires-clause-untimed : goal.no_time-requires-clause-untimed
no_time-requires-clause-untimed c =
    let b = bounds_in c.args.table.now in
    (subst (λ (o : Option AnsweredRankQuestion). IsAskedOver (program_in c.args.cx.now) b b c.args.cx.now.pivots c.args.cx.now.empties.items c.args.rule o)
    c.in-Some.is c.requires.asked).0

pub no_time-requires-clause-missing : goal.no_time-requires-clause-missing
no_time-requires-clause-missing c =
    let b = bounds_in c.args.table.now in
    (subst (λ (o : Option AnsweredRankQuestion). IsAskedOver (program_in c.args.cx.now) b b c.args.cx.now.pivots c.args.cx.now.empties.items c.args.rule o)
    c.in-Some.is c.requires.asked).1

pub returns-in-None-clause-in_order : goal.returns-in-None-clause-in_order
returns-in-None-clause-in_order c =
    let b = bounds_in c.args.table.now in
    let n = length c.args.gaps.now.items in
    IfOk-weaker c.known_time.result (λ entry. IsKnownTime b c.args.rule entry) (λ entry. AreGapsInOrder n (entry ∷ []) n)
    (λ entry h. known_ordered b c.args.rule n entry h) c.known_time.ensures.time
