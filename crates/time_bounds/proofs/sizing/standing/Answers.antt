use Rattle.std.proofs.Common.{◌≡◌, ◌<◌, length, get_or, subst, arith}
use Rattle.size_bounds.specs.Tables.{table_of}
use Rattle.time_bounds.specs.declared.sizing.ComponentAttempt.{ComponentAttempt}
use Rattle.time_bounds.specs.declared.sizing.ComponentAttempt.TheVariants.{Failed}
use Rattle.time_bounds.proofs.TrueAnswers.{read-at, again-at}
use Rattle.time_bounds.proofs.sizing.standing.Goals as goal

pub returns-in-Failed : goal.returns-in-Failed
returns-in-Failed c =
    let few : c.args.position < length c.args.before.now = omega (arith, c.if-position-before.false) in
    let there = subst (λ (x : ComponentAttempt). x ≡ get_or c.args.before.now c.args.position x) c.in-Failed.is c.index-before-position.is in
    again-at (table_of c.args.table.now) c.args.before.now c.args.position c.in-Failed.answer c.again.result
    (read-at c.args.before.now c.args.position (Failed c.in-Failed.answer) few there) c.again.ensures
