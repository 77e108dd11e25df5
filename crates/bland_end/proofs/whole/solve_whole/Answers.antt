-- The limit on pivots is the number of bases, so it is never hit.
use Rattle.std.proofs.Common.{sym, ◌∙◌, subst}
use Rattle.simplex_core.specs.Problem.{program_of}
use Rattle.simplex_core.specs.Outcome.{IsAnswer, IsStop}
use Rattle.bland_end.proofs.Budgets.{no-stop}
use Rattle.bland_end.proofs.whole.solve_whole.Goals as goal

pub unreachable-requires : goal.unreachable-requires
unreachable-requires c =
    let p = program_of c.args.problem.now in
    let allowed = c.in-Some.pivots in
    let answer = subst (IsAnswer p allowed) c.in-Err-Budget.is c.solve.ensures in
    let stop = subst (IsStop p allowed) c.in-Err-Budget.field-0-is answer in
    no-stop p allowed c.in-Err-Budget.field-0-0 (sym c.bases.ensures ∙ c.in-Some.is) stop
