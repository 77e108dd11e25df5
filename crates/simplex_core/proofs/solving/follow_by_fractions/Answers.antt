use Rattle.simplex_core.specs.Problem.{program_of}
use Rattle.simplex_core.specs.Tableau.{first_tableau}
use Rattle.simplex_core.proofs.solving.follow_by_fractions.Goals as goal

pub run-requires-clause-first : goal.run-requires-clause-first
run-requires-clause-first c =
    c.tested.ensures (program_of c.args.problem.now) (first_tableau (program_of c.args.problem.now)) c.in_ok-table.ensures
