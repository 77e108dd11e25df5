use Rattle.std.proofs.Common.{length, map}
use Rattle.its_model.specs.Views.{program_of}
use Rattle.rank_search.specs.Coefficients.{coefficient_of}
use Rattle.rank_search.proofs.Writing.{Written}
use Rattle.rank_search.proofs.problem.rank_problem.Given as goal

-- the groups so far are written
abbrev pub invariant-loop-rule : goal.invariant-loop-rule
invariant-loop-rule l =
    Written (program_of l.p) l.strict (map coefficient_of l.coefficients)
    (length l.coefficients) l.set l.rule-index l.builder
