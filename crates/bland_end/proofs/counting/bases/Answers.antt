-- Choosing as many unknowns as there are rows leaves out as many as there are columns.
use Rattle.std.proofs.Common.{ap, ◌∙◌}
use Rattle.bland_end.specs.Counting.{below_limit}
use Rattle.bland_end.proofs.Binomials.{choose-sym}
use Rattle.bland_end.proofs.Budgets.{problem-bases}
use Rattle.bland_end.proofs.counting.bases.Goals as goal

pub returns-then-problem : goal.returns-then-problem
returns-then-problem c =
    let q = c.args.problem.now in
    c.count_sets.ensures ∙ ap below_limit (choose-sym q.rows q.cols ∙ problem-bases q)

pub returns-else-problem : goal.returns-else-problem
returns-else-problem c =
    let q = c.args.problem.now in c.count_sets-else-problem.ensures ∙ ap below_limit (problem-bases q)
