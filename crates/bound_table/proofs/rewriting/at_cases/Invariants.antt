use Rattle.std.proofs.Common.{◌≡◌, drop}
use Rattle.bound_expr.specs.Views.{bound_of}
use Rattle.bound_table.specs.Rewriting.{at_node_all}
use Rattle.bound_table.proofs.rewriting.at_cases.Given as goal

abbrev pub invariant-loop-case : goal.invariant-loop-case
invariant-loop-case l =
    at_node_all (drop l.case-index l.cases) (bound_of l.now) ≡ at_node_all l.cases (bound_of l.fn.node)
