use Rattle.std.proofs.Common.{drop}
use Rattle.poly_terms.specs.Distinct.{RiseFrom}
use Rattle.poly_terms.proofs.distinct.rise_from.Given as goal

-- The remaining elements decide the answer.
abbrev pub invariant-loop-e : goal.invariant-loop-e
invariant-loop-e l = RiseFrom l.table l.before (drop l.e-index l.es) → RiseFrom l.table l.fn.first l.es
