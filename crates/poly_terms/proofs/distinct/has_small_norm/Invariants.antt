use Rattle.std.proofs.Common.{◌≡◌, ◌+◌, drop}
use Rattle.model.specs.Limits.{coefficient_limit}
use Rattle.poly_terms.specs.Keys.{norm_at}
use Rattle.poly_terms.proofs.distinct.has_small_norm.Given as goal

-- the remaining limit decides for the remaining list
abbrev pub invariant-loop-e : goal.invariant-loop-e
invariant-loop-e l = norm_at l.es + l.left ≡ coefficient_limit + norm_at (drop l.e-index l.es)
