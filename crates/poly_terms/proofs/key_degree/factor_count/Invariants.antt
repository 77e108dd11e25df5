use Rattle.std.proofs.Common.{◌≡◌, ◌≤◌, ◌+◌, drop, length}
use Rattle.model.specs.Limits.{degree_limit}
use Rattle.poly_terms.specs.Keys.{factors_at, number_of}
use Rattle.poly_terms.proofs.key_degree.factor_count.Given as goal

-- the factors counted so far and the remaining ones are all, and at most 8 so far
abbrev pub invariant-loop : goal.invariant-loop
invariant-loop l = record {
  all : l.count + length (factors_at (drop l.index l.table) (number_of l.rest)) ≡ length (factors_at l.table (number_of l.fn.key));
  few : l.count ≤ degree_limit;
}
