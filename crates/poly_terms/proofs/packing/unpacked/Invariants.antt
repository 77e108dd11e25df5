use Rattle.std.proofs.Common.{◌≡◌, ◌++◌, drop}
use Rattle.poly_terms.specs.Keys.{number_of, factors_at}
use Rattle.poly_terms.proofs.packing.unpacked.Given as goal

-- what has been unpacked and what is left make up the whole
abbrev pub invariant-loop-v : goal.invariant-loop-v
invariant-loop-v l = l.vars.items ++ factors_at (drop l.v-index l.table) (number_of l.rest) ≡ factors_at l.table (number_of l.fn.key)
