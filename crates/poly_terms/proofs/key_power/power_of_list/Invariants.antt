use Rattle.poly_terms.specs.Keys.{IsPowerAt}
use Rattle.poly_terms.proofs.key_power.power_of_list.Given as goal

-- the list so far represents the power so far
abbrev pub invariant-loop-k : goal.invariant-loop-k
invariant-loop-k l = IsPowerAt l.table l.factor l.k l.so_far.items
