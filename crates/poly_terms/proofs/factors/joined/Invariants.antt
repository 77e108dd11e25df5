use Rattle.std.proofs.Common.{◌≡◌, drop}
use Rattle.poly_terms.specs.Expanding.{all_inserted}
use Rattle.poly_terms.proofs.factors.joined.Given as goal

-- inserting the remaining variables gives all variables
abbrev pub invariant-loop-v : goal.invariant-loop-v
invariant-loop-v l = all_inserted l.vars.items (drop l.v-index l.right) ≡ all_inserted l.left l.right
