use Rattle.std.proofs.Common.{◌≡◌, ◌++◌, replicate}
use Rattle.poly_terms.proofs.packing.push_copies.Given as goal

-- there are as many copies as rounds so far
abbrev pub invariant-loop : goal.invariant-loop
invariant-loop l = l.vars.items ≡ l.fn.vars.items ++ replicate l.counter l.v
