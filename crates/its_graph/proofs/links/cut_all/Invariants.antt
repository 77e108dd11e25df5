use Rattle.std.proofs.Common.{◌≡◌, drop}
use Rattle.its_graph.specs.Links.{all_cut}
use Rattle.its_graph.proofs.links.cut_all.Given as goal

-- cutting the remaining numbers from the current flags gives the same flags as cutting all numbers from the first ones
abbrev pub invariant-loop-number : goal.invariant-loop-number
invariant-loop-number l = all_cut (drop l.number-index l.cut) l.allowed ≡ all_cut l.cut l.fn.allowed
