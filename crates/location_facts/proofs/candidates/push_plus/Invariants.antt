use Rattle.std.proofs.Common.{◌≡◌, ◌++◌}
use Rattle.std.specs.List.{range_with_len}
use Rattle.location_facts.specs.Candidates.{with_plus}
use Rattle.location_facts.proofs.candidates.push_plus.Given as goal

-- the facts with the minus places so far are appended
abbrev pub invariant-loop-minus : goal.invariant-loop-minus
invariant-loop-minus l = l.all.items ≡ l.fn.all.items ++ with_plus l.symbol l.plus (range_with_len 0 l.minus)
