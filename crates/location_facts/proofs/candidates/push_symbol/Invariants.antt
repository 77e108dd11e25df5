use Rattle.std.proofs.Common.{◌≡◌, ◌++◌, suc}
use Rattle.std.specs.List.{range_with_len}
use Rattle.location_facts.specs.Candidates.{with_symbol}
use Rattle.location_facts.proofs.candidates.push_symbol.Given as goal

-- the facts with the plus places so far are appended
abbrev pub invariant-loop-plus : goal.invariant-loop-plus
invariant-loop-plus l =
    l.all.items ≡ l.fn.all.items ++ with_symbol l.symbol (range_with_len 0 l.plus) (range_with_len 0 (suc l.last))
