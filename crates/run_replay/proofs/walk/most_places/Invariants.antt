use Rattle.std.proofs.Common.{◌≡◌, max, drop, map}
use Rattle.its_model.specs.Steps.{maximum_arity}
use Rattle.its_model.specs.Views.{symbol_of}
use Rattle.run_replay.proofs.walk.most_places.Given as goal

-- the maximum so far and that of the remaining symbols are the maximum of all
abbrev pub invariant-loop-symbol : goal.invariant-loop-symbol
invariant-loop-symbol l =
    max l.most (maximum_arity (map symbol_of (drop l.symbol-index l.p.symbols.items)))
    ≡ maximum_arity (map symbol_of l.p.symbols.items)
