use Rattle.std.proofs.Common.{◌≡◌, take, map}
use Rattle.while_model.specs.Translation.{symbol_of as symbol_of_point}
use Rattle.its_model.specs.Views.{name_of, symbol_of}
use Rattle.while_front.proofs.translation.symbols_of.Given as goal

-- The list has the symbols of the points passed.
abbrev pub invariant-loop-k : goal.invariant-loop-k
invariant-loop-k l =
    map symbol_of l.symbols.items ≡ map (symbol_of_point (map name_of l.inputs)) (take l.k-index l.points)
