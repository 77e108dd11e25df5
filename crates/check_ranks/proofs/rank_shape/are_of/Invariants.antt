use Rattle.std.proofs.Common.{◌≡◌, map, take}
use Rattle.check_ranks.specs.RankShapes.{symbol_in}
use Rattle.check_ranks.proofs.rank_shape.are_of.Given as goal

-- the forms before this one have the symbols at their positions
abbrev pub invariant-loop-i : goal.invariant-loop-i
invariant-loop-i l = map symbol_in (take l.i l.forms) ≡ take l.i l.symbols
