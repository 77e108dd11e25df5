use Rattle.std.proofs.Common.{◌≡◌, length}
use Rattle.rank_search.specs.Blocks.{AreBlocks}
use Rattle.rank_search.proofs.blocks.blocks_of.Given as goal

-- the blocks contain the coefficients so far
abbrev pub invariant-loop-position : goal.invariant-loop-position
invariant-loop-position l = record {
  one_each : length l.blocks.items ≡ l.symbols;
  blocks : AreBlocks l.position l.blocks.items l.coefficients;
}
