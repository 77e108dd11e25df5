-- Blocks of positions that contain the coefficients of each symbol.
use Rattle.std.specs.Prelude.{◌≡◌, ◌||◌, ◌⊎◌, ℕ, ◌+◌, ◌<◌, ◌≤◌, nat_eq, if◌then◌else◌, true, List, length}
use Rattle.std.specs.Prelude.{get_or, slice_index_or}
use Rattle.rank_search.specs.declared.blocks.Block.{Block}
use Rattle.rank_search.specs.declared.coefficients.Coefficient.{Coefficient}

-- the empty block
abbrev pub empty_block : Block
empty_block = record { first = 0; end = 0 }

-- the block of a symbol, which is empty if none is listed
abbrev pub block_at : List Block → ℕ → Block
block_at blocks s = slice_index_or blocks s empty_block

-- the position is in the block
abbrev pub IsInside : Block → ℕ → Type 0
IsInside b i = (b.first ≤ i) × (i < b.end)

-- the block extended to a position, or to that one alone if the block is empty
abbrev pub with_position : Block → ℕ → Block
with_position b i =
    if nat_eq b.first b.end then record { first = i; end = i + 1 } else record { first = b.first; end = i + 1 }

-- each symbol has a block of positions below n that contains those of its own among the first n coefficients
pub record AreBlocks (n : ℕ) (blocks : List Block) (cs : List Coefficient) : Type 0 where
  pub ordered : (s : ℕ) → (block_at blocks s).first ≤ (block_at blocks s).end
  pub below : (s : ℕ) → (block_at blocks s).end ≤ n
  pub each : (i : ℕ) (d : Coefficient) → i < n → i < length cs → IsInside (block_at blocks (get_or cs i d).symbol) i

-- the first block begins no later than the second, and they contain the coefficients of the source and of the target
pub record HoldGoals (source target : ℕ) (cs : List Coefficient) (first second : Block) : Type 0 where
  pub order : first.first ≤ second.first
  pub first_ordered : first.first ≤ first.end
  pub second_ordered : second.first ≤ second.end
  pub first_below : first.end ≤ length cs
  pub second_below : second.end ≤ length cs
  pub each : (i : ℕ) (d : Coefficient) → i < length cs
      → (nat_eq (get_or cs i d).symbol source || nat_eq (get_or cs i d).symbol target) ≡ true
      → IsInside first i ⊎ IsInside second i
