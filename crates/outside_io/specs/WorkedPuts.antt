-- Worked values of counts, and of what was written after a put that failed.
use Rattle.std.specs.Prelude.{◌≡◌, ℕ, ◌+◌, ◌-◌, ◌^◌, List, [], ◌∷◌, None, Some}
use Rattle.outside_io.specs.Counts.{next_count, Rose}
use Rattle.outside_io.specs.Putting.{AppendsPrefix}

-- a count rises by one, up to the maximum of a `u64`; at the maximum it counts as risen; past it, as below it, only a
-- greater one has risen
pub record CountsRise : Type 0 where
  pub one_more : next_count 3 ≡ 4
  pub to_the_end : next_count (2 ^ 64 - 2) ≡ 2 ^ 64 - 1
  pub at_the_end : next_count (2 ^ 64 - 1) ≡ 2 ^ 64 - 1
  pub rose : Rose 3 4
  pub rose_more : Rose 3 9
  pub rose_at_the_end : Rose (2 ^ 64 - 1) (2 ^ 64 - 1)
  pub stayed : ¬ (Rose 3 3)
  pub fell : ¬ (Rose 3 2)
  pub stayed_below_the_end : ¬ (Rose (2 ^ 64 - 2) (2 ^ 64 - 2))
  pub rose_past_the_end : Rose (2 ^ 64 + 5) (2 ^ 64 + 6)
  pub stayed_past_the_end : ¬ (Rose (2 ^ 64 + 5) (2 ^ 64 + 5))
  pub fell_past_the_end : ¬ (Rose (2 ^ 64 + 5) (2 ^ 64))
  pub fell_to_the_end : Rose (2 ^ 64 + 5) (2 ^ 64 - 1)

-- the sink held the byte 1, the piece 2, 3 was put with a fault, and then the sink holds these bytes
abbrev pub AreLeft : List ℕ → Type 0
AreLeft bytes = AppendsPrefix (Some (1 ∷ [])) (Some bytes) (2 ∷ 3 ∷ [])

-- the written bytes may have none of the piece, its first byte, or all of it; no other bytes, no byte more than the
-- piece has, and nothing in place of the earlier bytes
pub record PrefixesAreLeft : Type 0 where
  pub none : AreLeft (1 ∷ [])
  pub first : AreLeft (1 ∷ 2 ∷ [])
  pub all : AreLeft (1 ∷ 2 ∷ 3 ∷ [])
  pub last_alone : ¬ (AreLeft (1 ∷ 3 ∷ []))
  pub reversed : ¬ (AreLeft (1 ∷ 3 ∷ 2 ∷ []))
  pub other_bytes : ¬ (AreLeft (1 ∷ 2 ∷ 4 ∷ []))
  pub more : ¬ (AreLeft (1 ∷ 2 ∷ 3 ∷ 2 ∷ []))
  pub twice : ¬ (AreLeft (1 ∷ 2 ∷ 3 ∷ 2 ∷ 3 ∷ []))
  pub before : ¬ (AreLeft (2 ∷ 1 ∷ []))
  pub overwritten : ¬ (AreLeft (2 ∷ 3 ∷ []))
  pub lost : ¬ (AreLeft [])
  -- a sink that disclosed what was written still does
  pub no_longer_disclosed : ¬ (AppendsPrefix (Some (1 ∷ [])) None (2 ∷ 3 ∷ []))
