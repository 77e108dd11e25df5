-- Counts that a `u64` stores: of calls and of faults.
use Rattle.std.specs.Prelude.{◌≡◌, ◌⊎◌, ℕ, ◌+◌, ◌-◌, ◌^◌, ◌<◌, ◌==◌, min, Bool, List, Option}
use Rattle.std.specs.Option.{option_map}
use Rattle.std.specs.List.{list_any}

-- the count after one more; a count that has reached its maximum stays there
abbrev pub next_count : ℕ → ℕ
next_count n = min (n + 1) (2 ^ 64 - 1)

-- the count after one more, if it is disclosed; a count that isn't disclosed stays so
abbrev pub one_more : Option ℕ → Option ℕ
one_more count = option_map next_count count

-- the count is greater than before, or it is 2^64 - 1 now
abbrev pub Rose : ℕ → ℕ → Type 0
Rose before now = (before < now) ⊎ (now ≡ 2 ^ 64 - 1)

-- whether one of the numbers is that of the call
unfoldable pub names_call : List ℕ → ℕ → Bool
names_call numbers call = list_any (λ number. number == call) numbers
