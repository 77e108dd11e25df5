use Rattle.std.proofs.Common.{◌≡◌, ℕ, [], length}
use Rattle.claims_check.specs.Tables.{list_at}
use Rattle.claims_check.proofs.tables.empty_lists.Given as goal

-- the lists so far are empty
abbrev pub invariant-loop : goal.invariant-loop
invariant-loop l = (length l.lists.items ≡ l.counter) × ((a : ℕ) → list_at l.lists.items a ≡ [])
