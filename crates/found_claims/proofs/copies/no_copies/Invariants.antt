use Rattle.std.proofs.Common.{◌≡◌, length}
use Rattle.found_claims.proofs.copies.no_copies.Given as goal

-- one empty list of copies for each turn
abbrev pub invariant-loop : goal.invariant-loop
invariant-loop l = length l.copies.items ≡ l.counter
