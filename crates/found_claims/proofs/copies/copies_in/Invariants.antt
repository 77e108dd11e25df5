use Rattle.std.proofs.Common.{◌≡◌, length}
use Rattle.found_claims.proofs.copies.copies_in.Given as goal

-- each rule of the program for the call has a place in the list of copies
abbrev pub invariant-loop-branch : goal.invariant-loop-branch
invariant-loop-branch l = length l.copies.items ≡ l.fn.rules
