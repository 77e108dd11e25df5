use Rattle.std.proofs.Common.{◌≡◌, ℕ, Bool, map, length}
use Rattle.std.specs.List.{filter, range_with_len}
use Rattle.lasso_check.proofs.closing.rules_used.Given as goal

-- the list so far has the used numbers below the current one
abbrev pub invariant-loop-i : goal.invariant-loop-i
invariant-loop-i l = (f : ℕ → Bool) → l.used ≡ map f (range_with_len 1 (length l.used))
    → l.rules.items ≡ filter f (range_with_len 1 l.i)
