-- The least number with a property, and tests of all and of some numbers below a limit.
use Rattle.std.specs.Prelude.{ℕ, zero, suc, Bool, true, false, ◌&&◌, ◌||◌, if◌then◌else◌, Option, Some, None}

-- each number below n passes
abbrev pub every : ℕ → (ℕ → Bool) → Bool
every zero passes = true
every (suc n) passes = every n passes && passes n

-- some number below n passes
abbrev pub some : ℕ → (ℕ → Bool) → Bool
some zero passes = false
some (suc n) passes = some n passes || passes n

-- the first of two optional numbers
abbrev pub or_else : Option ℕ → Option ℕ → Option ℕ
or_else (Some j) other = Some j
or_else None other = other

-- the least number below n that passes
abbrev pub least : ℕ → (ℕ → Bool) → Option ℕ
least zero passes = None
least (suc n) passes = or_else (least n passes) (if passes n then Some n else None)
