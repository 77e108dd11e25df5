use Rattle.std.proofs.Common.{◌≡◌}
use Rattle.claims_check.specs.Below.{numbers_from}
use Rattle.claims_check.proofs.below.own_rules.Given as goal

-- the numbers so far
abbrev pub invariant-loop-i : goal.invariant-loop-i
invariant-loop-i l = l.below.items ≡ numbers_from 1 l.i
