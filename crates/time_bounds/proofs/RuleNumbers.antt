-- Rules and their numbers.
use Rattle.std.proofs.Common.{ℕ, zero, suc, ◌<◌, ◌≤◌, length, arith}
use Rattle.model.specs.Programs.{Program}
use Rattle.model.proofs.Membership.{slice_get-below}
use Rattle.cert_types.specs.cert_rules.AcceptsPlain.{IsRule}
pub use Rattle.bound_fixpoint.proofs.RuleNumbers.{rule_numbered as rule_there}

-- the number of a rule is at most the number of rules
pub rule_below : (p : Program) (i : ℕ) → IsRule p (suc i) → i < length p.rules
rule_below p i r = slice_get-below p.rules i r.rule r.numbered

-- a number from 1 to the number of rules is that of a rule
pub rule_within : (p : Program) (t : ℕ) → 1 ≤ t → t ≤ length p.rules → IsRule p t
rule_within p zero low high = absurd (omega (arith, low))
rule_within p (suc i) low high = rule_there p i (omega (arith, high))
