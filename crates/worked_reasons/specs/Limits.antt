-- Which linear programs have numbers out of range, and too wide a table, worked out by hand: of k(A) -> k(A) with a
-- number as the least value of A, and with many free variables.
use Rattle.std.specs.Prelude.{ℕ, ◌+◌, ◌*◌, ◌≤◌, [], ◌∷◌, ℤ, pos}
use Rattle.model.specs.Programs.{AtLeast, Compare, Program}
use Rattle.model.specs.Terms.{Literal, Variable}
use Rattle.its_model.specs.linear_forms.declared.limit_cause.LimitCause.{LimitCause}
use Rattle.its_model.specs.linear_forms.declared.limit_cause.LimitCause.TheVariants as causes
use Rattle.outcome.specs.Reports.{SizeHitLimit}
use Rattle.cert_types.specs.declared.answer.Question.{Question}
use Rattle.cert_types.specs.declared.answer.Question.TheVariants as asked
use Rattle.cert_types.specs.declared.answer.LimitHit.{LimitHit}
use Rattle.cert_types.specs.cert_rules.WorkedSettings.{rule_over, program_with}
use Rattle.bound_fixpoint.specs.Keys.{Bounds}
use Rattle.time_bounds.specs.ProgramRules.{EmptyHitsLimitSo}
use Rattle.time_bounds.specs.SizeWhys.{HasNoSize}

-- k(A) -> k(A) where A is at least this number
abbrev pub at_least : ℤ → Program
at_least least = program_with (rule_over 0 0 0 (Variable 0) (Compare (Variable 0) AtLeast (Literal least) ∷ []) ∷ [])

-- k(A) -> k(A) with this many free variables
abbrev pub with_free : ℕ → Program
with_free free = program_with (rule_over 0 0 free (Variable 0) [] ∷ [])

-- the question passed this limit
abbrev pub limit_hit_by : Question → LimitCause → LimitHit
limit_hit_by question cause = record { question = question; cause = cause }

-- the number 2147483648 is out of range before any pivot, and not after one; 2147483647 isn't. And a table is too wide
-- over 200,000 free variables and more, where it has the product of its rows and of its columns, and over 100 and fewer
-- it isn't
pub record LimitsAreWorkedOut : Type 0 where
  pub range : EmptyHitsLimitSo (at_least (pos 2147483648)) 10 1 (limit_hit_by (asked.Empty 1) (causes.Range 0))
  pub not_later : ¬ (EmptyHitsLimitSo (at_least (pos 2147483648)) 10 1 (limit_hit_by (asked.Empty 1) (causes.Range 1)))
  pub in_range : ¬ (EmptyHitsLimitSo (at_least (pos 2147483647)) 10 1 (limit_hit_by (asked.Empty 1) (causes.Range 0)))
  pub size_range : (b : Bounds)
      → HasNoSize (at_least (pos 2147483648)) 10 b 1 1 (SizeHitLimit (limit_hit_by (asked.Local 1 1) (causes.Range 0)))
  pub wide : (n : ℕ) → 200000 ≤ n
      → EmptyHitsLimitSo (with_free n) 10 1 (limit_hit_by (asked.Empty 1) (causes.Wide ((n + 2) * (n + 4))))
  pub narrow : (n entries : ℕ) → n ≤ 100
      → ¬ (EmptyHitsLimitSo (with_free n) 10 1 (limit_hit_by (asked.Empty 1) (causes.Wide entries)))
