-- Which linear programs end with numbers that aren't small, worked out by hand: of k(A) -> k(A) where A is at least a
-- number and a multiple of A and a free B add up to at most 0.
use Rattle.std.specs.Prelude.{◌≡◌, [], ◌∷◌, ℤ, pos}
use Rattle.model.specs.Programs.{AtLeast, AtMost, Compare, Rule, Program}
use Rattle.model.specs.Terms.{Literal, Variable, Addition, Multiplication}
use Rattle.its_model.specs.linear_forms.declared.limit_cause.LimitCause.{LimitCause}
use Rattle.its_model.specs.linear_forms.declared.limit_cause.LimitCause.TheVariants as causes
use Rattle.cert_types.specs.declared.answer.Question.TheVariants as asked
use Rattle.cert_types.specs.declared.answer.LimitHit.{LimitHit}
use Rattle.cert_types.specs.cert_rules.WorkedSettings.{rule_over, program_with}
use Rattle.time_bounds.specs.ProgramRules.{EmptyHitsLimitSo}
use Rattle.worked_reasons.specs.Limits.{limit_hit_by}

-- k(A) -> k(A) where A >= least and factor * A + B <= 0
abbrev pub falling_below : ℤ → ℤ → Rule
falling_below least factor =
    rule_over 0 0 1 (Variable 0)
    (Compare (Variable 0) AtLeast (Literal least)
    ∷ Compare (Addition (Multiplication (Literal factor) (Variable 0)) (Variable 1)) AtMost (Literal (pos 0)) ∷ [])

abbrev pub below_multiple : ℤ → ℤ → Program
below_multiple least factor = program_with (falling_below least factor ∷ [])

-- the point of A >= 18837001 and 1867833 * A + B <= 0 at which the linear program ends has B = -(2^45 + 1), which isn't
-- small, so it hits the limit on its scale, and no other; that of A >= 2^23 and 2^22 * A + B <= 0 has B = -2^45, and
-- hits no limit
pub record ScalesAreWorkedOut : Type 0 where
  pub scale : EmptyHitsLimitSo (below_multiple (pos 18837001) (pos 1867833)) 10 1 (limit_hit_by (asked.Empty 1) causes.Scale)
  pub no_other : (cause : LimitCause)
      → EmptyHitsLimitSo (below_multiple (pos 18837001) (pos 1867833)) 10 1 (limit_hit_by (asked.Empty 1) cause)
      → cause ≡ causes.Scale
  pub small : (limit_hit : LimitHit) → ¬ (EmptyHitsLimitSo (below_multiple (pos 8388608) (pos 4194304)) 10 1 limit_hit)
