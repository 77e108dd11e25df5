-- Worked values of which of two rules without a time is reported for a loop that grows by both: k(A) -> k(A + 1) twice.
use Rattle.std.specs.Prelude.{ℕ, List, [], ◌∷◌, pos, negsuc, None}
use Rattle.model.specs.Bounds.{Constant}
use Rattle.model.specs.Programs.{Rule, Program}
use Rattle.model.specs.Terms.{Literal, Variable, Addition}
use Rattle.outcome.specs.Reports.{TimeHitLimit, Timed, Untimed, SizeUntimed, Unsized, Time}
use Rattle.cert_types.specs.declared.answer.Question.TheVariants as asked
use Rattle.cert_types.specs.cert_rules.Nodes.{Member}
use Rattle.cert_types.specs.cert_rules.Worked.{side_bound}
use Rattle.cert_types.specs.cert_rules.WorkedSettings.{rule_over, program_with}
use Rattle.cert_types.specs.cert_program.Setting.{setting_of}
use Rattle.bound_fixpoint.specs.Keys.{Bounds, key}
use Rattle.time_bounds.specs.SaidBounds.{bounds_said}
use Rattle.time_bounds.specs.SizeWhys.{LacksFirst}
use Rattle.worked_reasons.specs.Programs.{limit_hit_at}

abbrev pub growing_rule : Rule
growing_rule = rule_over 0 0 0 (Addition (Variable 0) (Literal (pos 1))) []

abbrev pub growing_twice : Program
growing_twice = program_with (growing_rule ∷ growing_rule ∷ [])

-- the place after a rule, with A + 1 and -A - 1 as its bounds
abbrev pub grown_after : ℕ → Member
grown_after rule = record {
  result_variable = key rule 1;
  local = record { up = side_bound (pos 1) (pos 1) []; low = side_bound (negsuc 0) (negsuc 0) [] };
}

abbrev pub grown : List Member
grown = grown_after 1 ∷ grown_after 2 ∷ []

-- the bounds of a report without sizes, in which the times are these
abbrev pub bounds_with : Time → Time → Bounds
bounds_with first second = bounds_said growing_twice
    (record {
      times = first ∷ second ∷ [];
      costs = None ∷ None ∷ [];
      total = None;
      sizes = (Unsized (SizeUntimed 1) ∷ []) ∷ (Unsized (SizeUntimed 1) ∷ []) ∷ [];
    })

-- a time that isn't known
abbrev pub unknown : ℕ → Time
unknown rule = Untimed (TimeHitLimit (limit_hit_at 0 (asked.Rank rule)))

-- where neither rule has a time, the first one is reported and not the second; where the first one has a time, the
-- second one is reported, and not the first
pub record FirstUntimedIsWorkedOut : Type 0 where
  pub first : LacksFirst (setting_of growing_twice) (bounds_with (unknown 1) (unknown 2)) grown (SizeUntimed 1)
  pub not_second : ¬ (LacksFirst (setting_of growing_twice) (bounds_with (unknown 1) (unknown 2)) grown (SizeUntimed 2))
  pub second : LacksFirst (setting_of growing_twice) (bounds_with (Timed (Constant 3)) (unknown 2)) grown (SizeUntimed 2)
  pub not_first : ¬ (LacksFirst (setting_of growing_twice) (bounds_with (Timed (Constant 3)) (unknown 2)) grown (SizeUntimed 1))
