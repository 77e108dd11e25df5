-- The questions of the code for a side of a place, and their results, as plain data.
use Rattle.std.specs.Prelude.{◌≡◌, ℕ, suc, ◌≤◌, ◌==◌, not, nat_eq, if◌then◌else◌, List, filter, length, Some}
use Rattle.std.specs.Prelude.{ℤ, pos, ◌*ℤ◌}
use Rattle.std.specs.List.{All, range_with_len}
use Rattle.simplex_core.specs.linear_forms.Causes.{cause_of}
use Rattle.simplex_core.specs.linear_forms.Forms.{Form}
use Rattle.cert_types.specs.rule_forms.Kinds as plain
use Rattle.cert_types.specs.rule_forms.Kinds.{unit_of}
use Rattle.cert_types.specs.cert_rules.AcceptsSizes as nodes
use Rattle.cert_types.specs.Views.{side_bound_of}
use Rattle.cert_types.specs.declared.answer.GuardFeasibility.{GuardFeasibility}
use Rattle.guard_prep.specs.declared.rule_rows.RuleRows.{RuleRows}
use Rattle.poly_terms.specs.Views.{form_of}
use Rattle.lp_builder.specs.declared.description.Goal.{Goal}
use Rattle.lp_builder.specs.Descriptions.{IsWritable}
use Rattle.rule_questions.specs.SmallForms.{IsSmall}
use Rattle.rule_questions.specs.RuleAnswers.{point_in, limit_hit_in}
use Rattle.local_size.specs.declared.kinds.Sign.{Sign}
use Rattle.local_size.specs.declared.kinds.Sign.TheVariants as signs
use Rattle.local_size.specs.declared.kinds.Kind.{Kind}
use Rattle.local_size.specs.declared.kinds.Kind.TheVariants as kinds
use Rattle.local_size.specs.declared.side.Side.{Side}
use Rattle.local_size.specs.declared.side.Side.TheVariants as sides
use Rattle.local_size.specs.declared.search.SideAnswer.{SideAnswer}
use Rattle.local_size.specs.declared.search.SideAnswer.TheVariants as answers
use Rattle.local_size.specs.Sides.{SideOutcome, SideBoundFound, NoneFound, LimitPassed}
use Rattle.local_size.specs.LocalAnswers.{Local, HasBound, IsUnboundedOn, HasHitLimit}

-- the plain sign of a sign
abbrev pub sign_of : Sign → plain.Sign
sign_of signs.Plus = plain.Plus
sign_of signs.Minus = plain.Minus

-- the plain kind of a kind
abbrev pub kind_of : Kind → plain.Kind
kind_of kinds.Number = plain.Number
kind_of (kinds.Argument place sign) = plain.Argument place (sign_of sign)
kind_of kinds.Affine = plain.Affine

-- the plain side of a side
abbrev pub side_of : Side → nodes.Side
side_of sides.Up = nodes.Up
side_of sides.Low = nodes.Low

-- the plain result of a side's questions
abbrev pub side_outcome_of : SideAnswer → SideOutcome
side_outcome_of (answers.SideBound side_bound) = SideBoundFound (side_bound_of side_bound)
side_outcome_of (answers.UnboundedSide ray) = NoneFound ray.items
side_outcome_of (answers.OutOfLimits cause) = LimitPassed (cause_of cause)

-- the list of the place itself, if there is such a left argument
abbrev pub own_places : ℕ → ℕ → List ℕ
own_places left place = filter (λ j. j == place) (range_with_len 1 left)

-- the other places of the left arguments, in order
abbrev pub other_places : ℕ → ℕ → List ℕ
other_places left place = filter (λ j. not (j == place)) (range_with_len 1 left)

-- a form whose numbers are within the limits on rows, with no coefficient past the unknowns
pub record IsValue (m : RuleRows) (w : Form) : Type 0 where
  pub fits : length w.coefs ≤ m.unknowns
  pub small : IsSmall w

-- the coefficient of unknown u in the form of a kind that the parameters v over d represent
abbrev pub coefficient_of : plain.Kind → (ℕ → ℤ) → ℤ → ℕ → ℤ
coefficient_of plain.Number v d u = pos 0
coefficient_of (plain.Argument place sign) v d u = if nat_eq (suc u) place then d *ℤ unit_of sign else pos 0
coefficient_of plain.Affine v d u = v u

-- the constant of this form, for a rule with this many left arguments
abbrev pub constant_of : ℕ → plain.Kind → (ℕ → ℤ) → ℤ
constant_of left plain.Number v = v 0
constant_of left (plain.Argument place sign) v = pos 0
constant_of left plain.Affine v = v left

-- goals can be written wherever these places are left arguments among the unknowns
pub record AreWritableWithin (places : List ℕ) (goals : List Goal) : Type 0 where
  pub each : (n : ℕ) → All (λ i. i ≤ n) places → All (λ g. IsWritable n (form_of g.form)) goals

-- the answer for a side without a form, with this ray, if no question of a side hits a limit: the side is unbounded,
-- with the point of the rule; or the feasibility question for that point hit a limit
abbrev pub IsUnboundedResult : nodes.Side → List ℤ → GuardFeasibility → Local → Type 0
IsUnboundedResult side ray empty (HasBound l) = ⊥
IsUnboundedResult side ray empty (IsUnboundedOn s r kept) = (s ≡ side) × (r ≡ ray) × (point_in (Some empty) ≡ Some kept)
IsUnboundedResult side ray empty (HasHitLimit t) = limit_hit_in (Some empty) ≡ Some t
