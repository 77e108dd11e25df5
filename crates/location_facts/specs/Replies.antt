-- The answers to whether a goal follows from rows.
use Rattle.std.specs.Prelude.{◌≡◌, ℕ, ◌≤◌, List, length, ℤ, pos, ◌<ℤ◌, nat_abs}
use Rattle.std.specs.List.{All}
use Rattle.poly_terms.specs.linear_forms.Certificates.{Implies}
use Rattle.poly_terms.specs.linear_forms.Combinations.{form_times}
use Rattle.poly_terms.specs.linear_forms.Forms.{Form, at, form_value}
use Rattle.poly_terms.specs.linear_forms.Limits.{certificate_limit, point_limit}
use Rattle.poly_terms.specs.linear_forms.Points.{Meets}
use Rattle.farkas_cert.specs.Sizes.{AreWithinLimit}
use Rattle.location_facts.specs.declared.asking.Reply.{Reply}
use Rattle.location_facts.specs.declared.asking.Reply.TheVariants.{Follows, Fails, OutOfLimits}
use Rattle.location_facts.specs.Kept.{goal_program, IsSolvedWithin}

-- a multiple of the goal follows from the rows by multipliers; the factor and the multipliers are within the limit
pub record FollowsBy (rows : List Form) (goal : Form) (multipliers : List ℕ) (times : ℕ) : Type 0 where
  pub within : AreWithinLimit multipliers
  pub least : 1 ≤ times
  pub most : times ≤ certificate_limit
  pub shows : Implies rows multipliers (form_times (pos times) goal)

-- these numerators of the unknowns over a denominator satisfy the rows, and the goal is below 0 there; if the
-- denominator is 0 they are a ray, along which the goal decreases. The numbers are within the limit on points
pub record IsRefuting (unknowns : ℕ) (rows : List Form) (goal : Form) (parts : List ℤ) (den : ℕ) : Type 0 where
  pub long : length parts ≡ unknowns
  pub parts_limit : All (λ a. nat_abs a ≤ point_limit) parts
  pub den_limit : den ≤ point_limit
  pub meets : Meets rows (at parts) (pos den)
  pub below : form_value goal (at parts) (pos den) <ℤ pos 0

-- the meaning of an answer, within a number of pivots: the linear program is solved, with multipliers that certify the
-- goal; or it isn't, and a point or ray refutes the goal; or it isn't
abbrev pub IsReply : ℕ → ℕ → List Form → Form → Reply → Type 0
IsReply pivots unknowns rows goal (Follows multipliers times) =
    IsSolvedWithin pivots (goal_program unknowns rows goal) × FollowsBy rows goal multipliers.items times
IsReply pivots unknowns rows goal (Fails z) =
    (¬ IsSolvedWithin pivots (goal_program unknowns rows goal)) × IsRefuting unknowns rows goal z.parts.items z.den
IsReply pivots unknowns rows goal OutOfLimits = ¬ IsSolvedWithin pivots (goal_program unknowns rows goal)
