-- When side bounds are certified over the prepared rows of a rule.
use Rattle.std.specs.Prelude.{◌≡◌, ℕ, ◌-◌, ◌≤◌, List, length, map, ℤ, pos, neg_ℤ, Option, Some, None, ⊤}
use Rattle.guard_prep.specs.declared.rule_rows.RuleRows.{RuleRows}
use Rattle.model.specs.Polynomials.{Polynomial}
use Rattle.poly_terms.specs.Views.{form_of, poly_of}
use Rattle.poly_terms.specs.linear_forms.Certificates.{Implies}
use Rattle.poly_terms.specs.linear_forms.Forms.{Form}
use Rattle.cert_types.specs.cert_rules.AcceptsSizes as nodes
use Rattle.cert_types.specs.cert_rules.AcceptsSizes.{ReadsLeft, side_bound_goal}
use Rattle.cert_types.specs.cert_rules.Combined.{form_at}
use Rattle.cert_types.specs.cert_rules.Limits.{IsInLimit, AreInLimit, IsFormInLimit}
use Rattle.cert_types.specs.cert_rules.Nodes.{SideBound, Linear, Poly}
use Rattle.cert_types.specs.cert_program.Setting.{nonlinear_at}
use Rattle.check_sizes.specs.declared.side_bound_numbers.LinearSideBound.{LinearSideBound}
use Rattle.check_sizes.specs.declared.side_bounds.Side.{Side}
use Rattle.check_sizes.specs.declared.side_bounds.Side.TheVariants as side

-- the numbers of a linear side bound have the right shape for this many rows and left places
pub record HasLinearNumbers (rows left den : ℕ) (form : Form) (multipliers : List ℕ) : Type 0 where
  pub over : 1 ≤ den
  pub den_limit : IsInLimit den
  pub long : length form.coefs ≡ left
  pub limit : IsFormInLimit form
  pub one_each : length multipliers ≡ rows
  pub within : AreInLimit multipliers

-- the form of a linear side bound
abbrev pub form_in : LinearSideBound → Form
form_in side_bound = record { coefs = side_bound.coefs.now; constant = side_bound.constant }

-- the numbers of a side bound have the right shape for this many rows and left places; a polynomial side bound has none
abbrev pub HasSideBoundNumbers : ℕ → ℕ → SideBound → Type 0
HasSideBoundNumbers rows left (Linear den form multipliers) = HasLinearNumbers rows left den form multipliers
HasSideBoundNumbers rows left Poly = ⊤

-- a side as plain data
abbrev pub side_of : Side → nodes.Side
side_of side.Up = nodes.Up
side_of side.Low = nodes.Low

-- the factor of the new value in a goal: the denominator, with the sign of the side
abbrev pub factor_of : nodes.Side → ℕ → ℤ
factor_of nodes.Up den = neg_ℤ (pos den)
factor_of nodes.Low den = pos den

-- a polynomial, if there is one, reads only left variables
abbrev pub IsLeftAlone : ℕ → Option Polynomial → Type 0
IsLeftAlone left None = ⊥
IsLeftAlone left (Some q) = ReadsLeft left q

-- the prepared rows of a rule imply a side bound over the new value at a place, counted from 1; or the side bound is
-- the polynomial of the update there, in left variables
abbrev pub IsSideBoundOver : RuleRows → ℕ → nodes.Side → SideBound → Type 0
IsSideBoundOver m place s (Linear den form multipliers) =
    Implies (map form_of m.rows.items) multipliers
    (side_bound_goal s den form (form_at (map form_of m.new_values.items) (place - 1)))
IsSideBoundOver m place s Poly = IsLeftAlone m.left (nonlinear_at (map poly_of m.polys.items) (place - 1))
