-- The results of the simplex method within 10 pivots, for k(A) -> l(A) and l(A) -> l(2 * A): the local bounds of the
-- places after both rules.
use Rattle.std.proofs.Common.{inl, inr, List, [], ◌∷◌, refl}
use Rattle.std.specs.Prelude.{ℤ, pos, negsuc}
use Rattle.model.specs.Programs.{Rule}
use Rattle.its_model.specs.linear_forms.Forms.{at}
use Rattle.its_model.specs.linear_forms.LinearProgram.{LinearProgram}
use Rattle.its_model.specs.linear_forms.Questions.{listed, program_of_question}
use Rattle.guard_prep.specs.Prepared.{prepared}
use Rattle.simplex_core.specs.Tableau.{first_tableau, equation, cost, pivot}
use Rattle.simplex_core.specs.HitsLimit.{IsScaledSolution, IsScaledDual}
use Rattle.cert_types.specs.cert_rules.AcceptsSizes.{Side, Up, Low}
use Rattle.cert_types.specs.cert_rules.Worked.{entered_member, doubled_member}
use Rattle.cert_types.specs.cert_rules.WorkedSettings.{enter}
use Rattle.cert_types.specs.rule_forms.Kinds.{Kind, Number, Argument, Affine, Plus, Minus}
use Rattle.local_size.specs.LocalAnswers.{SideHasResult, HasSideBounds}
use Rattle.local_size.specs.Places.{local_forms, value_on}
use Rattle.local_size.specs.Sides.{SideBoundFound, NoneFound, kind_program, solved_side_bound, HasResult}
use Rattle.worked_reasons.specs.Programs.{doubling_rule}
use Rattle.worked_reasons.proofs.WholeEnds.{dual_run, solution_run}

-- the linear program of a kind of forms at the place after a rule
abbrev pub asked_of : Rule → Side → Kind → LinearProgram
asked_of r side kind = kind_program (local_forms (prepared r)) (value_on side (prepared r) 1) kind

-- a dual shows that there is no form of the kind
none_by : (r : Rule) (side : Side) (kind : Kind) (zs : List ℤ) → IsScaledDual (asked_of r side kind) 10 zs 1
    → (ray : List ℤ) × HasResult (local_forms (prepared r)) (value_on side (prepared r) 1) 10 kind (NoneFound ray)
none_by r side kind zs dual = (listed (local_forms (prepared r)).unknowns (at zs), (zs, (1, dual, refl)))

-- a solution gives a form of the kind
side_bound_by : (r : Rule) (side : Side) (kind : Kind) (zs : List ℤ) → IsScaledSolution (asked_of r side kind) 10 zs 1
    → HasResult (local_forms (prepared r)) (value_on side (prepared r) 1) 10 kind
    (SideBoundFound (solved_side_bound (local_forms (prepared r)) (value_on side (prepared r) 1) kind zs 1))
side_bound_by r side kind zs solution = (zs, (1, solution, refl))

entered_up_number : IsScaledDual (asked_of enter Up Number) 10 (pos 1 ∷ pos 0 ∷ []) 1
unfolding program_of_question first_tableau equation cost pivot
entered_up_number = dual_run (asked_of enter Up Number) 10 1 (pos 1 ∷ pos 0 ∷ []) refl

entered_up_argument : IsScaledSolution (asked_of enter Up (Argument 1 Plus)) 10 (pos 0 ∷ []) 1
unfolding program_of_question first_tableau equation cost pivot
entered_up_argument = solution_run (asked_of enter Up (Argument 1 Plus)) 10 0 (pos 0 ∷ []) (1 ∷ 2 ∷ []) refl

-- the up side bound of the place before the loop
entered_up : SideHasResult (prepared enter) 1 10 Up (SideBoundFound entered_member.local.up)
entered_up = inr (
  none_by enter Up Number (pos 1 ∷ pos 0 ∷ []) entered_up_number,
  inl (tt, side_bound_by enter Up (Argument 1 Plus) (pos 0 ∷ []) entered_up_argument),
)

entered_low_number : IsScaledDual (asked_of enter Low Number) 10 (negsuc 0 ∷ pos 0 ∷ []) 1
unfolding program_of_question first_tableau equation cost pivot
entered_low_number = dual_run (asked_of enter Low Number) 10 1 (negsuc 0 ∷ pos 0 ∷ []) refl

entered_low_argument : IsScaledDual (asked_of enter Low (Argument 1 Plus)) 10 (negsuc 0 ∷ pos 1 ∷ []) 1
unfolding program_of_question first_tableau equation cost pivot
entered_low_argument = dual_run (asked_of enter Low (Argument 1 Plus)) 10 0 (negsuc 0 ∷ pos 1 ∷ []) refl

entered_low_negation : IsScaledSolution (asked_of enter Low (Argument 1 Minus)) 10 (pos 0 ∷ []) 1
unfolding program_of_question first_tableau equation cost pivot
entered_low_negation = solution_run (asked_of enter Low (Argument 1 Minus)) 10 0 (pos 0 ∷ []) (1 ∷ 2 ∷ []) refl

-- the low side bound of the place before the loop
entered_low : SideHasResult (prepared enter) 1 10 Low (SideBoundFound entered_member.local.low)
entered_low = inr (
  none_by enter Low Number (negsuc 0 ∷ pos 0 ∷ []) entered_low_number,
  inr (
    none_by enter Low (Argument 1 Plus) (negsuc 0 ∷ pos 1 ∷ []) entered_low_argument,
    inl (tt, side_bound_by enter Low (Argument 1 Minus) (pos 0 ∷ []) entered_low_negation),
  ),
)

pub entered_side_bounds : HasSideBounds (prepared enter) 1 10 entered_member.local
entered_side_bounds = record { asked = refl; up = entered_up; low = entered_low }

doubled_up_number : IsScaledDual (asked_of doubling_rule Up Number) 10 (pos 1 ∷ pos 0 ∷ []) 1
unfolding program_of_question first_tableau equation cost pivot
doubled_up_number = dual_run (asked_of doubling_rule Up Number) 10 1 (pos 1 ∷ pos 0 ∷ []) refl

doubled_up_argument : IsScaledDual (asked_of doubling_rule Up (Argument 1 Plus)) 10 (pos 1 ∷ pos 1 ∷ []) 1
unfolding program_of_question first_tableau equation cost pivot
doubled_up_argument = dual_run (asked_of doubling_rule Up (Argument 1 Plus)) 10 0 (pos 1 ∷ pos 1 ∷ []) refl

doubled_up_negation : IsScaledDual (asked_of doubling_rule Up (Argument 1 Minus)) 10 (pos 1 ∷ pos 1 ∷ []) 1
unfolding program_of_question first_tableau equation cost pivot
doubled_up_negation = dual_run (asked_of doubling_rule Up (Argument 1 Minus)) 10 0 (pos 1 ∷ pos 1 ∷ []) refl

doubled_up_form : IsScaledSolution (asked_of doubling_rule Up Affine) 10 (pos 2 ∷ pos 0 ∷ pos 0 ∷ pos 0 ∷ pos 0 ∷ []) 1
unfolding program_of_question first_tableau equation cost pivot
doubled_up_form = solution_run (asked_of doubling_rule Up Affine) 10 2 (pos 2 ∷ pos 0 ∷ pos 0 ∷ pos 0 ∷ pos 0 ∷ []) (0 ∷ 2 ∷ []) refl

-- the up side bound of the place that doubles
doubled_up : SideHasResult (prepared doubling_rule) 1 10 Up (SideBoundFound doubled_member.local.up)
doubled_up = inr (
  none_by doubling_rule Up Number (pos 1 ∷ pos 0 ∷ []) doubled_up_number,
  inr (
    none_by doubling_rule Up (Argument 1 Plus) (pos 1 ∷ pos 1 ∷ []) doubled_up_argument,
    inr (
      none_by doubling_rule Up (Argument 1 Minus) (pos 1 ∷ pos 1 ∷ []) doubled_up_negation,
      side_bound_by doubling_rule Up Affine (pos 2 ∷ pos 0 ∷ pos 0 ∷ pos 0 ∷ pos 0 ∷ []) doubled_up_form,
    ),
  ),
)

doubled_low_number : IsScaledDual (asked_of doubling_rule Low Number) 10 (negsuc 0 ∷ pos 0 ∷ []) 1
unfolding program_of_question first_tableau equation cost pivot
doubled_low_number = dual_run (asked_of doubling_rule Low Number) 10 1 (negsuc 0 ∷ pos 0 ∷ []) refl

doubled_low_argument : IsScaledDual (asked_of doubling_rule Low (Argument 1 Plus)) 10 (negsuc 0 ∷ pos 1 ∷ []) 1
unfolding program_of_question first_tableau equation cost pivot
doubled_low_argument = dual_run (asked_of doubling_rule Low (Argument 1 Plus)) 10 0 (negsuc 0 ∷ pos 1 ∷ []) refl

doubled_low_negation : IsScaledDual (asked_of doubling_rule Low (Argument 1 Minus)) 10 (negsuc 0 ∷ pos 1 ∷ []) 1
unfolding program_of_question first_tableau equation cost pivot
doubled_low_negation = dual_run (asked_of doubling_rule Low (Argument 1 Minus)) 10 0 (negsuc 0 ∷ pos 1 ∷ []) refl

doubled_low_form : IsScaledSolution (asked_of doubling_rule Low Affine) 10 (pos 0 ∷ pos 2 ∷ pos 0 ∷ pos 0 ∷ pos 0 ∷ []) 1
unfolding program_of_question first_tableau equation cost pivot
doubled_low_form = solution_run (asked_of doubling_rule Low Affine) 10 2 (pos 0 ∷ pos 2 ∷ pos 0 ∷ pos 0 ∷ pos 0 ∷ []) (1 ∷ 2 ∷ []) refl

-- the low side bound of the place that doubles
doubled_low : SideHasResult (prepared doubling_rule) 1 10 Low (SideBoundFound doubled_member.local.low)
doubled_low = inr (
  none_by doubling_rule Low Number (negsuc 0 ∷ pos 0 ∷ []) doubled_low_number,
  inr (
    none_by doubling_rule Low (Argument 1 Plus) (negsuc 0 ∷ pos 1 ∷ []) doubled_low_argument,
    inr (
      none_by doubling_rule Low (Argument 1 Minus) (negsuc 0 ∷ pos 1 ∷ []) doubled_low_negation,
      side_bound_by doubling_rule Low Affine (pos 0 ∷ pos 2 ∷ pos 0 ∷ pos 0 ∷ pos 0 ∷ []) doubled_low_form,
    ),
  ),
)

pub doubled_side_bounds : HasSideBounds (prepared doubling_rule) 1 10 doubled_member.local
doubled_side_bounds = record { asked = refl; up = doubled_up; low = doubled_low }
