-- The worked values of which rules have rows, and of which points are those of steps, hold.
use Rattle.std.proofs.Common.{◌≡◌, ℕ, zero, suc, ◌<◌, List, [], ◌∷◌, refl, sym, subst, arith}
use Rattle.std.specs.Prelude.{ℤ, pos, negsuc, ◌≤ℤ◌}
use Rattle.std.proofs.lemmas.Int.{ints}
use Rattle.std.proofs.lemmas.List.Elements.{All-nil, All-cons, All-head}
use Rattle.poly_terms.specs.model.Terms.{Variable}
use Rattle.poly_terms.specs.model.Programs.{Atom, AtomHolds}
use Rattle.poly_terms.specs.model.Costs.{cost_rule}
use Rattle.poly_terms.specs.linear_forms.Forms.{Form, at, form_value}
use Rattle.poly_terms.specs.linear_forms.Points.{IsPoint}
use Rattle.guard_prep.specs.Tightening.{divisor_of}
use Rattle.guard_prep.specs.Prepared.{rows_of}
use Rattle.guard_prep.specs.Laws.{IsLinear}
use Rattle.guard_prep.specs.WorkedRows.{two, three, with_free}
use Rattle.guard_prep.specs.WorkedPoints.{at_least_one, square_at_least, worked_rule, RulesAreWorkedOut, LinearPartsAreWorkedOut}
use Rattle.guard_prep.specs.WorkedPoints.{StepPointsAreWorkedOut, CostPointsAreWorkedOut, SmallFormsAreWorkedOut}
use Rattle.guard_prep.specs.WorkedPoints.{PointsAreWorkedOut}

-- the worked values of which rules have rows hold
rules : RulesAreWorkedOut
rules = record {
  worked = record {
    few_variables = omega arith;
    few_atoms = omega arith;
    few_updates = omega arith;
    guard = (
      record { left = omega arith; right = tt; expands = refl },
      (record { left = (omega arith, omega arith); right = omega arith; expands = refl }, tt),
    );
    updates = (
      record { variables = (omega arith, omega arith); expands = refl },
      (record { variables = (omega arith, omega arith); expands = refl }, tt),
    );
  };
  many_variables = λ h. let few = h.few_variables in omega (arith, few);
  out_of_range = λ h. let low = h.updates.0.variables in omega (arith, low);
  high_update = λ h. let none = h.updates.0.expands in cc;
  high_atom = λ h. let none = h.guard.0.expands in cc;
}

-- the row A - 1 >= 0
abbrev row : Form
row = three (pos 1) (pos 0) (pos 0) (negsuc 0)

-- this row is the only one of the worked rule
worked_rows : rows_of worked_rule ≡ row ∷ []
unfolding divisor_of
worked_rows = refl

-- a point at which this row is at least 0 is a point of the rows
is_point : (z : ℕ → ℤ) → pos 0 ≤ℤ form_value row z (pos 1) → IsPoint (rows_of worked_rule) z (pos 1)
is_point z h =
    let P : Form → Type 0 = λ (f : Form). pos 0 ≤ℤ form_value f z (pos 1) in
    subst (λ (rows : List Form). IsPoint rows z (pos 1)) (sym worked_rows)
    (record { denominator = omega (arith, ints); meets = record { each = All-cons P row [] h (All-nil P) } })

row_met : (z : ℕ → ℤ) → IsPoint (rows_of worked_rule) z (pos 1) → pos 0 ≤ℤ form_value row z (pos 1)
row_met z h =
    let k = subst (λ (rows : List Form). IsPoint rows z (pos 1)) worked_rows h in
    All-head (λ (f : Form). pos 0 ≤ℤ form_value f z (pos 1)) row [] k.meets.each

-- the worked values of linear parts hold
linear_parts : LinearPartsAreWorkedOut
linear_parts = record {
  linear = refl;
  nonlinear = λ e. cc;
  holds = All-cons (λ (a : Atom). IsLinear a → AtomHolds (pos 1 ∷ pos 5 ∷ []) a) at_least_one (square_at_least ∷ []) (λ e. omega (arith, ints))
      (All-cons (λ (a : Atom). IsLinear a → AtomHolds (pos 1 ∷ pos 5 ∷ []) a) square_at_least [] (λ e. absurd (not_linear e))
      (All-nil (λ (a : Atom). IsLinear a → AtomHolds (pos 1 ∷ pos 5 ∷ []) a)));
  more_holds_not = λ h. let second = h 1 at_least_one (omega arith) in omega (arith, ints, second);
  fails = λ h. let first = h 0 at_least_one (omega arith) refl in omega (arith, ints, first);
}
  where
    not_linear : IsLinear square_at_least → ⊥
    not_linear e = cc

-- the worked values of points of steps hold
steps : StepPointsAreWorkedOut
steps = record {
  squares = refl;
  point = refl;
  step = record {
    unknowns = refl;
    point = is_point (at (pos 3 ∷ pos 2 ∷ pos 9 ∷ [])) (omega (arith, ints));
    left = left;
    new_values = refl;
  };
  other_square = λ h. let new_values = h.new_values in cc;
  other_free = λ h. let new_values = h.new_values in cc;
  other_left = λ h. let same = h.left 0 (omega arith) in omega (arith, ints, same);
  no_square = λ h. let long = h.unknowns in omega (arith, long);
  row_fails = λ h. let low = row_met (at (pos 0 ∷ pos 0 ∷ pos 0 ∷ [])) h in omega (arith, ints, low);
}
  where
    left : (j : ℕ) → j < 1 → at (pos 3 ∷ pos 2 ∷ pos 9 ∷ []) j ≡ at (pos 3 ∷ []) j
    left zero l = refl
    left (suc j) l = absurd (omega arith)

-- the only row of the cost rule, for the cost A, is A >= 0
abbrev cost_rows : List Form
cost_rows = rows_of (cost_rule (with_free (Variable 0 ∷ []) []) (Variable 0))

abbrev cost_row : Form
cost_row = two (pos 1) (pos 0) (pos 0)

worked_cost_rows : cost_rows ≡ cost_row ∷ []
unfolding divisor_of
worked_cost_rows = refl

-- the worked values of points of costs hold
costs : CostPointsAreWorkedOut
costs = record {
  cost = record { point = is_cost_point (at (pos 3 ∷ pos 0 ∷ [])) (omega (arith, ints)); new_values = refl };
  negative_cost = λ h. let low = cost_row_met (at (negsuc 0 ∷ pos 0 ∷ [])) h.point in omega (arith, ints, low);
}
  where
    is_cost_point : (z : ℕ → ℤ) → pos 0 ≤ℤ form_value cost_row z (pos 1) → IsPoint cost_rows z (pos 1)
    is_cost_point z h =
        let P : Form → Type 0 = λ (f : Form). pos 0 ≤ℤ form_value f z (pos 1) in
        subst (λ (rows : List Form). IsPoint rows z (pos 1)) (sym worked_cost_rows)
        (record { denominator = omega (arith, ints); meets = record { each = All-cons P cost_row [] h (All-nil P) } })

    cost_row_met : (z : ℕ → ℤ) → IsPoint cost_rows z (pos 1) → pos 0 ≤ℤ form_value cost_row z (pos 1)
    cost_row_met z h =
        let k = subst (λ (rows : List Form). IsPoint rows z (pos 1)) worked_cost_rows h in
        All-head (λ (f : Form). pos 0 ≤ℤ form_value f z (pos 1)) cost_row [] k.meets.each

-- the worked values of small forms hold
forms : SmallFormsAreWorkedOut
forms = record {
  largest = record { width = refl; coefs = (omega arith, (omega arith, tt)); constant = omega arith };
  too_large = λ h. let first = h.coefs.0 in omega (arith, first);
  constant_too_large = λ h. let last = h.constant in omega (arith, last);
  other_width = λ h. let long = h.width in omega (arith, long);
}

-- All worked values of this file hold.
pub points-are-worked-out : PointsAreWorkedOut
points-are-worked-out = record { rules = rules; linear_parts = linear_parts; steps = steps; costs = costs; forms = forms }
