-- The prepared rows and new values are true of each step.
use Rattle.std.proofs.Common.{◌≡◌, ℕ, suc, ◌+◌, List, [], ◌∷◌, ◌++◌, length, map, refl, sym, ◌∙◌, ap, subst, arith}
use Rattle.std.proofs.Common.{Option, Bool}
use Rattle.std.specs.Prelude.{ℤ, pos, ◌+ℤ◌, ◌*ℤ◌, ◌≤ℤ◌, slice_index_or, Some}
use Rattle.std.specs.List.{AllByRecursion}
use Rattle.std.proofs.lemmas.Int.{ints}
use Rattle.std.proofs.lemmas.List.{length-append}
use Rattle.guard_prep.specs.model.Terms.{Term, value}
use Rattle.guard_prep.specs.model.Programs.{Program, Rule, rule_at, arity_of}
use Rattle.guard_prep.specs.model.Runs.{Config, Step}
use Rattle.guard_prep.specs.linear_forms.Forms.{Form, at, list_dot, form_value}
use Rattle.guard_prep.specs.its_model.Valid.{IsValid, IsValidTerm}
use Rattle.guard_prep.specs.Prepared.{rows_of, new_values_of, polys_of}
use Rattle.guard_prep.specs.Laws.{nonlinear_values, StepsArePoints}
use Rattle.guard_prep.proofs.PointLaws.{AreMet, meets-met}
use Rattle.guard_prep.proofs.StepLaws.{preparable}
use Rattle.guard_prep.proofs.poly_terms.VariableLaws.{value-append_right}
use Rattle.guard_prep.proofs.its_model.ValidLaws.{arities_agree}
use Rattle.potential_nodes.specs.potentials.Potentials.{IsTaken}
use Rattle.potential_nodes.specs.Certificates.{RowsHoldAt}
use Rattle.potential_nodes.specs.Ground.{IsGroundOf, IsTrueGround}
use Rattle.potential_ground.specs.RowTerms.{coefficients_term, form_expression, row_terms, new_terms, variable_count, ground_of}
use Rattle.potential_ground.specs.RowTerms.{RowsAreTrueGround}
use Rattle.potential_ground.specs.SquareRows.{square_rows}
use Rattle.potential_ground.proofs.SquareLaws.{rows-append, square-rows-hold}

-- the expression of coefficients from variable i on has the value of their products
coefficients-value : (coefs z : List ℤ) (i : ℕ) (x : ℕ → ℤ) → ((j : ℕ) → x j ≡ slice_index_or z (i + j) (pos 0))
    → value (coefficients_term i coefs) z ≡ list_dot coefs x
coefficients-value [] z i x same = refl
coefficients-value (a ∷ coefs) z i x same =
    let first : slice_index_or z i (pos 0) ≡ x 0 = ap (λ (k : ℕ). slice_index_or z k (pos 0)) (plain i) ∙ sym (same 0) in
    let others = coefficients-value coefs z (suc i) (λ j. x (suc j))
    (λ j. same (suc j) ∙ ap (λ (k : ℕ). slice_index_or z k (pos 0)) (shifted i j)) in
    ap (λ (v : ℤ). a *ℤ v +ℤ value (coefficients_term (suc i) coefs) z) first ∙ ap (λ (v : ℤ). a *ℤ x 0 +ℤ v) others
  where
    plain : (i : ℕ) → i ≡ i + 0
    plain i = omega arith

    shifted : (i j : ℕ) → i + suc j ≡ suc i + j
    shifted i j = omega arith

-- a form as an expression has the form's value
pub expression-value : (f : Form) (z : List ℤ) → value (form_expression f) z ≡ form_value f (at z) (pos 1)
expression-value f z =
    let dot = coefficients-value f.coefs z 0 (at z) (λ j. ap (at z) (plain j)) in
    with_constant _ _ f.constant dot
  where
    plain : (j : ℕ) → j ≡ 0 + j
    plain j = omega arith

    with_constant : (a b k : ℤ) → a ≡ b → a +ℤ k ≡ b +ℤ k *ℤ pos 1
    with_constant a b k e = omega (arith, ints, e)

-- forms that are at least 0 are rows that hold, as expressions
rows-hold : (rows : List Form) (z : List ℤ) → AreMet (at z) rows → RowsHoldAt (map form_expression rows) z
rows-hold [] z all = tt
rows-hold (f ∷ rows) z (first, others) =
    (subst (λ (v : ℤ). pos 0 ≤ℤ v) (sym (expression-value f z)) first, rows-hold rows z others)

-- the new values as expressions have the values of the forms
new_values-values : (new_values : List Form) (z : List ℤ)
    → map (λ t. value t z) (map form_expression new_values) ≡ map (λ f. form_value f (at z) (pos 1)) new_values
new_values-values [] z = refl
new_values-values (f ∷ new_values) z =
    ap (λ (v : ℤ). v ∷ map (λ t. value t z) (map form_expression new_values)) (expression-value f z)
    ∙ ap (λ (vs : List ℤ). form_value f (at z) (pos 1) ∷ vs) (new_values-values new_values z)

-- the rows of squares of a rule of a valid program hold at its variables' values and those of its nonlinear updates
update-rows : (p : Program) (t : ℕ) (r : Rule) (env : List ℤ) → IsValid p → rule_at p t ≡ Some r
    → length env ≡ r.left + r.free
    → RowsHoldAt (square_rows (r.left + r.free) (polys_of r)) (env ++ nonlinear_values r.updates env)
update-rows p t r env valid is e =
    square-rows-hold (r.left + r.free) r.updates env env (env ++ nonlinear_values r.updates env)
    (λ u k. value-append_right u env (nonlinear_values r.updates env) k)
    (subst (λ (n : ℕ). AllByRecursion (IsValidTerm n) r.updates) (sym e) (preparable p t r valid is).updates) refl e

-- the prepared rows and new values of a valid program are true of each step
pub rows-are-ground : StepsArePoints → (p : Program) (is_safe : Term → Bool) → IsValid p
    → IsTrueGround (ground_of p is_safe)
rows-are-ground points p is_safe valid = record { each = each }
  where
    each : (start : List ℤ) (c : Config) (s : Step) (d : Config) → IsTaken p start c s d
        → IsGroundOf (ground_of p is_safe) c s d
    each start c s d taken =
        let step = taken.step in
        let r = step.rule in
        let env = c.values ++ s.free in
        let more = nonlinear_values r.updates env in
        let point = points.each p c d s valid step in
        let here = sym step.numbered in
        record {
          more = more;
          rows = subst (λ (o : Option Rule). RowsHoldAt (row_terms o) (env ++ more)) here
              (rows-append (map form_expression (rows_of r)) (square_rows (r.left + r.free) (polys_of r)) (env ++ more)
              (rows-hold (rows_of r) (env ++ more) (meets-met (at (env ++ more)) (rows_of r) point.point.meets))
              (update-rows p s.rule r env valid step.numbered
              (length-append c.values s.free ∙ (ap (λ (n : ℕ). n + length s.free) step.leads.left
              ∙ ap (λ (n : ℕ). r.left + n) step.leads.free_ones))));
          new_values = ap (λ (o : Option Rule). map (λ t. value t (env ++ more)) (new_terms o)) step.numbered
              ∙ (new_values-values (new_values_of r) (env ++ more) ∙ point.new_values);
          variables = length-append c.values s.free
              ∙ (ap (λ (n : ℕ). n + length s.free) step.leads.left
              ∙ (ap (λ (n : ℕ). r.left + n) step.leads.free_ones ∙ ap variable_count here));
          places = step.leads.left ∙ ((arities_agree p valid).left s.rule r step.numbered ∙ ap (arity_of p) (sym step.leads.source));
        }

pub rows_are_true_ground : StepsArePoints → RowsAreTrueGround
rows_are_true_ground points = record { values = expression-value; ground = rows-are-ground points }
