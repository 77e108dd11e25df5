-- The new values of a rule as forms for which a bound is to be found.
use Rattle.std.proofs.Common.{◌≡◌, ℕ, zero, suc, ◌-◌, ◌<◌, ◌≤◌, refl, sym, ap, ◌∙◌, subst, arith, List, length}
use Rattle.std.proofs.Common.{get_or, true, []}
use Rattle.std.specs.Prelude.{ℤ, nat_abs, negsuc, ◌*ℤ◌, nat_lt, slice_index_or}
use Rattle.std.specs.List.{All}
use Rattle.std.proofs.lemmas.Int.{ints}
use Rattle.std.proofs.lemmas.Bool.{ltb-true}
use Rattle.std.proofs.lemmas.List.Elements.{All-weaker, All-map}
use Rattle.simplex_core.specs.linear_forms.Forms.{Form}
use Rattle.simplex_core.specs.linear_forms.RuleQuestions.{opposite}
use Rattle.simplex_core.specs.linear_forms.RuleQuestionLaws.{IsRuleShaped}
use Rattle.simplex_core.proofs.linear_forms.ColumnLaws.{get_or-map}
use Rattle.simplex_core.proofs.linear_forms.SolutionLaws.{length-map}
use Rattle.cert_types.specs.rule_forms.Questions.{Fits}
use Rattle.poly_terms.specs.model.Limits.{coefficient_limit}
use Rattle.poly_terms.specs.declared.poly.Row.{Row}
use Rattle.poly_terms.specs.declared.poly.Poly.{Poly}
use Rattle.poly_terms.specs.Views.{form_of, poly_of, monomials_of}
use Rattle.guard_prep.specs.declared.rule_rows.RuleRows.{RuleRows}
use Rattle.guard_prep.specs.Prepared.{Prepared}
use Rattle.guard_prep.specs.Views.{prepared_of}
use Rattle.cert_types.specs.cert_rules.AcceptsSizes.{Up, Low}
use Rattle.rule_questions.specs.EmptyAnswers.{IsPrepared}
use Rattle.rule_questions.specs.SmallForms.{IsSmall}
use Rattle.rule_questions.specs.ProgramQuestions.{forms_of}
use Rattle.rule_questions.proofs.EmptyLaws.{prepared-shaped}
use Rattle.rule_questions.proofs.EmptyProblems.{rows-all}
use Rattle.rule_questions.proofs.GoalForms.{after-listed}
use Rattle.rule_questions.proofs.NewValues.{new_values-small}
use Rattle.local_size.specs.Asking.{IsValue}
use Rattle.local_size.specs.Places.{local_forms, value_on, expanded_at}

-- negating a number within the limits on rows keeps it within them
opposite-number : (a : ℤ) → nat_abs a ≤ coefficient_limit → nat_abs (negsuc 0 *ℤ a) ≤ coefficient_limit
opposite-number a l = go a coefficient_limit l
  where
    go : (a : ℤ) (n : ℕ) → nat_abs a ≤ n → nat_abs (negsuc 0 *ℤ a) ≤ n
    go a n l = omega (arith, ints, l)

-- the negation of a small form is small
pub opposite-small : (f : Form) → IsSmall f → IsSmall (opposite f)
opposite-small f s = record {
  coefs = All-map (λ a. nat_abs a ≤ coefficient_limit) (λ a. negsuc 0 *ℤ a) f.coefs
      (All-weaker (λ a. nat_abs a ≤ coefficient_limit) (λ a. nat_abs (negsuc 0 *ℤ a) ≤ coefficient_limit)
      opposite-number f.coefs s.coefs);
  constant = opposite-number f.constant s.constant;
}

-- the negation of such a form is one
pub opposite-value : (m : RuleRows) (f : Form) → IsValue m f → IsValue m (opposite f)
opposite-value m f v = record {
  fits = let e = length-map (λ a. negsuc 0 *ℤ a) f.coefs in let l = v.fits in omega (arith, e, l);
  small = opposite-small f v.small;
}

module _ (m : RuleRows) (is : IsPrepared m) where
  -- the forms of a prepared rule that the questions use have the shape of a rule
  pub shaped : IsRuleShaped (local_forms (prepared_of m))
  shaped = subst (λ (q : Prepared). IsRuleShaped (forms_of 0 0 q)) (sym is.same)
      (prepared-shaped 0 0 is.rule is.preparable)

  -- the left arguments are among the unknowns
  pub left-fits : m.left ≤ m.unknowns
  left-fits = shaped.left_fits

  -- a question about a value has no coefficient past the unknowns
  pub asked-fits : (w : Form) → IsValue m w → Fits (local_forms (prepared_of m)) w
  asked-fits w v = record { left = shaped.left_fits; rows = shaped.rows_fit; value = v.fits }

  new_values-width : All (λ r. length (form_of r).coefs ≤ m.unknowns) m.new_values.items
  new_values-width = rows-all (λ f. length f.coefs ≤ m.unknowns) m.new_values.items shaped.new_values_fit

  module _ (place : ℕ) (row : Row) (l : 1 ≤ place) (k : place ≤ length m.new_values.items)
      (is_read : row ≡ get_or m.new_values.items (place - 1) row) where
    inside : place - 1 < length m.new_values.items
    inside = omega (arith, l, k)

    -- the new value at a place is such a form
    pub new_values-value : IsValue m (form_of row)
    new_values-value = record {
      fits = subst (λ (r : Row). length (form_of r).coefs ≤ m.unknowns) (sym is_read)
          (new_values-width (place - 1) row inside);
      small = subst (λ (r : Row). IsSmall (form_of r)) (sym is_read) (new_values-small m is (place - 1) row inside);
    }

    pub value-up-is : form_of row ≡ value_on Up (prepared_of m) place
    value-up-is = after-listed 0 (prepared_of m) m.new_values.items refl 0 place row refl (positive place l) inside is_read
      where
        positive : (n : ℕ) → 1 ≤ n → ¬ (n ≡ 0)
        positive n h e = omega (arith, h, e)

    pub value-low-is : (f : Form) → f ≡ opposite (form_of row) → f ≡ value_on Low (prepared_of m) place
    value-low-is f e = e ∙ ap opposite value-up-is

-- the update that is read at a place is the one there
pub update-read : (m : RuleRows) (place : ℕ) (polys : List Poly) (update d : Poly) → 1 ≤ place → polys ≡ m.polys.items
    → true ≡ nat_lt (place - 1) (length polys) → update ≡ slice_index_or polys (place - 1) d
    → monomials_of update.terms.items ≡ expanded_at (prepared_of m) place
update-read m zero polys update d l e f g = absurd (omega (arith, l))
update-read m (suc i) polys update d l e f g =
    let k : suc i - 1 ≡ i = omega arith in
    ap poly_of (g ∙ (ap (λ (j : ℕ). get_or polys j d) k ∙ ap (λ (ps : List Poly). get_or ps i d) e))
    ∙ sym (get_or-map poly_of m.polys.items i [] d
    (let h = ltb-true (suc i - 1) (length polys) (sym f) in
    let n = ap (λ (ps : List Poly). length ps) e in omega (arith, h, n)))
