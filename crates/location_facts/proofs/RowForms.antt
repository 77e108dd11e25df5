-- Facts as rows of the code.
use Rattle.std.proofs.Common.{◌≡◌, ℕ, zero, suc, ◌+◌, ◌-◌, ◌^◌, ◌≤◌, ap, arith, refl, sym, ◌∙◌, subst, List, [], ◌∷◌}
use Rattle.std.proofs.Common.{map}
use Rattle.std.proofs.Common.{length, get_or, Option, Some, option_map}
use Rattle.std.specs.Prelude.{ℤ, pos, ◌-ℤ◌, nat_abs, slice_get}
use Rattle.std.specs.List.{All}
use Rattle.std.proofs.lemmas.Int.{ints}
use Rattle.std.proofs.lemmas.List.{length-map}
use Rattle.std.proofs.lemmas.List.Elements.{All-weaker}
use Rattle.std.proofs.lemmas.Option.{slice_get-map, slice_get_within, get_or_from_slice_get}
use Rattle.poly_terms.specs.linear_forms.Combinations.{form_sum, zero_form}
use Rattle.poly_terms.specs.linear_forms.Forms.{Form}
use Rattle.poly_terms.specs.linear_forms.RuleQuestions.{constant_form, unknown_form, opposite}
use Rattle.poly_terms.specs.declared.poly.Row.{Row}
use Rattle.poly_terms.specs.Views.{form_of}
use Rattle.poly_terms.specs.model.Limits.{coefficient_limit}
use Rattle.rule_questions.specs.SmallForms.{IsSmall, IsDifferenceSmall}
use Rattle.location_facts.specs.CombinedRows.{IsGoalSmall}
use Rattle.rule_questions.proofs.Sums.{constant-small, unknown-small}
use Rattle.location_facts.specs.declared.fact.LocFact.{LocFact}
use Rattle.location_facts.specs.Rows.{value_before, value_after, lowered, margin, row_before, row_after}

-- the value at a place before a rule: 0 for place 0, else a left variable
pub before_none : (f : Form) (i : ℕ) → i ≡ 0 → f ≡ constant_form (pos 0) → f ≡ value_before i
before_none f i e h = h ∙ ap value_before (sym e)

pub before_unknown : (f : Form) (i : ℕ) → (i ≡ 0 → ⊥) → f ≡ unknown_form (i - 1) → f ≡ value_before i
before_unknown f zero n h = absurd (n refl)
before_unknown f (suc i) n h = h ∙ ap unknown_form (let e : suc i - 1 ≡ i = omega arith in e)

-- these values are small forms
pub none_small : (f : Form) → f ≡ constant_form (pos 0) → IsSmall f
none_small f h = subst IsSmall (sym h) (constant-small (pos 0) (omega arith))

pub unknown_small : (f : Form) (u : ℕ) → f ≡ unknown_form u → IsSmall f
unknown_small f u h = subst IsSmall (sym h) (unknown-small u)

-- the value at a place after a rule: 0 for place 0, else the new value
pub after_none : (f : Form) (new_values : List Form) (i : ℕ) → i ≡ 0 → f ≡ constant_form (pos 0)
    → f ≡ value_after new_values i
after_none f new_values i e h = h ∙ ap (value_after new_values) (sym e)

pub after_found : (f : Form) (rows : List Row) (i : ℕ) (r : Row) → (i ≡ 0 → ⊥) → slice_get rows (i - 1) ≡ Some r
    → f ≡ form_of r → f ≡ value_after (map form_of rows) i
after_found f rows zero r n e h = absurd (n refl)
after_found f rows (suc i) r n e h =
    h ∙ sym (get_or_from_slice_get (map form_of rows) i (form_of r) zero_form there)
  where
    there : slice_get (map form_of rows) i ≡ Some (form_of r)
    there =
        slice_get-map form_of rows i
        ∙ ap (λ (o : Option Row). option_map form_of o)
        (ap (slice_get rows) (let k : i ≡ suc i - 1 = omega arith in k) ∙ e)

pub after_missing : (f : Form) (rows : List Row) (i : ℕ) → (i ≡ 0 → ⊥) → length rows ≤ i - 1
    → f ≡ constant_form (pos 0) → f ≡ value_after (map form_of rows) i
after_missing f rows zero n l h = absurd (n refl)
after_missing f rows (suc i) n l h = h ∙ sym (past (map form_of rows) i (omega (arith, l, length-map rows form_of)))
  where
    past : (fs : List Form) (k : ℕ) → length fs ≤ k → get_or fs k zero_form ≡ zero_form
    past [] k m = refl
    past (g ∷ fs) zero m = absurd (omega (arith, m))
    past (g ∷ fs) (suc k) m = past fs k (omega (arith, m))

-- a new value is small
pub after_small : (f : Form) (rows : List Row) (k : ℕ) (r : Row) → All (λ x. IsSmall (form_of x)) rows
    → slice_get rows k ≡ Some r → f ≡ form_of r → IsSmall f
after_small f rows k r h e g =
    subst IsSmall (sym g)
    (subst (λ (x : Row). IsSmall (form_of x)) (get_or_from_slice_get rows k r r e)
    (h k r (slice_get_within rows k r e)))

-- a small difference less a number of 64 bits is within the limits on goals
pub lowered_small : (f g : Form) (k : ℤ) → IsDifferenceSmall f → nat_abs k ≤ 2 ^ 63 → g ≡ lowered f k → IsGoalSmall g
lowered_small f g k h l e = subst IsGoalSmall (sym e) (record {
  coefs = All-weaker (λ (a : ℤ). nat_abs a ≤ coefficient_limit + coefficient_limit) (λ (a : ℤ). nat_abs a ≤ 2 ^ 65)
      (λ a m. wider (nat_abs a) m) f.coefs h.coefs;
  constant = less f.constant k (nat_abs f.constant) (nat_abs k) refl refl h.constant l;
})
  where
    wider : (n : ℕ) → n ≤ coefficient_limit + coefficient_limit → n ≤ 2 ^ 65
    wider n m = omega (arith, m)

    less : (a b : ℤ) (m n : ℕ) → nat_abs a ≡ m → nat_abs b ≡ n → m ≤ coefficient_limit + coefficient_limit → n ≤ 2 ^ 63
        → nat_abs (a -ℤ b) ≤ 2 ^ 65
    less a b m n e g h l = omega (arith, ints, e, g, h, l)

-- the row of a fact, built step by step
pub margin_made : (r s plus minus : Form) (k : ℤ) → r ≡ lowered s k → s ≡ form_sum plus (opposite minus)
    → r ≡ margin plus minus k
margin_made r s plus minus k h e = h ∙ ap (λ (f : Form). lowered f k) e

pub row_before_made : (f : LocFact) (r plus minus : Form) → r ≡ margin plus minus f.least
    → plus ≡ value_before f.plus → minus ≡ value_before f.minus → r ≡ row_before f
row_before_made f r plus minus h e g =
    h
    ∙ (ap (λ (x : Form). margin x minus f.least) e ∙ ap (λ (x : Form). margin (value_before f.plus) x f.least) g)

pub row_after_made : (new_values : List Form) (f : LocFact) (r plus minus : Form) → r ≡ margin plus minus f.least
    → plus ≡ value_after new_values f.plus → minus ≡ value_after new_values f.minus → r ≡ row_after new_values f
row_after_made new_values f r plus minus h e g =
    h
    ∙ (ap (λ (x : Form). margin x minus f.least) e ∙ ap (λ (x : Form). margin (value_after new_values f.plus) x f.least)
    g)
