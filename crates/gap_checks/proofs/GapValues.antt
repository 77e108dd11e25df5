-- The parts of a place at a scaled point, and its new value.
use Rattle.std.proofs.Common.{◌≡◌, ◌≢◌, true, ℕ, zero, suc, ◌-◌, ◌<◌, ◌≤◌, List, [], ◌∷◌, ◌++◌, length, map, replicate, get_or}
use Rattle.std.proofs.Common.{Option, Some, sym, ◌∙◌, ap, subst, arith}
use Rattle.std.specs.Prelude.{ℤ, pos, nat_lt, unsigned_abs}
use Rattle.std.specs.List.{All}
use Rattle.std.proofs.lemmas.Int.{ints, to_z-of_z, fits_signed_from_abs}
use mir.Syntax.{w64, w128}
use mir.Val.{to_z, of_z}
use Rattle.farkas_cert.specs.linear_forms.Limits.{point_limit}
use Rattle.std.proofs.lemmas.List.{length-map, get_or_past, get_or_default}
use Rattle.std.proofs.lemmas.Bool.{ltb-true}
use Rattle.std.proofs.lemmas.List as lists
use Rattle.std.proofs.lemmas.List.Elements.{All-get_or}
use Rattle.farkas_cert.specs.linear_forms.Forms.{at, list_dot}
use Rattle.farkas_cert.specs.linear_forms.Combinations.{zero_form}
use Rattle.farkas_cert.specs.linear_forms.RuleQuestions.{before_rule, after_rule}
use Rattle.its_model.specs.poly_terms.declared.poly.Row.{Row}
use Rattle.its_model.specs.poly_terms.Views.{form_of}
use Rattle.farkas_cert.specs.Sizes.{AreParts, HasRowNumbers}
use Rattle.guard_prep.specs.declared.rule_rows.RuleRows.{RuleRows}
use Rattle.cert_types.specs.cert_rules.GapChecks.{value_at}
use Rattle.cert_types.specs.cert_rules.Gaps.{ScaledPoint}
use Rattle.gap_checks.specs.GapTests.{prepared_rule_in, forms_by_prepared_rule, forms_by}

-- the dot product with the unit row of an unknown is the unknown's part
unknown-dot : (u : ℕ) (z : ℕ → ℤ) → list_dot (replicate u (pos 0) ++ (pos 1 ∷ [])) z ≡ z u
unknown-dot zero z = omega (arith, ints)
unknown-dot (suc u) z = let e = unknown-dot u (λ i. z (suc i)) in omega (arith, ints, e)

-- the value of a place before the rule, at a scaled point, is the place's part
before-is : (u : ℕ) (z : ScaledPoint) → value_at (before_rule (suc u)) z ≡ at z.parts u
before-is u z = let e = unknown-dot u (at z.parts) in omega (arith, ints, e)

-- the value of a place that has a part is that part
pub before-found : (place : ℕ) (z : ScaledPoint) (x : ℤ) → 1 ≤ place → place - 1 < length z.parts
    → x ≡ get_or z.parts (place - 1) x → x ≡ value_at (before_rule place) z
before-found zero z x l m e = absurd (omega (arith, l))
before-found (suc u) z x l m e =
    let before : suc u - 1 ≡ u = omega arith in
    e ∙ (get_or_default z.parts (suc u - 1) x (pos 0) m
    ∙ (ap (λ (i : ℕ). get_or z.parts i (pos 0)) before ∙ sym (before-is u z)))

-- a part of 64 bits, read as 128 bits, keeps its value
pub part-read : (z : ScaledPoint) (place : ℕ) (x r : ℤ) → AreParts z.parts → (xs : List ℤ) → xs ≡ z.parts → place ≢ 0
    → true ≡ nat_lt (place - 1) (length xs) → x ≡ get_or xs (place - 1) x → r ≡ to_z w64 (of_z w64 x)
    → to_z w128 (of_z w128 r) ≡ value_at (before_rule place) z
part-read z place x r small xs e n l f g =
    to_z-of_z w128 r (fits_signed_from_abs w128 r (omega (arith, ap unsigned_abs same, size)))
    ∙ (same ∙ before-found place z x (omega (arith, n)) within found)
  where
    within : place - 1 < length z.parts
    within = subst (λ (ys : List ℤ). place - 1 < length ys) e (ltb-true (place - 1) (length xs) (sym l))

    found : x ≡ get_or z.parts (place - 1) x
    found = subst (λ (ys : List ℤ). x ≡ get_or ys (place - 1) x) e f

    size : unsigned_abs x ≤ point_limit
    size = subst (λ (y : ℤ). unsigned_abs y ≤ point_limit)
        (sym found) (All-get_or (λ (y : ℤ). unsigned_abs y ≤ point_limit) z.parts (place - 1) x within small)

    same : r ≡ x
    same = g ∙ to_z-of_z w64 x (fits_signed_from_abs w64 x (omega (arith, size)))

-- the value of a place past the last part is 0
pub before-past : (place : ℕ) (z : ScaledPoint) → 1 ≤ place → length z.parts ≤ place - 1
    → pos 0 ≡ value_at (before_rule place) z
before-past zero z l m = absurd (omega (arith, l))
before-past (suc u) z l m = sym (before-is u z ∙ get_or_past z.parts u (pos 0) (omega (arith, m)))

-- a row that was found among the new values of the code has its index there
pub row-read : (m : RuleRows) (i : ℕ) (xs : List Row) (row : Row) → xs ≡ m.new_values.items → true ≡ nat_lt i (length xs)
    → row ≡ get_or xs i row → (i < length m.new_values.items) × (row ≡ get_or m.new_values.items i row)
row-read m i xs row e l f = (
  subst (λ (ys : List Row). i < length ys) e (ltb-true i (length xs) (sym l)),
  subst (λ (ys : List Row). row ≡ get_or ys i row) e f,
)

module _ (prepared_rules : List RuleRows) (rule place : ℕ) (m : RuleRows) (row : Row) (e : Some m ≡ prepared_rule_in prepared_rules rule)
    (l : place - 1 < length m.new_values.items) (r : row ≡ get_or m.new_values.items (place - 1) row) where
  -- the prepared row of a place is the form of its new value
  pub new-is : 1 ≤ place → form_of row ≡ after_rule (forms_by prepared_rules rule) place
  new-is k = subst (λ (o : Option RuleRows). form_of row ≡ after_rule (forms_by_prepared_rule o) place) e (here place k l r)
    where
      here : (i : ℕ) → 1 ≤ i → i - 1 < length m.new_values.items → row ≡ get_or m.new_values.items (i - 1) row
          → form_of row ≡ after_rule (forms_by_prepared_rule (Some m)) i
      here zero k l r = absurd (omega (arith, k))
      here (suc u) k l r =
          let before : suc u - 1 ≡ u = omega arith in
          ap form_of r
          ∙ (sym (lists.get_or-map form_of m.new_values.items (suc u - 1) row zero_form l)
          ∙ ap (λ (i : ℕ). get_or (map form_of m.new_values.items) i zero_form) before)

  -- a place's new value has small numbers if all prepared new values have
  pub new-small : All HasRowNumbers (forms_by prepared_rules rule).new_values → HasRowNumbers (form_of row)
  new-small h =
      subst HasRowNumbers
      (lists.get_or-map form_of m.new_values.items (place - 1) row (form_of row) l ∙ ap form_of (sym r))
      (All-get_or HasRowNumbers (map form_of m.new_values.items) (place - 1) (form_of row)
      (omega (arith, l, length-map m.new_values.items form_of))
      (subst (λ (o : Option RuleRows). All HasRowNumbers (forms_by_prepared_rule o).new_values) (sym e) h))
