-- Why an accepted side bound is never below the new value on its side.
use Rattle.std.proofs.Common.{◌≡◌, ℕ, zero, suc, ◌+◌, ◌-◌, ◌*◌, ◌<◌, ◌≤◌, Bool, true, false, List, ◌++◌, length, Option}
use Rattle.std.proofs.Common.{Some, sym, ap, ◌∙◌, arith, le_of_mul-le-mul_right}
use Rattle.std.specs.Prelude.{ℤ, pos, negsuc, ◌+ℤ◌, ◌*ℤ◌, neg_ℤ, ◌≤ℤ◌, nat_abs, ⊤}
use Rattle.std.proofs.lemmas.Int.{ints}
use Rattle.std.proofs.lemmas.List.{get_or_append_left}
use Rattle.rule_forms.proofs.int_laws.RingLaws.{neg-mul_ℤ, mul_comm_ℤ}
use Rattle.run_counting.specs.model.Runs.{Config, place_value}
use Rattle.run_counting.specs.model.Bounds.{Bound, val, val_sum}
use Rattle.run_counting.specs.model.Polynomials.{Polynomial, polynomial_value}
use Rattle.rule_forms.specs.linear_forms.Forms.{Form, at, form_value}
use Rattle.cert_rules.specs.Nodes.{ResultVariable, SideBound, Linear, Poly}
use Rattle.cert_rules.specs.Setting.{Setting, StepPoint}
use Rattle.cert_rules.specs.ComposedSizes.{poly_of, poly_at, reads, has_variable, monomial_parts, slope_of, offset_of}
use Rattle.cert_rules.specs.ComposedSizes.{polynomial_bound}
use Rattle.cert_rules.specs.AcceptsSizes.{HasSideBoundShape, HasLinearShape, Side, Up, Low, side_bound_goal, new_value, AcceptsSideBound}
use Rattle.cert_rules.specs.AcceptsSizes.{left_of}
use Rattle.rule_forms.specs.linear_forms.Combinations.{form_times}
use Rattle.rule_forms.proofs.linear_forms.CombinationLaws.{form_value-sum, form_value-times}
use Rattle.rule_forms.proofs.linear_forms.CertificateLaws.{implied_on_points}
use Rattle.cert_rules.proofs.FormBounds.{form-covered}
use Rattle.cert_rules.proofs.RankSoundness.{values_at, value_at, value_before}
use Rattle.cert_rules.proofs.AbsoluteValues.{abs-up, abs-down, polynomial-covered, reads_left}
use Rattle.rule_forms.proofs.int_laws.ZeroLaws.{not_zero-complete as not_zero_decided}

-- the new value (upper side) or its negation (lower side)
abbrev pub on_side : Side → ℤ → ℤ
on_side Up v = v
on_side Low v = neg_ℤ v

-- a number is at most its absolute value on each side
on_side-at_most : (side : Side) (v : ℤ) → on_side side v ≤ℤ pos (nat_abs v)
on_side-at_most Up v = abs-up v
on_side-at_most Low v = abs-down v

-- the value at a place counted from 1 is that at the position one less
value_at_place : (c : Config) (i : ℕ) → 1 ≤ i → place_value c i ≡ at c.values (i - 1)
value_at_place c zero h = absurd (omega arith)
value_at_place c (suc i) h = ap (λ (j : ℕ). at c.values j) back
  where
    back : i ≡ suc i - 1
    back = omega arith

-- the polynomial at a place counted from 1 is that at the position one less
poly_back : (s : Setting) (t i : ℕ) (q : Polynomial) → 1 ≤ i → poly_of s t i ≡ Some q → s.poly t (i - 1) ≡ Some q
poly_back s t zero q h e = absurd (omega arith)
poly_back s t (suc i) q h e = ap (λ (j : ℕ). s.poly t j) back ∙ e
  where
    back : suc i - 1 ≡ i
    back = omega arith

-- an accepted goal implies that the denominator times the value on its side is at most the form
goal_says : (side : Side) (den : ℕ) (form value : Form) (z : ℕ → ℤ) (v : ℤ) → form_value value z (pos 1) ≡ v
    → pos 0 ≤ℤ form_value (side_bound_goal side den form value) z (pos 1)
    → (pos den *ℤ on_side side v) ≤ℤ form_value form z (pos 1)
goal_says Up den form value z v e h =
    from _ _ _ (form_value-sum form (form_times (neg_ℤ (pos den)) value) z (pos 1))
    (form_value-times (neg_ℤ (pos den)) value z (pos 1)) e (times v) h
  where
    times : (v : ℤ) → neg_ℤ (pos den) *ℤ v ≡ neg_ℤ (pos den *ℤ v)
    times v = neg-mul_ℤ (pos den) v

    from : (g n y : ℤ) → g ≡ form_value form z (pos 1) +ℤ n → n ≡ neg_ℤ (pos den) *ℤ y → y ≡ v
        → neg_ℤ (pos den) *ℤ v ≡ neg_ℤ (pos den *ℤ v) → pos 0 ≤ℤ g
        → (pos den *ℤ v) ≤ℤ form_value form z (pos 1)
    from g n y a b c d l = omega (arith, ints, a, b ∙ ap (λ (w : ℤ). neg_ℤ (pos den) *ℤ w) c ∙ d, l)
goal_says Low den form value z v e h =
    from _ _ _ (form_value-sum form (form_times (pos den) value) z (pos 1))
    (form_value-times (pos den) value z (pos 1)) e (times v) h
  where
    times : (v : ℤ) → pos den *ℤ neg_ℤ v ≡ neg_ℤ (pos den *ℤ v)
    times v = mul_comm_ℤ (pos den) (neg_ℤ v) ∙ neg-mul_ℤ v (pos den) ∙ ap neg_ℤ (mul_comm_ℤ v (pos den))

    from : (g n y : ℤ) → g ≡ form_value form z (pos 1) +ℤ n → n ≡ pos den *ℤ y → y ≡ v
        → pos den *ℤ neg_ℤ v ≡ neg_ℤ (pos den *ℤ v) → pos 0 ≤ℤ g
        → (pos den *ℤ neg_ℤ v) ≤ℤ form_value form z (pos 1)
    from g n y a b c d l = omega (arith, ints, a, b ∙ ap (λ (w : ℤ). pos den *ℤ w) c, d, l)

-- cancels a denominator: if den * x is at most den * n, x is at most n
cancelled : (den : ℕ) (x : ℤ) (n : ℕ) → 1 ≤ den → (pos den *ℤ x) ≤ℤ pos (den * n) → x ≤ℤ pos n
cancelled den (pos x) n h l = let k : x * den ≤ n * den = omega (arith, ints, l) in let m : x ≤ n =
    le_of_mul-le-mul_right k h in omega (arith, ints, m)
cancelled den (negsuc x) n h l = omega (arith, ints)

-- a polynomial side bound reads no place inside
abbrev pub StaysOutside : Setting → ResultVariable → (ℕ → Bool) → SideBound → Type 0
StaysOutside s result_variable inside (Linear den form multipliers) = ⊤
StaysOutside s result_variable inside Poly = (j : ℕ) → reads (poly_at s result_variable) Poly j ≡ true → inside j ≡ false

module _ (s : Setting) (result_variable : ResultVariable) (b : Config) (free : List ℤ) (c : Config) (x : StepPoint s result_variable.rule b free c)
    (one : 1 ≤ result_variable.place) (places : left_of s.program result_variable.rule ≡ length b.values)
    (inside : ℕ → Bool) (g : ℕ) (sizes : ℕ → Bound) (m : List ℕ)
    (inner : (j : ℕ) → inside j ≡ true → nat_abs (at b.values j) ≤ g) where
  -- the new value on its side is at most the slope times a bound on the places inside, plus the offset
  abbrev pub IsCovered : Side → SideBound → Type 0
  IsCovered side side_bound = on_side side (place_value c result_variable.place) ≤ℤ pos
      (slope_of side_bound inside * g + val (offset_of (poly_at s result_variable) side_bound inside sizes) m)

  -- the absolute value at each place outside that a side bound reads is at most its size
  abbrev pub HasSizes : SideBound → Type 0
  HasSizes side_bound = (j : ℕ) → reads (poly_at s result_variable) side_bound j ≡ true → inside j ≡ false
      → nat_abs (at b.values j) ≤ val (sizes j) m

  linear-covered : (side : Side) (den : ℕ) (form : Form) (multipliers : List ℕ)
      → HasLinearShape s result_variable.rule (left_of s.program result_variable.rule) den form multipliers
      → AcceptsSideBound s result_variable side (Linear den form multipliers) → HasSizes (Linear den form multipliers)
      → IsCovered side (Linear den form multipliers)
  linear-covered side den form multipliers shape h outer =
      let value_is : form_value (new_value s result_variable) x.z (pos 1) ≡ place_value c result_variable.place =
      x.new_values (result_variable.place - 1) ∙ sym (value_at_place c result_variable.place one) in
      let shown = implied_on_points (s.rows result_variable.rule) multipliers (side_bound_goal side den form (new_value s result_variable)) h x.z
      (pos 1) x.point in
      let says = goal_says side den form (new_value s result_variable) x.z (place_value c result_variable.place) value_is shown in
      let before = value_before s result_variable.rule b free c x form (omega (arith, shape.long, places)) in
      let covered = form-covered den shape.over m g form inside sizes (values_at b) inner
      (λ j n e. outer j (not_zero_decided (at form.coefs j) n) e) in
      cancelled den (on_side side (place_value c result_variable.place))
      (slope_of (Linear den form multipliers) inside * g + val
      (offset_of (poly_at s result_variable) (Linear den form multipliers) inside sizes) m) shape.over
      (chain (pos den *ℤ on_side side (place_value c result_variable.place)) (form_value form x.z (pos 1)) (value_at form b) _
      says before covered)
    where
      chain : (u v w : ℤ) (n : ℕ) → u ≤ℤ v → v ≡ w → w ≤ℤ pos n → u ≤ℤ pos n
      chain u v w n a e d = omega (arith, ints, a, e, d)

  poly-covered : (side : Side) → AcceptsSideBound s result_variable side Poly → HasSizes Poly → StaysOutside s result_variable inside Poly
      → IsCovered side Poly
  poly-covered side h outer stays =
      let size : nat_abs (polynomial_value h.polynomial (b.values ++ free)) ≤ val_sum
      (monomial_parts h.polynomial sizes) m =
      polynomial-covered h.polynomial (b.values ++ free) sizes m (λ j k. read j k) in
      let value_is : polynomial_value h.polynomial (b.values ++ free) ≡ place_value c result_variable.place =
      x.nonlinear (result_variable.place - 1) h.polynomial (poly_back s result_variable.rule result_variable.place h.polynomial one h.nonlinear) ∙ sym
      (value_at_place c result_variable.place one) in
      chain (on_side side (place_value c result_variable.place)) (nat_abs (place_value c result_variable.place)) _ _
      (on_side-at_most side (place_value c result_variable.place)) (ap nat_abs (sym value_is)) size
      (ap (λ (o : Option Polynomial). val (polynomial_bound o sizes) m) h.nonlinear)
    where
      reads_it : (j : ℕ) → has_variable (Some h.polynomial) j ≡ true → reads (poly_at s result_variable) Poly j ≡ true
      reads_it j k = ap (λ (o : Option Polynomial). has_variable o j) h.nonlinear ∙ k

      read : (j : ℕ) → has_variable (Some h.polynomial) j ≡ true → nat_abs (at (b.values ++ free) j) ≤ val (sizes j) m
      read j k =
          let low : j < length b.values =
          omega (arith, places, reads_left (left_of s.program result_variable.rule) h.polynomial h.left_alone j k) in
          omega (
            arith,
            ap nat_abs (get_or_append_left b.values free (pos 0) j low),
            outer j (reads_it j k)
                (stays j (reads_it j k)),
          )

      chain : (v : ℤ) (a n k : ℕ) → v ≤ℤ pos a → a ≡ nat_abs (polynomial_value h.polynomial (b.values ++ free))
          → nat_abs (polynomial_value h.polynomial (b.values ++ free)) ≤ n → k ≡ n → v ≤ℤ pos (0 * g + k)
      chain v a n k l e f i = omega (arith, ints, l, e, f, i)

  -- an accepted side bound's slope times the members, plus its offset, is never below the new value on its side
  pub side_bound-covered : (side : Side) (side_bound : SideBound) → HasSideBoundShape s result_variable.rule (left_of s.program result_variable.rule) side_bound
      → AcceptsSideBound s result_variable side side_bound → HasSizes side_bound → StaysOutside s result_variable inside side_bound → IsCovered side side_bound
  side_bound-covered side (Linear den form multipliers) shape h outer stays =
      linear-covered side den form multipliers shape h outer
  side_bound-covered side Poly shape h outer stays = poly-covered side h outer stays
