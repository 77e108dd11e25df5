-- The new value at a place of a rule, for questions and for acceptance.
use Rattle.std.proofs.Common.{◌≡◌, ℕ, zero, suc, ◌-◌, ◌≤◌, ap, arith, refl, ◌∙◌, List, [], ◌∷◌, length, map}
use Rattle.std.specs.Prelude.{ℤ, pos, negsuc, ◌*ℤ◌, neg_ℤ, slice_index_or}
use Rattle.std.specs.List.{All}
use Rattle.std.proofs.lemmas.List.Elements.{All-head, All-tail}
use Rattle.simplex_core.specs.int_laws.Polynomial.{variable, constant as number, ◌⊗◌, negated}
use Rattle.simplex_core.proofs.int_laws.Identities.{identity}
use Rattle.simplex_core.specs.linear_forms.Forms.{Form}
use Rattle.simplex_core.specs.linear_forms.Combinations.{form_sum, form_times, zero_form}
use Rattle.simplex_core.specs.linear_forms.RuleQuestions.{after_rule, opposite}
use Rattle.simplex_core.specs.linear_forms.RuleQuestionLaws.{IsRuleShaped}
use Rattle.simplex_core.proofs.linear_forms.SolutionLaws.{length-map}
use Rattle.cert_types.specs.rule_forms.Questions.{excess, Fits}
use Rattle.guard_prep.specs.Prepared.{Prepared}
use Rattle.cert_types.specs.cert_rules.AcceptsSizes.{Side, Up, Low, side_bound_goal}
use Rattle.cert_types.specs.cert_rules.Combined.{form_at}
use Rattle.local_size.specs.Places.{local_forms, value_on}

-- a form of a list has no coefficient past the width of all of them
read-fits : (fs : List Form) (n i : ℕ) → All (λ f. length f.coefs ≤ n) fs
    → length (slice_index_or fs i zero_form).coefs ≤ n
read-fits [] n i h = omega arith
read-fits (f ∷ fs) n zero h = All-head (λ g. length g.coefs ≤ n) f fs h
read-fits (f ∷ fs) n (suc i) h = read-fits fs n i (All-tail (λ g. length g.coefs ≤ n) f fs h)

module _ (m : Prepared) (shaped : IsRuleShaped (local_forms m)) where
  after-fits : (place : ℕ) → length (after_rule (local_forms m) place).coefs ≤ m.unknowns
  after-fits zero = omega arith
  after-fits (suc i) = read-fits m.new_values m.unknowns i shaped.new_values_fit

  -- the new value, on both sides, has no coefficient past the unknowns
  pub value-fits : (side : Side) (place : ℕ) → Fits (local_forms m) (value_on side m place)
  value-fits Up place = record {
    left = shaped.left_fits;
    rows = shaped.rows_fit;
    value = after-fits place;
  }
  value-fits Low place = record {
    left = shaped.left_fits;
    rows = shaped.rows_fit;
    value =
        let e = length-map (λ a. negsuc 0 *ℤ a) (after_rule (local_forms m) place).coefs in
        let l = after-fits place in omega (arith, e, l);
  }

-- the form at a position is the same by both definitions
pub form_at-is : (fs : List Form) (i : ℕ) → slice_index_or fs i zero_form ≡ form_at fs i
form_at-is [] i = refl
form_at-is (f ∷ fs) zero = refl
form_at-is (f ∷ fs) (suc i) = form_at-is fs i

-- a form by its parts
form_with : List ℤ → ℤ → Form
form_with coefs last = record { coefs = coefs; constant = last }

-- a number negated twice is the number
turned : (d a : ℤ) → neg_ℤ d *ℤ (negsuc 0 *ℤ a) ≡ d *ℤ a
turned d a =
    identity (d ∷ a ∷ []) (negated (variable 0) ⊗ (number (negsuc 0) ⊗ variable 1)) (variable 0 ⊗ variable 1) refl

-- numbers negated twice are the numbers
all-turned : (d : ℤ) (xs : List ℤ) → map (λ a. neg_ℤ d *ℤ a) (map (λ a. negsuc 0 *ℤ a) xs) ≡ map (λ a. d *ℤ a) xs
all-turned d [] = refl
all-turned d (x ∷ xs) =
    ap (λ (y : ℤ). y ∷ map (λ a. neg_ℤ d *ℤ a) (map (λ a. negsuc 0 *ℤ a) xs)) (turned d x)
    ∙ ap (λ (ys : List ℤ). (d *ℤ x) ∷ ys) (all-turned d xs)

-- a negated multiple of the negation is the multiple
twice-opposite : (d : ℤ) (v : Form) → form_times (neg_ℤ d) (opposite v) ≡ form_times d v
unfolding form_with
twice-opposite d v =
    ap (λ (cs : List ℤ). form_with cs (neg_ℤ d *ℤ (negsuc 0 *ℤ v.constant))) (all-turned d v.coefs)
    ∙ ap (λ (c : ℤ). form_with (map (λ a. d *ℤ a) v.coefs) c) (turned d v.constant)

-- the form at the place, which counts from 1
placed : (m : Prepared) (place : ℕ) → 1 ≤ place → after_rule (local_forms m) place ≡ form_at m.new_values (place - 1)
placed m zero l = absurd (omega (arith, l))
placed m (suc i) l = form_at-is m.new_values i ∙ ap (form_at m.new_values) (let e : i ≡ suc i - 1 = omega arith in e)

-- the excess of a form over the new value is the goal that acceptance requires
pub goal-is : (m : Prepared) (side : Side) (den place : ℕ) (form : Form) → 1 ≤ place
    → excess form (pos den) (value_on side m place) ≡ side_bound_goal side den form (form_at m.new_values (place - 1))
goal-is m Up den place form l = ap (λ (f : Form). form_sum form (form_times (neg_ℤ (pos den)) f)) (placed m place l)
goal-is m Low den place form l =
    ap (λ (f : Form). form_sum form f) (twice-opposite (pos den) (after_rule (local_forms m) place))
    ∙ ap (λ (f : Form). form_sum form (form_times (pos den) f)) (placed m place l)
