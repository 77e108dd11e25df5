-- The rows of the questions for a place.
use Rattle.std.proofs.Common.{◌≡◌, ℕ, zero, suc, refl, sym, ap, ◌∙◌, subst, arith, List, [], ◌∷◌, map}
use Rattle.std.specs.Prelude.{ℤ, pos, ◌*ℤ◌}
use Rattle.std.proofs.lemmas.Int.{ints}
use Rattle.simplex_core.specs.linear_forms.Forms.{Form}
use Rattle.simplex_core.specs.linear_forms.Combinations.{form_times}
use Rattle.simplex_core.specs.linear_forms.RuleQuestions.{before_rule}
use Rattle.cert_types.specs.rule_forms.Kinds as plain
use Rattle.cert_types.specs.rule_forms.Kinds.{Number, Argument, Affine, Plus, Minus}
use Rattle.cert_types.specs.rule_forms.SoughtParts.{fixed_part}
use Rattle.rule_questions.specs.SmallForms.{IsSmall}
use Rattle.rule_questions.proofs.Sums.{constant-small, unknown-small}
use Rattle.local_size.proofs.Values.{opposite-small}

-- numbers multiplied by 1 are the same
once-each : (xs : List ℤ) → map (λ a. pos 1 *ℤ a) xs ≡ xs
once-each [] = refl
once-each (x ∷ xs) = ap (λ (y : ℤ). y ∷ map (λ a. pos 1 *ℤ a) xs) (once x) ∙ ap (λ (ys : List ℤ). x ∷ ys) (once-each xs)
  where
    once : (a : ℤ) → pos 1 *ℤ a ≡ a
    once a = omega (arith, ints)

-- a form multiplied by 1 is the same
pub once-form : (f : Form) → form_times (pos 1) f ≡ f
once-form f =
    ap (λ (xs : List ℤ). record { coefs = xs; constant = pos 1 *ℤ f.constant }) (once-each f.coefs)
    ∙ ap (λ (z : ℤ). record { coefs = f.coefs; constant = z }) (once f.constant)
  where
    once : (a : ℤ) → pos 1 *ℤ a ≡ a
    once a = omega (arith, ints)

-- an argument and the constant 1 are small
pub argument-small : (place : ℕ) → IsSmall (before_rule place)
argument-small zero = constant-small (pos 1) (omega arith)
argument-small (suc i) = unknown-small i

-- the fixed part is small
pub fixed-small : (kind : plain.Kind) → IsSmall (fixed_part kind)
fixed-small Number = constant-small (pos 0) (omega arith)
fixed-small (Argument place Plus) = subst IsSmall (sym (once-form (before_rule place))) (argument-small place)
fixed-small (Argument place Minus) = opposite-small (before_rule place) (argument-small place)
fixed-small Affine = constant-small (pos 0) (omega arith)
