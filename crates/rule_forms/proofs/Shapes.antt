-- The questions of all kinds are well formed and have one group.
use Rattle.std.proofs.Common.{ℕ, zero, suc, ◌≤◌, arith, refl, [], ◌∷◌, length, replicate, length-append}
use Rattle.std.specs.Prelude.{pos, negsuc, ◌*ℤ◌}
use Rattle.std.specs.List.{All, range_with_len}
use Rattle.std.proofs.lemmas.List.{length-replicate}
use Rattle.std.proofs.lemmas.List.Elements.{All-cons, All-nil, All-append, All-map, All-weaker}
use Rattle.linear_forms.specs.Forms.{Form}
use Rattle.linear_forms.specs.Questions.{IsShaped, IsGroupShaped}
use Rattle.linear_forms.specs.RuleQuestions.{RuleForms, before_rule}
use Rattle.linear_forms.proofs.SolutionLaws.{length-map}
use Rattle.rule_forms.specs.Kinds.{Kind, Number, Argument, Affine, unit_of}
use Rattle.rule_forms.specs.Questions.{question_of, IsKindOf, Fits}
use Rattle.rule_forms.specs.SoughtParts.{sought_places, fixed_part}
use Rattle.rule_forms.proofs.GoalForms.{group_of}
pub use Rattle.linear_forms.proofs.RuleShapes.{range-below as ranged}
pub use Rattle.linear_forms.proofs.CombinationLaws.{length-sum as sum_length}

-- the places to be found are places of left arguments, or 0
pub places-within : (left : ℕ) (kind : Kind) → All (λ p. p ≤ left) (sought_places left kind)
places-within left Number = All-cons (λ p. p ≤ left) 0 [] (omega arith) (All-nil (λ p. p ≤ left))
places-within left (Argument place sign) = All-nil (λ p. p ≤ left)
places-within left Affine =
    All-append (λ p. p ≤ left) (range_with_len 1 left) (0 ∷ []) (ranged 1 left left (omega arith))
    (All-cons (λ p. p ≤ left) 0 [] (omega arith) (All-nil (λ p. p ≤ left)))

-- the form of an argument has no coefficient past the argument's own
pub argument_length : (p left n : ℕ) → p ≤ left → left ≤ n → length (before_rule p).coefs ≤ n
argument_length zero left n l m = omega arith
argument_length (suc i) left n l m =
    omega (arith, l, m, length-append (replicate i (pos 0)) (pos 1 ∷ []), length-replicate i (pos 0))

-- the fixed part has no coefficient past the left arguments
fixed_length : (left n : ℕ) (kind : Kind) → IsKindOf left kind → left ≤ n → length (fixed_part kind).coefs ≤ n
fixed_length left n Number k l = omega arith
fixed_length left n (Argument place sign) k l =
    omega (arith, argument_length place left n k.1 l, length-map (λ a. unit_of sign *ℤ a) (before_rule place).coefs)
fixed_length left n Affine k l = omega arith

-- the group of a kind has its shape
group-shaped : (r : RuleForms) (w : Form) (kind : Kind) → Fits r w → IsKindOf r.left kind
    → IsGroupShaped (length (sought_places r.left kind)) (group_of r w kind)
group-shaped r w kind fits k = record {
  goals_are = length-map before_rule (sought_places r.left kind);
  rows_fit = fits.rows;
  goals_fit = All-map (λ (f : Form). length f.coefs ≤ r.unknowns) before_rule (sought_places r.left kind)
      (All-weaker (λ p. p ≤ r.left) (λ p. length (before_rule p).coefs ≤ r.unknowns)
      (λ p l. argument_length p r.left r.unknowns l fits.left) (sought_places r.left kind) (places-within r.left kind));
  fixed_fits = sum_length (fixed_part kind).coefs _ r.unknowns (fixed_length r.left r.unknowns kind k fits.left)
      (omega (arith, fits.value, length-map (λ a. negsuc 0 *ℤ a) w.coefs));
}

-- the question of a kind has its shape
pub question-shaped : (r : RuleForms) (w : Form) (kind : Kind) → Fits r w → IsKindOf r.left kind
    → IsShaped (question_of r w kind)
question-shaped r w Number fits k = record {
  groups_are =
      All-cons (IsGroupShaped 1) (group_of r w Number) [] (group-shaped r w Number fits k) (All-nil (IsGroupShaped 1));
  sizes_are = refl;
  heights_are = refl;
}
question-shaped r w (Argument place sign) fits k = record {
  groups_are =
      All-cons (IsGroupShaped 0) (group_of r w (Argument place sign)) [] (group-shaped r w (Argument place sign) fits k)
      (All-nil (IsGroupShaped 0));
  sizes_are = refl;
  heights_are = refl;
}
question-shaped r w Affine fits k = record {
  groups_are =
      All-cons (IsGroupShaped (length (sought_places r.left Affine))) (group_of r w Affine) []
      (group-shaped r w Affine fits k)
      (All-nil (IsGroupShaped (length (sought_places r.left Affine))));
  sizes_are = length-map _ (sought_places r.left Affine);
  heights_are = length-map _ (sought_places r.left Affine);
}
