-- The question whether a form of a kind bounds a new value, and the form that a solution of its linear program gives.
use Rattle.std.specs.Prelude.{ℕ, suc, ◌≤◌, nat_eq, if◌then◌else◌, length, replicate, ℤ, pos, ◌*ℤ◌, neg_ℤ, ⊤}
use Rattle.std.specs.List.{All}
use Rattle.linear_forms.specs.Forms.{Form}
use Rattle.linear_forms.specs.Combinations.{form_sum, form_times}
use Rattle.linear_forms.specs.Questions.{Question, listed}
use Rattle.linear_forms.specs.RuleQuestions.{RuleForms, before_rule, constant_question, fixed_question, affine_question}
use Rattle.rule_forms.specs.Kinds.{Kind, Number, Argument, Affine, unit_of}

-- the question which form of the kind is at least w on the points of a rule
abbrev pub question_of : RuleForms → Form → Kind → Question
question_of r w Number = constant_question r w
question_of r w (Argument place sign) = fixed_question r w (form_times (unit_of sign) (before_rule place))
question_of r w Affine = affine_question r w

-- the form of a kind that the parameters v over d represent
abbrev pub form_of : ℕ → Kind → (ℕ → ℤ) → ℤ → Form
form_of left Number v d = record { coefs = replicate left (pos 0); constant = v 0 }
form_of left (Argument place sign) v d =
    record { coefs = listed left (λ u. if nat_eq (suc u) place then d *ℤ unit_of sign else pos 0); constant = pos 0 }
form_of left Affine v d = record { coefs = listed left v; constant = v left }

-- the excess of the form g over q over w: g less q times w, which is at least 0 if g over q is at least w
abbrev pub excess : Form → ℤ → Form → Form
excess g q w = form_sum g (form_times (neg_ℤ q) w)

-- the place of an argument's kind is one of the left places
abbrev pub IsKindOf : ℕ → Kind → Type 0
IsKindOf left Number = ⊤
IsKindOf left (Argument place sign) = (1 ≤ place) × (place ≤ left)
IsKindOf left Affine = ⊤

-- the left arguments are the first unknowns of a rule, and its rows and w have no coefficient past its unknowns
pub record Fits (r : RuleForms) (w : Form) : Type 0 where
  pub left : r.left ≤ r.unknowns
  pub rows : All (λ f. length f.coefs ≤ r.unknowns) r.rows
  pub value : length w.coefs ≤ r.unknowns
