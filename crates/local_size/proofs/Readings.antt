-- The side bound of a solution, and the ray of a dual.
use Rattle.std.proofs.Common.{◌≡◌, ℕ, zero, suc, ◌+◌, ◌*◌, ◌<◌, ◌≤◌, refl, sym, ap, ◌∙◌, arith, List, ◌∷◌}
use Rattle.std.proofs.Common.{length, replicate}
use Rattle.std.specs.Prelude.{ℤ, pos, nat_abs}
use Rattle.simplex_core.specs.linear_forms.Forms.{Form, at}
use Rattle.simplex_core.specs.linear_forms.Questions.{Question, listed, double, group_columns, program_of_question}
use Rattle.simplex_core.specs.linear_forms.QuestionLaws.{after, parameters_of}
use Rattle.simplex_core.specs.linear_forms.RuleQuestions.{RuleForms}
use Rattle.simplex_core.proofs.linear_forms.ElementLaws.{program-columns}
use Rattle.simplex_core.proofs.linear_forms.ListLaws.{after-is}
use Rattle.cert_types.specs.rule_forms.Kinds as plain
use Rattle.cert_types.specs.rule_forms.Kinds.{Number, Argument, Affine}
use Rattle.cert_types.specs.rule_forms.Questions.{question_of, form_of}
use Rattle.cert_types.specs.rule_forms.SoughtParts.{sought_places}
use Rattle.simplex_core.specs.HitsLimit.{IsScaledSolution, IsScaledDual}
use Rattle.cert_types.specs.cert_rules.Nodes.{Linear}
use Rattle.rule_questions.specs.GroupLines.{group_lines}
use Rattle.rule_questions.proofs.GroupLines.{equations-many}
use Rattle.rule_questions.proofs.Lists.{listed-agree, multipliers-listed}
use Rattle.rule_questions.proofs.Pairs.{double-is}
use Rattle.local_size.specs.Asking.{coefficient_of, constant_of}
use Rattle.local_size.specs.Sides.{kind_program, solved_side_bound}
use Rattle.local_size.proofs.Problems.{question-is}

-- a listed function that is 0 is a list of zeros
listed-zeros : (n : ℕ) → listed n (λ u. pos 0) ≡ replicate n (pos 0)
listed-zeros zero = refl
listed-zeros (suc n) = ap (λ (xs : List ℤ). pos 0 ∷ xs) (listed-zeros n)

-- the coefficients and the constant of the form of a kind
coefs-are : (left : ℕ) (kind : plain.Kind) (v : ℕ → ℤ) (d : ℤ) → listed left (coefficient_of kind v d)
    ≡ (form_of left kind v d).coefs
coefs-are left Number v d = listed-agree left _ (λ u. pos 0) (λ j. refl) ∙ listed-zeros left
coefs-are left (Argument place sign) v d = listed-agree left _ _ (λ j. refl)
coefs-are left Affine v d = listed-agree left _ _ (λ j. refl)

constant-is : (left : ℕ) (kind : plain.Kind) (v : ℕ → ℤ) (d : ℤ) → constant_of left kind v
    ≡ (form_of left kind v d).constant
constant-is left Number v d = refl
constant-is left (Argument place sign) v d = refl
constant-is left Affine v d = refl

-- the coefficients and the constant that are read are those of the form
pub form-is : (left : ℕ) (kind : plain.Kind) (v : ℕ → ℤ) (d : ℤ) (coefs : List ℤ) (constant : ℤ)
    → coefs ≡ listed left (coefficient_of kind v d) → constant ≡ constant_of left kind v
    → record { coefs = coefs; constant = constant } ≡ form_of left kind v d
form-is left kind v d coefs constant e f =
    ap (λ (xs : List ℤ). made xs constant) (e ∙ coefs-are left kind v d)
    ∙ ap (λ (z : ℤ). made (form_of left kind v d).coefs z) (f ∙ constant-is left kind v d)
  where
    made : List ℤ → ℤ → Form
    made xs z = record { coefs = xs; constant = z }

-- a side bound is determined by its parts
pub side_bound-is : (den : ℕ) (f g : Form) (ms ns : List ℕ) → f ≡ g → ms ≡ ns → Linear den f ms ≡ Linear den g ns
side_bound-is den f g ms ns e h = ap (λ (x : Form). Linear den x ms) e ∙ ap (λ (xs : List ℕ). Linear den g xs) h

-- the multipliers come after the columns of the parameters
module _ (r : RuleForms) (w : Form) (kind : plain.Kind) where
  parameters-are : (question_of r w kind).parameters ≡ length (sought_places r.left kind)
  parameters-are = ap (λ (q : Question). q.parameters) (question-is r w kind)

  -- the form and the multipliers that are read off a solution are its side bound
  pub solved-is : (numbers : List ℤ) (den rows : ℕ) → rows ≡ length r.rows
      → Linear den (form_of r.left kind (parameters_of (at numbers)) (pos den))
      (listed rows (λ j. nat_abs (at numbers (2 * length (sought_places r.left kind) + j))))
      ≡ solved_side_bound r w kind numbers den
  solved-is numbers den rows e =
      ap (λ (ms : List ℕ). Linear den (form_of r.left kind (parameters_of (at numbers)) (pos den)) ms)
      (ap (λ (n : ℕ). listed n (λ j. nat_abs (at numbers (2 * length (sought_places r.left kind) + j)))) e
      ∙ (listed-agree (length r.rows) _ _ (λ j. ap nat_abs (same j)) ∙ sym
      (multipliers-listed r.rows (after (double (question_of r w kind).parameters) (at numbers)))))
    where
      same : (j : ℕ) → at numbers (2 * length (sought_places r.left kind) + j)
          ≡ after (double (question_of r w kind).parameters) (at numbers) j
      same j =
          ap (λ (k : ℕ). at numbers (k + j))
          (sym (double-is (length (sought_places r.left kind))) ∙ ap double (sym parameters-are))
          ∙ sym (after-is (double (question_of r w kind).parameters) (at numbers) j)

  -- a solution has a column for each parameter's pair and for each row
  pub solution-room : (pivots : ℕ) (numbers : List ℤ) (den : ℕ)
      → IsScaledSolution (kind_program r w kind) pivots numbers den
      → 2 * length (sought_places r.left kind) + length r.rows ≤ length numbers
  solution-room pivots numbers den s =
      let a = s.columns in
      let b = program-columns (question_of r w kind) in
      let c = ap (λ (q : Question). double q.parameters + group_columns q.groups) (question-is r w kind) in
      let d = double-is (length (sought_places r.left kind)) in omega (arith, a, b, c, d)

  -- the problem has a line for each unknown
  lines-are : (q : Question) → (program_of_question q).rows ≡ group_lines q.groups
  unfolding program_of_question
  lines-are q = equations-many 0 q.groups

  -- a dual has more numbers than the rule has unknowns
  pub dual-room : (pivots : ℕ) (numbers : List ℤ) (den : ℕ) → IsScaledDual (kind_program r w kind) pivots numbers den
      → 0 + r.unknowns < length numbers
  dual-room pivots numbers den s =
      let a = s.rows in
      let b = lines-are (question_of r w kind) in
      let c = ap (λ (q : Question). group_lines q.groups) (question-is r w kind) in omega (arith, a, b, c)
