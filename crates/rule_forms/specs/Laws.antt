-- Laws of the linear program of a kind of form: what it proves of the forms of this kind.
use Rattle.std.specs.Prelude.{◌≡◌, ℕ, List, ℤ, pos, nat_abs, ◌<ℤ◌}
use Rattle.linear_forms.specs.Forms.{Form}
use Rattle.linear_forms.specs.Points.{IsPoint}
use Rattle.linear_forms.specs.Certificates.{Implies}
use Rattle.linear_forms.specs.LinearProgram.{IsSolution, IsLeast, IsDual}
use Rattle.linear_forms.specs.Questions.{double, program_of_question}
use Rattle.linear_forms.specs.QuestionLaws.{after, parameters_of, multipliers_of}
use Rattle.linear_forms.specs.RuleQuestions.{RuleForms}
use Rattle.rule_forms.specs.Kinds.{Kind, Affine, IsOfKind}
use Rattle.rule_forms.specs.Bounds.{IsAbove, HasNone, IsLeastOf, IsUnboundedRay}
use Rattle.rule_forms.specs.Questions.{question_of, form_of, excess, IsKindOf, Fits}

-- rows have a rational point
pub record HasPoint (rows : List Form) : Type 0 where
  pub z : ℕ → ℤ
  pub d : ℤ
  pub point : IsPoint rows z d

-- the form that a solution x over d of the kind's program represents
abbrev pub solved_form : RuleForms → Kind → (ℕ → ℤ) → ℤ → Form
solved_form r kind x d = form_of r.left kind (parameters_of x) d

-- the multipliers of a solution x of the kind's program
abbrev pub solved_multipliers : RuleForms → Form → Kind → (ℕ → ℤ) → List ℕ
solved_multipliers r w kind x = multipliers_of (after (double (question_of r w kind).parameters) x) r.rows

-- a solution of a kind's program gives a form of this kind; multipliers of the rows show that it is at least w, so it
-- is at least w on every point
pub record SolutionsAreBounds : Type 0 where
  pub shown : (r : RuleForms) (w : Form) (kind : Kind) (x : ℕ → ℤ) (d : ℤ) → Fits r w → IsKindOf r.left kind
      → IsSolution (program_of_question (question_of r w kind)) x d
      → Implies r.rows (solved_multipliers r w kind x) (excess (solved_form r kind x d) d w)
  pub of_kind : (left : ℕ) (kind : Kind) (v : ℕ → ℤ) (d : ℤ) → IsKindOf left kind → pos 0 <ℤ d
      → IsOfKind left kind (form_of left kind v d) (nat_abs d)
  pub above : (rows : List Form) (multipliers : List ℕ) (w g : Form) (q : ℕ)
      → Implies rows multipliers (excess g (pos q) w) → IsAbove rows w g q

-- if the rule has a point, a solution of least cost gives a least form of this kind
pub record LeastAreLeast : Type 0 where
  pub each : (r : RuleForms) (w : Form) (kind : Kind) (x : ℕ → ℤ) (d : ℤ) → Fits r w → IsKindOf r.left kind
      → HasPoint r.rows → IsSolution (program_of_question (question_of r w kind)) x d
      → IsLeast (program_of_question (question_of r w kind)) x d
      → IsLeastOf r.rows r.left w kind (solved_form r kind x d) (nat_abs d)

-- if the rule has a point, a dual of a kind's program shows that no form of this kind is at least w
pub record DualsExclude : Type 0 where
  pub each : (r : RuleForms) (w : Form) (kind : Kind) (y : ℕ → ℤ) → Fits r w → IsKindOf r.left kind → HasPoint r.rows
      → IsDual (program_of_question (question_of r w kind)) y → HasNone r.rows r.left w kind

-- a dual of the program of any affine form is a ray along which w increases and no left argument changes, and its last
-- number is 0; if there is such a ray, and a point, no affine form is at least w
pub record DualsAreRays : Type 0 where
  pub ray : (r : RuleForms) (w : Form) (y : ℕ → ℤ) → Fits r w → IsDual (program_of_question (question_of r w Affine)) y
      → IsUnboundedRay r.rows r.left w y
  pub end : (r : RuleForms) (w : Form) (y : ℕ → ℤ) → Fits r w → IsDual (program_of_question (question_of r w Affine)) y
      → y r.unknowns ≡ pos 0
  pub none : (rows : List Form) (left : ℕ) (w : Form) (z : ℕ → ℤ) → HasPoint rows → IsUnboundedRay rows left w z
      → HasNone rows left w Affine
