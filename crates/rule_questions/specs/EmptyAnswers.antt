-- The meaning of each answer to whether the rows of a rule have a point.
use Rattle.std.specs.Prelude.{◌≡◌, ◌↔◌, ℕ, ◌≤◌, List, length, ℤ, pos, nat_abs, Some}
use Rattle.std.specs.List.{All}
use Rattle.poly_terms.specs.linear_forms.Causes.{cause_of}
use Rattle.poly_terms.specs.linear_forms.Forms.{at}
use Rattle.poly_terms.specs.linear_forms.Points.{IsPoint}
use Rattle.poly_terms.specs.linear_forms.Certificates.{Implies, minus_one}
use Rattle.poly_terms.specs.linear_forms.Limits.{certificate_limit, point_limit}
use Rattle.poly_terms.specs.linear_forms.LinearProgram.{LinearProgram}
use Rattle.poly_terms.specs.linear_forms.Questions.{listed, program_of_question}
use Rattle.poly_terms.specs.linear_forms.RuleQuestions.{empty_question}
use Rattle.cert_types.specs.rule_forms.Laws.{HasPoint}
use Rattle.poly_terms.specs.model.Programs.{Program, Rule, rule_at}
use Rattle.cert_types.specs.guard_prep.declared.rule_rows.RuleRows.{RuleRows}
use Rattle.cert_types.specs.guard_prep.Prepared.{Prepared, prepared}
use Rattle.cert_types.specs.guard_prep.Laws.{IsPreparable}
use Rattle.cert_types.specs.guard_prep.Views.{prepared_of}
use Rattle.lp_builder.specs.simplex_core.HitsLimit.{HitsLimit, IsScaledSolution, IsScaledDual}
use Rattle.cert_types.specs.cert_rules.Gaps.{ScaledPoint}
use Rattle.cert_types.specs.cert_rules.AcceptsPlain.{AcceptsEmpty}
use Rattle.cert_types.specs.cert_program.Setting.{setting_of}
use Rattle.cert_types.specs.declared.proof.EmptyNode.{EmptyNode}
use Rattle.cert_types.specs.declared.answer.Question.TheVariants as asked
use Rattle.cert_types.specs.declared.answer.GuardFeasibility.{GuardFeasibility}
use Rattle.cert_types.specs.declared.answer.GuardFeasibility.TheVariants.{Empty, Point, OutOfLimits}
use Rattle.cert_types.specs.AnswerViews.{scaled_of}
use Rattle.rule_questions.specs.ProgramQuestions.{forms_of}
use Rattle.rule_questions.specs.Programs.{NothingHitsLimit}

-- the rows are those of a preparable rule, as each rule of a valid program is
pub record IsPrepared (m : RuleRows) : Type 0 where
  pub rule : Rule
  pub preparable : IsPreparable rule
  pub same : prepared_of m ≡ prepared rule

-- the linear program that asks whether the rows have a point
abbrev pub empty_program : Prepared → LinearProgram
empty_program m = program_of_question (empty_question (forms_of 0 0 m))

-- the node is of the rule, and its multipliers are within the limit and show that the rows have no point
pub record IsEmptyNode (m : Prepared) (rule : ℕ) (n : EmptyNode) : Type 0 where
  pub numbered : n.rule ≡ rule
  pub limit : All (λ k. k ≤ certificate_limit) n.multipliers.items
  pub shows : Implies m.rows n.multipliers.items minus_one

-- the scaled point has a numerator for each unknown, its numbers are within the limit, and it is a point of the rows
pub record IsNearPoint (m : Prepared) (z : ScaledPoint) : Type 0 where
  pub long : length z.parts ≡ m.unknowns
  pub parts_limit : All (λ a. nat_abs a ≤ point_limit) z.parts
  pub den_limit : z.den ≤ point_limit
  pub point : IsPoint m.rows (at z.parts) (pos z.den)

-- the multipliers are those of the solution at which the linear program's sequence of tableaux ends
pub record AreSolved (m : Prepared) (pivots : ℕ) (multipliers : List ℕ) : Type 0 where
  pub numbers : List ℤ
  pub den : ℕ
  pub solution : IsScaledSolution (empty_program m) pivots numbers den
  pub read : multipliers ≡ listed (length m.rows) (λ j. nat_abs (at numbers j))

-- the point is the dual at which the sequence ends
pub record IsDualPoint (m : Prepared) (pivots : ℕ) (z : ScaledPoint) : Type 0 where
  pub numbers : List ℤ
  pub den : ℕ
  pub dual : IsScaledDual (empty_program m) pivots numbers den
  pub parts : z.parts ≡ listed m.unknowns (at numbers)
  pub over : z.den ≡ nat_abs (at numbers m.unknowns)

-- the meaning of the answer for a rule, within a number of pivots: the rows have no point, as a node shows, or they
-- have this point, and no limit is hit; or a limit is hit, with this cause. The node and the point are those at which
-- the sequence of tableaux ends
abbrev pub IsEmptyAnswer : Prepared → ℕ → ℕ → GuardFeasibility → Type 0
IsEmptyAnswer m rule pivots (Empty n) =
    IsEmptyNode m rule n × NothingHitsLimit (empty_program m) pivots × AreSolved m pivots n.multipliers.items
IsEmptyAnswer m rule pivots (Point z) =
    IsNearPoint m (scaled_of z) × NothingHitsLimit (empty_program m) pivots × IsDualPoint m pivots (scaled_of z)
IsEmptyAnswer m rule pivots (OutOfLimits t) =
    (t.question ≡ asked.Empty rule) × HitsLimit (empty_program m) pivots (cause_of t.cause)

-- the answer is that the rows have no point
abbrev pub SaysEmpty : GuardFeasibility → Type 0
SaysEmpty (Empty n) = Unit {0}
SaysEmpty (Point z) = ⊥
SaysEmpty (OutOfLimits t) = ⊥

abbrev pub SaysPoint : GuardFeasibility → Type 0
SaysPoint (Empty n) = ⊥
SaysPoint (Point z) = Unit {0}
SaysPoint (OutOfLimits t) = ⊥

abbrev pub SaysHitLimit : GuardFeasibility → Type 0
SaysHitLimit (Empty n) = ⊥
SaysHitLimit (Point z) = ⊥
SaysHitLimit (OutOfLimits t) = Unit {0}

-- each of the three answers is given exactly in its case
pub record EmptyAnswersAreExact : Type 0 where
  pub empty : (m : Prepared) (rule pivots : ℕ) (a : GuardFeasibility) → IsEmptyAnswer m rule pivots a
      → SaysEmpty a ↔ ((¬ HasPoint m.rows) × NothingHitsLimit (empty_program m) pivots)
  pub point : (m : Prepared) (rule pivots : ℕ) (a : GuardFeasibility) → IsEmptyAnswer m rule pivots a
      → SaysPoint a ↔ (HasPoint m.rows × NothingHitsLimit (empty_program m) pivots)
  pub hit_limit : (m : Prepared) (rule pivots : ℕ) (a : GuardFeasibility) → IsEmptyAnswer m rule pivots a
      → SaysHitLimit a ↔ (¬ NothingHitsLimit (empty_program m) pivots)

-- if the rows of a rule of a program have no point, the rule's node is accepted
pub record EmptyNodesAreAccepted : Type 0 where
  pub each : (p : Program) (t : ℕ) (r : Rule) (n : EmptyNode) → rule_at p t ≡ Some r → IsEmptyNode (prepared r) t n
      → AcceptsEmpty (setting_of p) t n.multipliers.items
