-- Each answer to whether rows have a point is given exactly in its case, and its node is accepted.
use Rattle.std.proofs.Common.{◌≡◌, ℕ, sym, subst, Option, length}
use Rattle.std.specs.Prelude.{◌↔◌, pos}
use Rattle.poly_terms.specs.linear_forms.Causes.{cause_of}
use Rattle.poly_terms.specs.linear_forms.Forms.{at}
use Rattle.poly_terms.specs.linear_forms.Certificates.{Implies, minus_one}
use Rattle.poly_terms.proofs.linear_forms.CertificateLaws.{no_point}
use Rattle.cert_types.specs.rule_forms.Laws.{HasPoint}
use Rattle.poly_terms.specs.model.Programs.{Rule}
use Rattle.cert_types.specs.guard_prep.Prepared.{Prepared}
use Rattle.cert_types.specs.cert_program.Setting.{rows_in}
use Rattle.cert_types.specs.declared.answer.GuardFeasibility.{GuardFeasibility}
use Rattle.cert_types.specs.declared.answer.GuardFeasibility.TheVariants.{Empty, Point, OutOfLimits}
use Rattle.cert_types.specs.declared.proof.EmptyNode.{EmptyNode}
use Rattle.cert_types.specs.AnswerViews.{scaled_of}
use Rattle.rule_questions.specs.EmptyAnswers.{IsEmptyAnswer, IsEmptyNode, SaysEmpty, SaysPoint, SaysHitLimit}
use Rattle.rule_questions.specs.EmptyAnswers.{empty_program}
use Rattle.rule_questions.specs.EmptyAnswers.{EmptyAnswersAreExact, EmptyNodesAreAccepted}
use Rattle.rule_questions.specs.Programs.{NothingHitsLimit}

-- rows that multipliers show to have no point have none
node-empty : (m : Prepared) (rule : ℕ) (n : EmptyNode) → IsEmptyNode m rule n → ¬ HasPoint m.rows
node-empty m rule n h p = no_point m.rows n.multipliers.items h.shows p.z p.d p.point

-- each answer is given exactly in its case
pub answers-exact : EmptyAnswersAreExact
answers-exact = record {
  empty = λ m rule pivots a h. empty-if m rule pivots a h;
  point = λ m rule pivots a h. point-if m rule pivots a h;
  hit_limit = λ m rule pivots a h. hit_limit-if m rule pivots a h;
}
  where
    empty-if : (m : Prepared) (rule pivots : ℕ) (a : GuardFeasibility) → IsEmptyAnswer m rule pivots a
        → SaysEmpty a ↔ ((¬ HasPoint m.rows) × NothingHitsLimit (empty_program m) pivots)
    empty-if m rule pivots (Empty n) h = (λ _. (node-empty m rule n h.0, h.1), λ _. tt)
    empty-if m rule pivots (Point z) h =
        (λ s. absurd s, λ g. g.0 (record { z = at (scaled_of z).parts; d = pos (scaled_of z).den; point = h.0.point }))
    empty-if m rule pivots (OutOfLimits t) h = (λ s. absurd s, λ g. g.1.each (cause_of t.cause) h.1)

    point-if : (m : Prepared) (rule pivots : ℕ) (a : GuardFeasibility) → IsEmptyAnswer m rule pivots a
        → SaysPoint a ↔ (HasPoint m.rows × NothingHitsLimit (empty_program m) pivots)
    point-if m rule pivots (Empty n) h = (λ s. absurd s, λ g. node-empty m rule n h.0 g.0)
    point-if m rule pivots (Point z) h =
        (λ _. (record { z = at (scaled_of z).parts; d = pos (scaled_of z).den; point = h.0.point }, h.1), λ _. tt)
    point-if m rule pivots (OutOfLimits t) h = (λ s. absurd s, λ g. g.1.each (cause_of t.cause) h.1)

    hit_limit-if : (m : Prepared) (rule pivots : ℕ) (a : GuardFeasibility) → IsEmptyAnswer m rule pivots a
        → SaysHitLimit a ↔ (¬ NothingHitsLimit (empty_program m) pivots)
    hit_limit-if m rule pivots (Empty n) h = (λ s. absurd s, λ g. g h.1)
    hit_limit-if m rule pivots (Point z) h = (λ s. absurd s, λ g. g h.1)
    hit_limit-if m rule pivots (OutOfLimits t) h = (λ _ g. g.each (cause_of t.cause) h.1, λ _. tt)

-- if the rows of a rule have no point, the rule's node is accepted
pub nodes-accepted : EmptyNodesAreAccepted
nodes-accepted = record {
  each = λ p t r n numbered h. record {
    shape = record {
      rule = record { rule = r; numbered = numbered };
      one_each = record {
        long = subst (λ (o : Option Rule). length n.multipliers.items ≡ length (rows_in o)) (sym numbered) h.shows.long;
        limit = h.limit;
      };
    };
    empty = subst (λ (o : Option Rule). Implies (rows_in o) n.multipliers.items minus_one) (sym numbered) h.shows;
  };
}
