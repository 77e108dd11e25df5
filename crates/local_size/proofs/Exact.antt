-- The answer is unbounded exactly if a side is unbounded and no question hits a limit, and it is a limit hit exactly if
-- one does.
use Rattle.std.proofs.Common.{◌≡◌, ℕ, suc, zero, ◌≤◌, arith, refl, ◌∙◌, inl, inr, List}
use Rattle.std.specs.Prelude.{◌↔◌, ℤ, pos, ◌*ℤ◌}
use Rattle.simplex_core.proofs.int_laws.RingLaws.{mul-zero_ℤ}
use Rattle.simplex_core.specs.linear_forms.Forms.{Form, at}
use Rattle.simplex_core.specs.linear_forms.RuleQuestions.{before_rule}
use Rattle.simplex_core.proofs.linear_forms.CombinationLaws.{at-times}
use Rattle.cert_types.specs.rule_forms.Kinds.{Kind, Number, Argument, Affine, unit_of, IsOfKind}
use Rattle.cert_types.specs.rule_forms.Questions.{IsKindOf}
use Rattle.cert_types.proofs.rule_forms.Forms.{at-other}
use Rattle.cert_types.proofs.rule_forms.Rays.{unbounded-has-none}
use Rattle.poly_terms.specs.model.Programs.{Program, Rule}
use Rattle.guard_prep.specs.its_model.Valid.{IsValid}
use Rattle.guard_prep.specs.Prepared.{Prepared, prepared}
use Rattle.cert_types.specs.cert_rules.Nodes.{ResultVariable, SideBound, LocalBound}
use Rattle.cert_types.specs.cert_rules.AcceptsSizes.{Side, Up, Low}
use Rattle.cert_types.specs.cert_rules.Gaps.{ScaledPoint}
use Rattle.cert_types.specs.declared.answer.GuardFeasibility.{GuardFeasibility}
use Rattle.cert_types.specs.declared.answer.GuardFeasibility.TheVariants as empties
use Rattle.cert_types.specs.declared.answer.LimitHit.{LimitHit}
use Rattle.rule_questions.specs.EmptyAnswers.{IsEmptyAnswer}
use Rattle.rule_questions.specs.OneEmptyAnswer.{IsSameEmptyAnswer}
use Rattle.local_size.specs.Sides.{SideBoundFound}
use Rattle.local_size.specs.Places.{local_forms, value_on, is_polynomial_at, kinds_of}
use Rattle.local_size.specs.LocalAnswers.{Local, HasBound, IsUnboundedOn, HasHitLimit, SideHasResult, IsLocal}
use Rattle.local_size.specs.LocalLaws.{IsResultVariableOf, IsUnboundedSide, PlaceHitsLimit, SaysUnbounded, SaysHitLimit, LocalAnswersAreExact}
use Rattle.local_size.proofs.Accepted.{at-least-one, found-fits}
use Rattle.local_size.proofs.FirstSideBounds.{fails, side_bound-of_kind, side_bound-above}
use Rattle.local_size.proofs.UnboundedAnswers.{ray-of_side, has-point}
use Rattle.local_size.proofs.OneLocal.{locals-once}
use Rattle.local_size.proofs.KindsAsked.{Found, found}

-- an argument at a left place has coefficient 0 past the left arguments
argument-within : (left place : ℕ) (c : ℤ) → place ≤ left → (u : ℕ) → left ≤ u → 1 ≤ place
    → c *ℤ at (before_rule place).coefs u ≡ pos 0
argument-within left zero c l u k n = absurd (omega (arith, n))
argument-within left (suc i) c l u k n = mul-zero_ℤ c _ (at-other i u (λ e. omega (arith, e, l, k)))

-- a form of any kind is affine
kind-affine : (left : ℕ) (kind : Kind) (g : Form) (q : ℕ) → IsKindOf left kind → IsOfKind left kind g q
    → IsOfKind left Affine g q
kind-affine left Number g q k h = λ u l. h u
kind-affine left (Argument place sign) g q k h =
    λ u l. h.coefs u
    ∙ (at-times (pos q *ℤ unit_of sign) (before_rule place).coefs u
    ∙ argument-within left place (pos q *ℤ unit_of sign) k.1 u l k.0)
kind-affine left Affine g q k h = h

-- each answer is the same as itself
same-again : (d : GuardFeasibility) → IsSameEmptyAnswer d d
same-again (empties.Empty n) = (refl, refl)
same-again (empties.Point z) = refl
same-again (empties.OutOfLimits t) = (refl, refl)

-- an unbounded answer isn't a limit hit
unbounded-no_limit_hit : (side : Side) (ray : List ℤ) (kept : ScaledPoint) (t : LimitHit)
    → IsUnboundedOn side ray kept ≡ HasHitLimit t → ⊥
unbounded-no_limit_hit side ray kept t e = cc

-- an answer with side bounds isn't a limit hit
bound-no_limit_hit : (l : LocalBound) (t : LimitHit) → HasBound l ≡ HasHitLimit t → ⊥
bound-no_limit_hit l t e = cc

module _ (p : Program) (r : Rule) (result_variable : ResultVariable) (pivots : ℕ) (valid : IsValid p) (is : IsResultVariableOf p result_variable r) where
  abbrev m : Prepared
  m = prepared r

  -- a side with a side bound isn't unbounded
  side_bound-not_unbounded : (side : Side) (side_bound : SideBound) → SideHasResult m result_variable.place pivots side (SideBoundFound side_bound)
      → IsUnboundedSide m result_variable.place side → ⊥
  side_bound-not_unbounded side side_bound h unbounded =
      (unbounded-has-none m.rows m.left (value_on side m result_variable.place) unbounded.z unbounded.point unbounded.ray).each _ f.comes.1.0
      (at-least-one f.comes.1.0 f.comes.1.1.solution.denominator)
      (kind-affine m.left f.kind _ f.comes.1.0 k (side_bound-of_kind p r result_variable pivots valid is side f.kind side_bound k f.comes))
      (side_bound-above p r result_variable pivots valid is side f.kind side_bound k f.comes)
    where
      f : Found (local_forms m) (value_on side m result_variable.place) pivots (kinds_of m result_variable.place) side_bound
      f = found (local_forms m) (value_on side m result_variable.place) pivots (kinds_of m result_variable.place) side_bound h

      k : IsKindOf m.left f.kind
      k = (found-fits m result_variable.place pivots side side_bound f).1

  -- no side is unbounded if the answer has side bounds
  bound-not_unbounded : (empty : GuardFeasibility) (l : LocalBound) (side : Side) → IsLocal m result_variable pivots empty (HasBound l)
      → IsUnboundedSide m result_variable.place side → ⊥
  bound-not_unbounded empty l side (inl h) unbounded = unbounded.asked h.0
  bound-not_unbounded empty l Up (inr h) unbounded = side_bound-not_unbounded Up l.up h.up unbounded
  bound-not_unbounded empty l Low (inr h) unbounded = side_bound-not_unbounded Low l.low h.low unbounded

  -- the answer is unbounded exactly if a side is unbounded and no question hits a limit
  unbounded-if : (empty : GuardFeasibility) (x : Local) → IsEmptyAnswer m result_variable.rule pivots empty → IsLocal m result_variable pivots empty x
      → SaysUnbounded x ↔ (((side : Side) × IsUnboundedSide m result_variable.place side) × (¬ PlaceHitsLimit m result_variable pivots empty))
  unbounded-if empty (HasBound l) known h = (λ s. absurd s, λ g. bound-not_unbounded empty l g.0.0 h g.0.1)
  unbounded-if empty (IsUnboundedOn side ray kept) known h = (
    λ s. (
      (
        side,
        record {
          asked = fails (is_polynomial_at m result_variable.place) h.asked;
          point = has-point p r result_variable pivots valid is empty side ray kept h known;
          z = at ray;
          ray = ray-of_side p r result_variable pivots valid is empty side ray kept h;
        },
      ),
      λ t. unbounded-no_limit_hit side ray kept t.limit_hit
          (locals-once m result_variable pivots empty empty (IsUnboundedOn side ray kept) (HasHitLimit t.limit_hit) (same-again empty) h
          t.hit_limit),
    ),
    λ g. tt,
  )
  unbounded-if empty (HasHitLimit t) known h = (λ s. absurd s, λ g. g.1 (record { limit_hit = t; hit_limit = h }))

-- the answer is a limit hit exactly if a question hits a limit
hit_limit-if : (m : Prepared) (result_variable : ResultVariable) (pivots : ℕ) (empty : GuardFeasibility) (x : Local) → IsLocal m result_variable pivots empty x
    → SaysHitLimit x ↔ PlaceHitsLimit m result_variable pivots empty
hit_limit-if m result_variable pivots empty (HasBound l) h = (
  λ s. absurd s,
  λ t. bound-no_limit_hit l t.limit_hit
      (locals-once m result_variable pivots empty empty (HasBound l) (HasHitLimit t.limit_hit) (same-again empty) h t.hit_limit),
)
hit_limit-if m result_variable pivots empty (IsUnboundedOn side ray kept) h = (
  λ s. absurd s,
  λ t. unbounded-no_limit_hit side ray kept t.limit_hit
      (locals-once m result_variable pivots empty empty (IsUnboundedOn side ray kept) (HasHitLimit t.limit_hit) (same-again empty) h
      t.hit_limit),
)
hit_limit-if m result_variable pivots empty (HasHitLimit t) h = (λ s. record { limit_hit = t; hit_limit = h }, λ u. tt)

-- each answer is given exactly in its case
pub answers-exact : LocalAnswersAreExact
answers-exact = record {
  unbounded = λ p r result_variable pivots empty x valid is known h. unbounded-if p r result_variable pivots valid is empty x known h;
  hit_limit = hit_limit-if;
}
