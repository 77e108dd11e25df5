-- The answers for places, by the answers of the code.
use Rattle.std.proofs.Common.{◌≡◌, ◌⊎◌, inl, inr, ℕ, Some, refl, sym, ◌∙◌, ap, subst}
use Rattle.std.specs.Prelude.{List, ℤ}
use Rattle.model.specs.Programs.{Program, Rule, rule_at}
use Rattle.model.proofs.Cases.{none_some, some_same}
use Rattle.its_model.specs.linear_forms.declared.limit_cause.LimitCause.TheVariants as causes
use Rattle.guard_prep.specs.Prepared.{prepared}
use Rattle.cert_types.specs.AnswerViews.{scaled_of}
use Rattle.cert_types.specs.declared.answer.GuardFeasibility.{GuardFeasibility}
use Rattle.cert_types.specs.declared.answer.GuardFeasibility.TheVariants as empties
use Rattle.cert_types.specs.declared.answer.Question.TheVariants as asked
use Rattle.cert_types.specs.declared.answer.LimitHit.{LimitHit}
use Rattle.cert_types.specs.cert_rules.Gaps.{ScaledPoint}
use Rattle.cert_types.specs.cert_rules.AcceptsSizes.{Side}
use Rattle.rank_search.specs.rule_questions.EmptyAnswers.{IsEmptyAnswer}
use Rattle.rank_search.specs.rule_questions.RuleAnswers.{point_in, limit_hit_in}
use Rattle.local_size.specs.LocalAnswers.{Local, HasBound, IsUnboundedOn, HasHitLimit, IsLocal, IsUnboundedPlace}
use Rattle.bound_fixpoint.specs.Keys.{key}
use Rattle.bound_fixpoint.specs.Searches.{HasPoint}
use Rattle.time_bounds.specs.ProgramRules.{emptiness_of, IsEmptinessOf}
use Rattle.time_bounds.specs.ProgramSizes.{IsAnswerAt}

-- an answer about emptiness, which the bounds of places don't depend on
abbrev pub any_answer : GuardFeasibility
any_answer = empties.OutOfLimits (record { question = asked.Empty 0; cause = causes.Scale })

-- the answer for a place of a rule, whatever the answer on its emptiness is; and the one by an answer of the code
abbrev pub AnyAnswers : ℕ → ℕ → ℕ → Rule → Local → Type 0
AnyAnswers pivots t i r x = (a : GuardFeasibility) → IsLocal (prepared r) (key t i) pivots a x

abbrev pub OneAnswers : ℕ → ℕ → ℕ → Rule → Local → Type 0
OneAnswers pivots t i r x =
    (a : GuardFeasibility) × IsEmptyAnswer (prepared r) t pivots a × IsLocal (prepared r) (key t i) pivots a x

module _ (p : Program) (pivots : ℕ) (r : Rule) (t : ℕ) (numbered : rule_at p t ≡ Some r) where
  -- the point in an answer on a rule's emptiness is that of an answer of the code
  pub point_answered : (kept : ScaledPoint) → IsEmptinessOf p pivots t (HasPoint kept)
      → (a : GuardFeasibility) × IsEmptyAnswer (prepared r) t pivots a × (point_in (Some a) ≡ Some kept)
  point_answered kept (x, there, (a, same, is)) =
      (a, subst (λ (y : Rule). IsEmptyAnswer (prepared y) t pivots a) (some_same x r (sym there ∙ numbered)) is, told a same)
    where
      told : (b : GuardFeasibility) → emptiness_of b ≡ HasPoint kept → point_in (Some b) ≡ Some kept
      told (empties.Empty n) e = absurd (let none : ⊥ = cc in none)
      told (empties.Point z) e = let point : scaled_of z ≡ kept = cc in ap (λ (k : ScaledPoint). Some k) point
      told (empties.OutOfLimits x) e = absurd (let none : ⊥ = cc in none)

  -- each point, and each limit hit, of an answer of the code is one of an answer on emptiness
  answered_point : (a : GuardFeasibility) (kept : ScaledPoint) → IsEmptyAnswer (prepared r) t pivots a
      → point_in (Some a) ≡ Some kept → IsEmptinessOf p pivots t (HasPoint kept)
  answered_point (empties.Empty n) kept h e = absurd (none_some kept e)
  answered_point (empties.Point z) kept h e =
      (r, numbered, (empties.Point z, ap (λ (k : ScaledPoint). HasPoint k) (some_same (scaled_of z) kept e), h))
  answered_point (empties.OutOfLimits x) kept h e = absurd (none_some kept e)

  answered_limit_hit : (a : GuardFeasibility) (x : LimitHit) → IsEmptyAnswer (prepared r) t pivots a → limit_hit_in (Some a) ≡ Some x
      → IsEmptyAnswer (prepared r) t pivots (empties.OutOfLimits x)
  answered_limit_hit (empties.Empty n) x h e = absurd (none_some x e)
  answered_limit_hit (empties.Point z) x h e = absurd (none_some x e)
  answered_limit_hit (empties.OutOfLimits u) x h e =
      subst (λ (v : LimitHit). IsEmptyAnswer (prepared r) t pivots (empties.OutOfLimits v)) (some_same u x e) h

  -- the code's answer for a place of the rule is the place's answer
  pub answer_at : (i : ℕ) (a : GuardFeasibility) (x : Local) → IsEmptyAnswer (prepared r) t pivots a
      → IsLocal (prepared r) (key t i) pivots a x
      → IsAnswerAt p pivots (prepared r) (key t i) x
  answer_at i a (HasBound l) known h = h
  answer_at i a (IsUnboundedOn side ray kept) known h =
      (record { not_polynomial = h.asked; lacks = h.lacks }, answered_point a kept known h.point)
  answer_at i a (HasHitLimit x) known (inl own) = inl own
  answer_at i a (HasHitLimit x) known (inr h) = inr record {
    side = h.lacks.0;
    ray = h.lacks.1.0;
    lacks = record { not_polynomial = h.asked; lacks = h.lacks.1.1 };
    hits_limit = record { rule = r; numbered = numbered; hits_limit = answered_limit_hit a x known h.limit_hit };
  }

  -- an answer that a place has an unbounded side is one by an answer of the code
  pub unbounded_answered : (i : ℕ) (side : Side) (ray : List ℤ) (kept : ScaledPoint)
      → IsAnswerAt p pivots (prepared r) (key t i) (IsUnboundedOn side ray kept)
      → (a : GuardFeasibility) × IsEmptyAnswer (prepared r) t pivots a
      × IsUnboundedPlace (prepared r) i pivots a side ray kept
  unbounded_answered i side ray kept h =
      let known = point_answered kept h.1 in
      (known.0, known.1, record { asked = h.0.not_polynomial; lacks = h.0.lacks; point = known.2 })

  -- whatever the answer on emptiness is, a place has its bounds, and its own limit hits; each other answer is one by an
  -- answer of the code
  pub code_answered : (i : ℕ) (x : Local) → IsAnswerAt p pivots (prepared r) (key t i) x
      → AnyAnswers pivots t i r x ⊎ OneAnswers pivots t i r x
  code_answered i (HasBound l) h = inl (λ a. h)
  code_answered i (IsUnboundedOn side ray kept) h = inr (unbounded_answered i side ray kept h)
  code_answered i (HasHitLimit x) (inl own) = inl (λ a. inl own)
  code_answered i (HasHitLimit x) (inr h) = inr (
    empties.OutOfLimits x,
    subst (λ (y : Rule). IsEmptyAnswer (prepared y) t pivots (empties.OutOfLimits x))
        (some_same h.hits_limit.rule r (sym h.hits_limit.numbered ∙ numbered)) h.hits_limit.hits_limit,
    inr (record { asked = h.lacks.not_polynomial; lacks = (h.side, (h.ray, h.lacks.lacks)); limit_hit = refl }),
  )
