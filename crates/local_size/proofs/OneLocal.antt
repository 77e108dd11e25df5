-- A place has one answer.
use Rattle.std.proofs.Common.{◌≡◌, ◌⊎◌, ℕ, ap, refl, sym, ◌∙◌, inl, inr, Bool, true, false, List, Some, None}
use Rattle.std.specs.Prelude.{ℤ}
use Rattle.std.proofs.lemmas.Bool.{true≢false}
use Rattle.simplex_core.specs.linear_forms.Causes.{Cause, cause_of}
use Rattle.simplex_core.proofs.linear_forms.CauseLaws.{names-same}
use Rattle.guard_prep.specs.Prepared.{Prepared}
use Rattle.cert_types.specs.cert_rules.Nodes.{ResultVariable, SideBound, LocalBound}
use Rattle.cert_types.specs.cert_rules.Gaps.{ScaledPoint}
use Rattle.cert_types.specs.cert_rules.AcceptsSizes.{Side, Up, Low}
use Rattle.cert_types.specs.declared.answer.GuardFeasibility.{GuardFeasibility}
use Rattle.cert_types.specs.declared.answer.GuardFeasibility.TheVariants as empties
use Rattle.cert_types.specs.declared.answer.Question.{Question}
use Rattle.cert_types.specs.declared.answer.LimitHit.{LimitHit}
use Rattle.simplex_core.specs.linear_forms.declared.limit_cause.LimitCause.{LimitCause}
use Rattle.rule_questions.specs.OneEmptyAnswer.{IsSameEmptyAnswer}
use Rattle.rule_questions.specs.RuleAnswers.{point_in, limit_hit_in}
use Rattle.local_size.specs.Sides.{SideOutcome, SideBoundFound, NoneFound, LimitPassed}
use Rattle.local_size.specs.Places.{local_forms, value_on, kinds_of}
use Rattle.local_size.specs.LocalAnswers.{Local, HasBound, IsUnboundedOn, HasHitLimit, SideHasResult, HasSideBounds}
use Rattle.local_size.specs.LocalAnswers.{PassesNone, LacksForm, IsLocal}
use Rattle.local_size.specs.LocalLaws.{LocalAnswersAreOne}
use Rattle.local_size.proofs.OneSideOutcome.{search-once}
use Rattle.poly_terms.proofs.model.Cases.{some_same as some-limit_hit, none_some as no-limit_hit}

-- a limit hit, by its parts
limit_hit_with : Question → LimitCause → LimitHit
limit_hit_with question cause = record { question = question; cause = cause }

-- limit hits with equal parts are equal
limit_hit-same : (t u : LimitHit) → t.question ≡ u.question → cause_of t.cause ≡ cause_of u.cause → t ≡ u
unfolding limit_hit_with
limit_hit-same t u e f =
    ap (λ (q : Question). limit_hit_with q t.cause) e
    ∙ ap (λ (c : LimitCause). limit_hit_with u.question c) (names-same t.cause u.cause f)

-- a bound, by its side bounds
bound_with : SideBound → SideBound → LocalBound
bound_with up low = record { up = up; low = low }

-- bounds with equal side bounds are equal
bound-same : (l k : LocalBound) → l.up ≡ k.up → l.low ≡ k.low → l ≡ k
unfolding bound_with
bound-same l k e f = ap (λ (a : SideBound). bound_with a l.low) e ∙ ap (λ (a : SideBound). bound_with k.up a) f

-- two optional points that are equal are the same point
some-point : (z w : ScaledPoint) → Some z ≡ Some w → z ≡ w
some-point z w e = cc

-- no point isn't a point
no-point : (z : ScaledPoint) → None ≡ Some z → ⊥
no-point z e = cc

-- equal results have equal side bounds
side_bound-same : (a b : SideBound) → SideBoundFound a ≡ SideBoundFound b → a ≡ b
side_bound-same a b e = cc

-- equal results have equal rays
ray-same : (a b : List ℤ) → NoneFound a ≡ NoneFound b → a ≡ b
ray-same a b e = cc

-- equal results have equal causes of the limit hit
cause-same : (c d : Cause) → LimitPassed c ≡ LimitPassed d → c ≡ d
cause-same c d e = cc

-- a side bound isn't a ray, and neither is a limit
side_bound-no_ray : (a : SideBound) (ray : List ℤ) → SideBoundFound a ≡ NoneFound ray → ⊥
side_bound-no_ray a ray e = cc

side_bound-no_limit : (a : SideBound) (c : Cause) → SideBoundFound a ≡ LimitPassed c → ⊥
side_bound-no_limit a c e = cc

ray-no_limit : (ray : List ℤ) (c : Cause) → NoneFound ray ≡ LimitPassed c → ⊥
ray-no_limit ray c e = cc

-- equal answers have equal points
points-same : (d e : GuardFeasibility) → IsSameEmptyAnswer d e → point_in (Some d) ≡ point_in (Some e)
points-same (empties.Empty n) (empties.Empty k) s = refl
points-same (empties.Empty n) (empties.Point z) s = absurd s
points-same (empties.Empty n) (empties.OutOfLimits t) s = absurd s
points-same (empties.Point z) (empties.Empty n) s = absurd s
points-same (empties.Point z) (empties.Point w) s = ap (λ (p : ScaledPoint). Some p) s
points-same (empties.Point z) (empties.OutOfLimits t) s = absurd s
points-same (empties.OutOfLimits t) (empties.Empty n) s = absurd s
points-same (empties.OutOfLimits t) (empties.Point z) s = absurd s
points-same (empties.OutOfLimits t) (empties.OutOfLimits u) s = refl

-- equal answers have equal limit hits
hits_limit-same : (d e : GuardFeasibility) → IsSameEmptyAnswer d e → limit_hit_in (Some d) ≡ limit_hit_in (Some e)
hits_limit-same (empties.Empty n) (empties.Empty k) s = refl
hits_limit-same (empties.Empty n) (empties.Point z) s = absurd s
hits_limit-same (empties.Empty n) (empties.OutOfLimits t) s = absurd s
hits_limit-same (empties.Point z) (empties.Empty n) s = absurd s
hits_limit-same (empties.Point z) (empties.Point w) s = refl
hits_limit-same (empties.Point z) (empties.OutOfLimits t) s = absurd s
hits_limit-same (empties.OutOfLimits t) (empties.Empty n) s = absurd s
hits_limit-same (empties.OutOfLimits t) (empties.Point z) s = absurd s
hits_limit-same (empties.OutOfLimits t) (empties.OutOfLimits u) s = ap (λ (v : LimitHit). Some v) (limit_hit-same t u s.0 s.1)

-- an answer with a point has no limit hit
not-both : (d : GuardFeasibility) (z : ScaledPoint) (t : LimitHit) → point_in (Some d) ≡ Some z → limit_hit_in (Some d) ≡ Some t → ⊥
not-both (empties.Empty n) z t e f = no-point z e
not-both (empties.Point w) z t e f = no-limit_hit t f
not-both (empties.OutOfLimits u) z t e f = no-point z e

module _ (m : Prepared) (place pivots : ℕ) where
  -- each side has only one result
  side-once : (side : Side) (x y : SideOutcome) → SideHasResult m place pivots side x → SideHasResult m place pivots side y
      → x ≡ y
  side-once side x y g h =
      search-once (local_forms m) (value_on side m place) pivots (kinds_of m place) x y g h

  -- a side that exceeds no limit hits none
  unpassed : (side : Side) (c : Cause) → PassesNone m place pivots side
      → SideHasResult m place pivots side (LimitPassed c)
      → ⊥
  unpassed side c (inl n) h = side_bound-no_limit n.0 c (side-once side (SideBoundFound n.0) (LimitPassed c) n.1 h)
  unpassed side c (inr n) h = ray-no_limit n.0 c (side-once side (NoneFound n.0) (LimitPassed c) n.1 h)

  -- if a side has no form, neither side exceeds a limit
  lacks-pass : (side : Side) (ray : List ℤ) → LacksForm m place pivots side ray
      → PassesNone m place pivots Up × PassesNone m place pivots Low
  lacks-pass Up ray h = (inr (ray, h.0), h.1)
  lacks-pass Low ray h = (inl h.0, inr (ray, h.1))

  -- if both sides have a side bound, neither is without a form
  side_bounds-suffice : (side : Side) (ray : List ℤ) (l : LocalBound) → HasSideBounds m place pivots l
      → LacksForm m place pivots side ray → ⊥
  side_bounds-suffice Up ray l h n = side_bound-no_ray l.up ray (side-once Up (SideBoundFound l.up) (NoneFound ray) h.up n.0)
  side_bounds-suffice Low ray l h n = side_bound-no_ray l.low ray (side-once Low (SideBoundFound l.low) (NoneFound ray) h.low n.1)

  -- the side without a form, and its ray, are unique
  lacks-once : (a b : Side) (ray other : List ℤ) → LacksForm m place pivots a ray → LacksForm m place pivots b other
      → (a ≡ b) × (ray ≡ other)
  lacks-once Up Up ray other g h =
      (refl, ray-same ray other (side-once Up (NoneFound ray) (NoneFound other) g.0 h.0))
  lacks-once Up Low ray other g h =
      absurd (side_bound-no_ray h.0.0 ray (side-once Up (SideBoundFound h.0.0) (NoneFound ray) h.0.1 g.0))
  lacks-once Low Up ray other g h =
      absurd (side_bound-no_ray g.0.0 other (side-once Up (SideBoundFound g.0.0) (NoneFound other) g.0.1 h.0))
  lacks-once Low Low ray other g h =
      (refl, ray-same ray other (side-once Low (NoneFound ray) (NoneFound other) g.1 h.1))

  -- the first limit that is hit, the upper side first
  abbrev PassesFirst : Cause → Type 0
  PassesFirst c = SideHasResult m place pivots Up (LimitPassed c)
      ⊎ (PassesNone m place pivots Up × SideHasResult m place pivots Low (LimitPassed c))

  -- if a side hits a limit, not both sides exceed none
  first-apart : (c : Cause) → PassesFirst c → PassesNone m place pivots Up × PassesNone m place pivots Low → ⊥
  first-apart c (inl g) h = unpassed Up c h.0 g
  first-apart c (inr g) h = unpassed Low c h.1 g.1

  -- the cause of the first limit that is hit is unique
  first-once : (c d : Cause) → PassesFirst c → PassesFirst d → c ≡ d
  first-once c d (inl g) (inl h) = cause-same c d (side-once Up (LimitPassed c) (LimitPassed d) g h)
  first-once c d (inl g) (inr h) = absurd (unpassed Up c h.0 g)
  first-once c d (inr g) (inl h) = absurd (unpassed Up d g.0 h)
  first-once c d (inr g) (inr h) = cause-same c d (side-once Low (LimitPassed c) (LimitPassed d) g.1 h.1)

  -- if both sides have a side bound, neither hits a limit
  side_bounds-pass : (l : LocalBound) → HasSideBounds m place pivots l → PassesNone m place pivots Up × PassesNone m place pivots Low
  side_bounds-pass l h = (inl (l.up, h.up), inl (l.low, h.low))

  -- the side bounds of both sides are unique
  side_bounds-once : (l k : LocalBound) → HasSideBounds m place pivots l → HasSideBounds m place pivots k → l ≡ k
  side_bounds-once l k g h =
      bound-same l k (side_bound-same l.up k.up (side-once Up (SideBoundFound l.up) (SideBoundFound k.up) g.up h.up))
      (side_bound-same l.low k.low (side-once Low (SideBoundFound l.low) (SideBoundFound k.low) g.low h.low))

-- a test isn't both true and false
apart : (b : Bool) → b ≡ true → b ≡ false → ⊥
apart b e f = true≢false (sym e ∙ f)

module _ (m : Prepared) (result_variable : ResultVariable) (pivots : ℕ) where
  bounds-once : (d e : GuardFeasibility) (l k : LocalBound) → IsLocal m result_variable pivots d (HasBound l)
      → IsLocal m result_variable pivots e (HasBound k) → HasBound l ≡ HasBound k
  bounds-once d e l k (inl g) (inl h) = ap HasBound (g.1 ∙ sym h.1)
  bounds-once d e l k (inl g) (inr h) = absurd (apart _ g.0 h.asked)
  bounds-once d e l k (inr g) (inl h) = absurd (apart _ h.0 g.asked)
  bounds-once d e l k (inr g) (inr h) = ap HasBound (side_bounds-once m result_variable.place pivots l k g h)

  -- an answer with side bounds isn't an unbounded answer
  bound-not_unbounded : (d e : GuardFeasibility) (l : LocalBound) (side : Side) (ray : List ℤ) (kept : ScaledPoint)
      → IsLocal m result_variable pivots d (HasBound l) → IsLocal m result_variable pivots e (IsUnboundedOn side ray kept) → ⊥
  bound-not_unbounded d e l side ray kept (inl g) h = apart _ g.0 h.asked
  bound-not_unbounded d e l side ray kept (inr g) h = side_bounds-suffice m result_variable.place pivots side ray l g h.lacks

  -- an answer with side bounds isn't a limit hit
  bound-not_hit_limit : (d e : GuardFeasibility) (l : LocalBound) (t : LimitHit) → IsLocal m result_variable pivots d (HasBound l)
      → IsLocal m result_variable pivots e (HasHitLimit t) → ⊥
  bound-not_hit_limit d e l t (inl g) (inl h) = apart _ g.0 h.asked
  bound-not_hit_limit d e l t (inl g) (inr h) = apart _ g.0 h.asked
  bound-not_hit_limit d e l t (inr g) (inl h) =
      first-apart m result_variable.place pivots (cause_of t.cause) h.first (side_bounds-pass m result_variable.place pivots l g)
  bound-not_hit_limit d e l t (inr g) (inr h) =
      side_bounds-suffice m result_variable.place pivots h.lacks.0 h.lacks.1.0 l g h.lacks.1.1

  -- an unbounded answer isn't a limit hit
  unbounded-not_hit_limit : (d e : GuardFeasibility) (side : Side) (ray : List ℤ) (kept : ScaledPoint) (t : LimitHit)
      → IsSameEmptyAnswer d e → IsLocal m result_variable pivots d (IsUnboundedOn side ray kept)
      → IsLocal m result_variable pivots e (HasHitLimit t) → ⊥
  unbounded-not_hit_limit d e side ray kept t same g (inl h) =
      first-apart m result_variable.place pivots (cause_of t.cause) h.first (lacks-pass m result_variable.place pivots side ray g.lacks)
  unbounded-not_hit_limit d e side ray kept t same g (inr h) =
      not-both e kept t (sym (points-same d e same) ∙ g.point) h.limit_hit

  -- a limit hit isn't an unbounded answer
  hit_limit-not_unbounded : (d e : GuardFeasibility) (t : LimitHit) (side : Side) (ray : List ℤ) (kept : ScaledPoint)
      → IsSameEmptyAnswer d e → IsLocal m result_variable pivots d (HasHitLimit t)
      → IsLocal m result_variable pivots e (IsUnboundedOn side ray kept) → ⊥
  hit_limit-not_unbounded d e t side ray kept same (inl g) h =
      first-apart m result_variable.place pivots (cause_of t.cause) g.first (lacks-pass m result_variable.place pivots side ray h.lacks)
  hit_limit-not_unbounded d e t side ray kept same (inr g) h =
      not-both d kept t (points-same d e same ∙ h.point) g.limit_hit

  -- an unbounded answer, by its parts
  unbounded_on : Side → List ℤ → ScaledPoint → Local
  unbounded_on side ray kept = IsUnboundedOn side ray kept

  -- an unbounded answer is unique
  unbounded-once : (d e : GuardFeasibility) (a b : Side) (ray other : List ℤ) (kept point : ScaledPoint)
      → IsSameEmptyAnswer d e → IsLocal m result_variable pivots d (IsUnboundedOn a ray kept)
      → IsLocal m result_variable pivots e (IsUnboundedOn b other point) → IsUnboundedOn a ray kept ≡ IsUnboundedOn b other point
  unfolding unbounded_on
  unbounded-once d e a b ray other kept point same g h =
      let r = lacks-once m result_variable.place pivots a b ray other g.lacks h.lacks in
      ap (λ (s : Side). unbounded_on s ray kept) r.0
      ∙ (ap (λ (z : List ℤ). unbounded_on b z kept) r.1
      ∙ ap (λ (p : ScaledPoint). unbounded_on b other p)
      (some-point kept point (sym g.point ∙ (points-same d e same ∙ h.point))))

  -- a limit hit is unique
  hits_limit-once : (d e : GuardFeasibility) (t u : LimitHit) → IsSameEmptyAnswer d e → IsLocal m result_variable pivots d (HasHitLimit t)
      → IsLocal m result_variable pivots e (HasHitLimit u) → HasHitLimit t ≡ HasHitLimit u
  hits_limit-once d e t u same (inl g) (inl h) =
      ap HasHitLimit
      (limit_hit-same t u (g.question ∙ sym h.question)
      (first-once m result_variable.place pivots (cause_of t.cause) (cause_of u.cause) g.first h.first))
  hits_limit-once d e t u same (inl g) (inr h) =
      absurd (first-apart m result_variable.place pivots (cause_of t.cause) g.first
      (lacks-pass m result_variable.place pivots h.lacks.0 h.lacks.1.0 h.lacks.1.1))
  hits_limit-once d e t u same (inr g) (inl h) =
      absurd (first-apart m result_variable.place pivots (cause_of u.cause) h.first
      (lacks-pass m result_variable.place pivots g.lacks.0 g.lacks.1.0 g.lacks.1.1))
  hits_limit-once d e t u same (inr g) (inr h) =
      ap HasHitLimit (some-limit_hit t u (sym g.limit_hit ∙ (hits_limit-same d e same ∙ h.limit_hit)))

-- a place has one answer
pub locals-once : (m : Prepared) (result_variable : ResultVariable) (pivots : ℕ) (d e : GuardFeasibility) (x y : Local) → IsSameEmptyAnswer d e
    → IsLocal m result_variable pivots d x → IsLocal m result_variable pivots e y → x ≡ y
locals-once m result_variable pivots d e (HasBound l) (HasBound k) same g h = bounds-once m result_variable pivots d e l k g h
locals-once m result_variable pivots d e (HasBound l) (IsUnboundedOn side ray kept) same g h =
    absurd (bound-not_unbounded m result_variable pivots d e l side ray kept g h)
locals-once m result_variable pivots d e (HasBound l) (HasHitLimit t) same g h =
    absurd (bound-not_hit_limit m result_variable pivots d e l t g h)
locals-once m result_variable pivots d e (IsUnboundedOn side ray kept) (HasBound l) same g h =
    absurd (bound-not_unbounded m result_variable pivots e d l side ray kept h g)
locals-once m result_variable pivots d e (IsUnboundedOn a ray kept) (IsUnboundedOn b other point) same g h =
    unbounded-once m result_variable pivots d e a b ray other kept point same g h
locals-once m result_variable pivots d e (IsUnboundedOn side ray kept) (HasHitLimit t) same g h =
    absurd (unbounded-not_hit_limit m result_variable pivots d e side ray kept t same g h)
locals-once m result_variable pivots d e (HasHitLimit t) (HasBound l) same g h =
    absurd (bound-not_hit_limit m result_variable pivots e d l t h g)
locals-once m result_variable pivots d e (HasHitLimit t) (IsUnboundedOn side ray kept) same g h =
    absurd (hit_limit-not_unbounded m result_variable pivots d e t side ray kept same g h)
locals-once m result_variable pivots d e (HasHitLimit t) (HasHitLimit u) same g h = hits_limit-once m result_variable pivots d e t u same g h

-- for all places, there is one answer
pub locals-one : LocalAnswersAreOne
locals-one = record { each = locals-once }
