-- The answer for a place, from the results of its two sides.
use Rattle.std.proofs.Common.{◌≡◌, ℕ, ◌⊎◌, inl, inr, sym, ap, ◌∙◌, subst, List, true, false}
use Rattle.std.specs.Prelude.{ℤ}
use Rattle.simplex_core.specs.linear_forms.Causes.{cause_of}
use Rattle.guard_prep.specs.Prepared.{Prepared}
use Rattle.cert_types.specs.cert_rules.Nodes.{ResultVariable, SideBound, LocalBound}
use Rattle.cert_types.specs.cert_rules.AcceptsSizes.{Side, Up, Low}
use Rattle.cert_types.specs.declared.answer.GuardFeasibility.{GuardFeasibility}
use Rattle.cert_types.specs.declared.answer.Question.TheVariants as questions
use Rattle.cert_types.specs.declared.answer.LimitHit.{LimitHit}
use Rattle.local_size.specs.declared.search.SideAnswer.{SideAnswer}
use Rattle.local_size.specs.Asking.{side_outcome_of, IsUnboundedResult}
use Rattle.local_size.specs.LocalAnswers.{Local, HasBound, IsUnboundedOn, HasHitLimit, SideHasResult, PassesNone, LacksForm}
use Rattle.local_size.specs.LocalAnswers.{both_polynomial, IsLocal}
use Rattle.local_size.specs.Places.{is_polynomial_at}
use Rattle.local_size.specs.Sides.{SideOutcome, SideBoundFound, NoneFound, LimitPassed}

module _ (m : Prepared) (result_variable : ResultVariable) (pivots : ℕ) (empty : GuardFeasibility) where
  -- the update's own polynomial is the answer
  pub by-itself : (l : LocalBound) → is_polynomial_at m result_variable.place ≡ true → l ≡ both_polynomial
      → IsLocal m result_variable pivots empty (HasBound l)
  by-itself l e f = inl (e, f)

  module _ (no : is_polynomial_at m result_variable.place ≡ false) where
    -- if both sides have a side bound, these are the answer
    pub both-side_bounds : (l : LocalBound) → SideHasResult m result_variable.place pivots Up (SideBoundFound l.up)
        → SideHasResult m result_variable.place pivots Low (SideBoundFound l.low) → IsLocal m result_variable pivots empty (HasBound l)
    both-side_bounds l up low = inr (record { asked = no; up = up; low = low })

    -- if a side has no form, the answer is unbounded, or the limit hit of the feasibility question
    pub lacking : (side : Side) (ray : List ℤ) (a : Local) → LacksForm m result_variable.place pivots side ray
        → IsUnboundedResult side ray empty a → IsLocal m result_variable pivots empty a
    lacking side ray (HasBound l) lacks h = absurd h
    lacking side ray (IsUnboundedOn s r kept) lacks h = record {
      asked = no;
      lacks = subst (λ (t : Side). LacksForm m result_variable.place pivots t r) (sym h.0)
          (subst (LacksForm m result_variable.place pivots side) (sym h.1) lacks);
      point = h.2;
    }
    lacking side ray (HasHitLimit t) lacks h = inr (record { asked = no; lacks = (side, (ray, lacks)); limit_hit = h })

    -- if the upper side, or after it the lower side, exceeds a limit, the limit hit is the answer
    pub hit_limit-up : (t : LimitHit) → t.question ≡ questions.Local result_variable.rule result_variable.place
        → SideHasResult m result_variable.place pivots Up (LimitPassed (cause_of t.cause))
        → IsLocal m result_variable pivots empty (HasHitLimit t)
    hit_limit-up t e up = inl (record { asked = no; question = e; first = inl up })

    pub hit_limit-low : (t : LimitHit) → t.question ≡ questions.Local result_variable.rule result_variable.place → PassesNone m result_variable.place pivots Up
        → SideHasResult m result_variable.place pivots Low (LimitPassed (cause_of t.cause))
        → IsLocal m result_variable pivots empty (HasHitLimit t)
    hit_limit-low t e up low = inl (record { asked = no; question = e; first = inr (up, low) })

-- a side whose result is a side bound, or that there is no form, hits no limit
pub passes : {A B : Type 0} (m : Prepared) (place pivots : ℕ) (side : Side) (s : SideAnswer) (f : A → SideAnswer)
    (g : B → SideAnswer) (side_bound : A → SideBound) (ray : B → List ℤ) → ((a : A) → side_outcome_of (f a) ≡ SideBoundFound (side_bound a))
    → ((b : B) → side_outcome_of (g b) ≡ NoneFound (ray b)) → ((x : A) × (s ≡ f x)) ⊎ ((y : B) × (s ≡ g y))
    → SideHasResult m place pivots side (side_outcome_of s) → PassesNone m place pivots side
passes m place pivots side s f g side_bound ray e h (inl (x, is)) comes =
    inl (side_bound x, subst (λ (y : SideOutcome). SideHasResult m place pivots side y) (ap side_outcome_of is ∙ e x) comes)
passes m place pivots side s f g side_bound ray e h (inr (y, is)) comes =
    inr (ray y, subst (λ (z : SideOutcome). SideHasResult m place pivots side z) (ap side_outcome_of is ∙ h y) comes)
