-- If the rule has a point, each side bound is the first one of its side.
use Rattle.std.proofs.Common.{◌≡◌, ℕ, ap, sym, subst, inl, inr, false, List, get_or}
use Rattle.std.specs.Prelude.{pos}
use Rattle.std.specs.List.{All}
use Rattle.simplex_core.specs.linear_forms.Forms.{Form, at}
use Rattle.simplex_core.specs.linear_forms.QuestionLaws.{parameters_of}
use Rattle.cert_types.specs.rule_forms.Kinds.{Kind, IsOfKind}
use Rattle.cert_types.specs.rule_forms.Bounds.{IsAbove, HasNone}
use Rattle.cert_types.specs.rule_forms.Laws.{HasPoint, solved_form, solved_multipliers}
use Rattle.cert_types.specs.rule_forms.Questions.{IsKindOf}
use Rattle.cert_types.proofs.rule_forms.Exclusion.{dual-excludes}
use Rattle.cert_types.proofs.rule_forms.Solutions.{solution-shows, form-of_kind, implied-above}
use Rattle.cert_types.proofs.rule_forms.Weights.{least-is-least}
use Rattle.poly_terms.specs.model.Programs.{Program, Rule}
use Rattle.guard_prep.specs.its_model.Valid.{IsValid}
use Rattle.guard_prep.specs.Prepared.{Prepared, prepared}
use Rattle.cert_types.specs.cert_rules.Nodes.{ResultVariable, SideBound, LocalBound}
use Rattle.cert_types.specs.cert_rules.AcceptsSizes.{Side, Up, Low}
use Rattle.cert_types.specs.declared.answer.GuardFeasibility.{GuardFeasibility}
use Rattle.local_size.specs.Sides.{SideBoundFound, HasResult}
use Rattle.local_size.specs.Places.{local_forms, value_on, is_polynomial_at, kinds_of}
use Rattle.local_size.specs.LocalAnswers.{HasBound, SideHasResult, IsLocal}
use Rattle.local_size.specs.LocalLaws.{IsResultVariableOf, IsFirstSideBound, LocalBoundsAreFirst}
use Rattle.local_size.proofs.Accepted.{at-least-one, fits, found-fits}
use Rattle.local_size.proofs.KindsAsked.{HasDual, Found, found}
pub use Rattle.std.proofs.lemmas.Bool.{both_ways as fails}

module _ (p : Program) (r : Rule) (result_variable : ResultVariable) (pivots : ℕ) (valid : IsValid p) (is : IsResultVariableOf p result_variable r)
    (side : Side) where
  abbrev m : Prepared
  m = prepared r

  -- the value on this side
  abbrev w : Form
  w = value_on side m result_variable.place

  -- the form of a found side bound is of its kind, and at least the value
  module _ (kind : Kind) (side_bound : SideBound) (k : IsKindOf m.left kind)
      (c : HasResult (local_forms m) w pivots kind (SideBoundFound side_bound))
    where
      abbrev form : Form
      form = solved_form (local_forms m) kind (at c.0) (pos c.1.0)

      pub side_bound-of_kind : IsOfKind m.left kind form c.1.0
      side_bound-of_kind = form-of_kind m.left kind (parameters_of (at c.0)) (pos c.1.0) k c.1.1.solution.denominator

      pub side_bound-above : IsAbove m.rows w form c.1.0
      side_bound-above =
          implied-above m.rows (solved_multipliers (local_forms m) w kind (at c.0)) w form c.1.0
          (solution-shows (local_forms m) w kind (at c.0) (pos c.1.0) (fits p r result_variable pivots valid is side) k
          c.1.1.solution)

  module _ (point : HasPoint m.rows) where
    -- no earlier kind has a form
    none-before : (before : List Kind) → All (IsKindOf m.left) before → All (HasDual (local_forms m) w pivots) before
        → All (HasNone m.rows m.left w) before
    none-before before k duals i d l =
        let dual = duals i d l in
        dual-excludes (local_forms m) w (get_or before i d) (at dual.1.0) (fits p r result_variable pivots valid is side) (k i d l)
        point dual.1.1.1.certified

    pub side_bound-first : (side_bound : SideBound) → SideHasResult m result_variable.place pivots side (SideBoundFound side_bound)
        → is_polynomial_at m result_variable.place ≡ false → IsFirstSideBound m result_variable.place side side_bound
    side_bound-first side_bound h straight =
        subst (λ (a : SideBound). IsFirstSideBound m result_variable.place side a) (sym f.comes.1.2) (
          fails (is_polynomial_at m result_variable.place) straight,
          record {
            kind = f.kind;
            before = f.before;
            behind = f.behind;
            order = f.order;
            none = none-before f.before k.0 f.none;
            positive = at-least-one f.comes.1.0 f.comes.1.1.solution.denominator;
            of_kind = side_bound-of_kind f.kind side_bound k.1 f.comes;
            above = side_bound-above f.kind side_bound k.1 f.comes;
            least = least-is-least (local_forms m) w f.kind (at f.comes.0) (pos f.comes.1.0)
                (fits p r result_variable pivots valid is side) k.1 point f.comes.1.1.solution f.comes.1.1.least;
          },
        )
      where
        f : Found (local_forms m) w pivots (kinds_of m result_variable.place) side_bound
        f = found (local_forms m) w pivots (kinds_of m result_variable.place) side_bound h

        k : All (IsKindOf m.left) f.before × IsKindOf m.left f.kind
        k = found-fits m result_variable.place pivots side side_bound f

-- both side bounds of an answer are the first ones
bounds-first : (p : Program) (r : Rule) (result_variable : ResultVariable) (pivots : ℕ) (empty : GuardFeasibility) (l : LocalBound) → IsValid p
    → IsResultVariableOf p result_variable r → IsLocal (prepared r) result_variable pivots empty (HasBound l) → HasPoint (prepared r).rows
    → IsFirstSideBound (prepared r) result_variable.place Up l.up × IsFirstSideBound (prepared r) result_variable.place Low l.low
bounds-first p r result_variable pivots empty l valid is (inl h) point = (
  subst (λ (a : SideBound). IsFirstSideBound (prepared r) result_variable.place Up a) (sym (ap (λ (k : LocalBound). k.up) h.1)) h.0,
  subst (λ (a : SideBound). IsFirstSideBound (prepared r) result_variable.place Low a) (sym (ap (λ (k : LocalBound). k.low) h.1)) h.0,
)
bounds-first p r result_variable pivots empty l valid is (inr h) point = (
  side_bound-first p r result_variable pivots valid is Up point l.up h.up h.asked,
  side_bound-first p r result_variable pivots valid is Low point l.low h.low h.asked,
)

-- each side bound is the first one of its side
pub bounds-are-first : LocalBoundsAreFirst
bounds-are-first = record {
  each = λ r result_variable pivots empty l p valid is h point. bounds-first p r result_variable pivots empty l valid is h point;
}
