-- Both side bounds of an answer are accepted.
use Rattle.std.proofs.Common.{ℕ, ◌-◌, ap, sym, ◌∙◌, subst, inl, inr, List, ◌∷◌, length, Option}
use Rattle.std.specs.Prelude.{ℤ, pos}
use Rattle.std.specs.List.{All}
use Rattle.std.proofs.lemmas.List.Elements.{All-head}
use Rattle.simplex_core.specs.linear_forms.Forms.{Form, at}
use Rattle.simplex_core.specs.linear_forms.Certificates.{Implies}
use Rattle.simplex_core.specs.linear_forms.Questions.{double}
use Rattle.simplex_core.specs.linear_forms.QuestionLaws.{after, parameters_of}
use Rattle.simplex_core.proofs.linear_forms.ListLaws.{All-front, All-behind}
use Rattle.cert_types.specs.rule_forms.Kinds.{Kind}
use Rattle.cert_types.specs.rule_forms.Questions.{question_of, IsKindOf, Fits}
use Rattle.cert_types.specs.rule_forms.Laws.{solved_form, solved_multipliers}
use Rattle.cert_types.proofs.rule_forms.Solutions.{solution-shows}
use Rattle.poly_terms.specs.model.Programs.{Program, Rule, rule_at}
use Rattle.guard_prep.specs.its_model.Valid.{IsValid}
use Rattle.guard_prep.specs.Prepared.{Prepared, prepared, rows_of}
use Rattle.guard_prep.proofs.StepLaws.{preparable}
use Rattle.cert_types.specs.cert_rules.Nodes.{ResultVariable, SideBound, LocalBound}
use Rattle.cert_types.specs.cert_rules.AcceptsSizes.{HasLinearShape, HasSideBoundShape, HasMemberShape, left_in, left_of}
use Rattle.cert_types.specs.cert_rules.AcceptsSizes.{Side, Up, Low}
use Rattle.cert_types.specs.cert_rules.AcceptsSizes.{side_bound_goal, AcceptsSideBound}
use Rattle.cert_types.specs.cert_rules.Combined.{form_at}
use Rattle.cert_types.specs.cert_program.Setting.{rows_in, new_values_in, setting_of}
use Rattle.cert_types.specs.declared.answer.GuardFeasibility.{GuardFeasibility}
use Rattle.rule_questions.proofs.EmptyLaws.{prepared-shaped}
use Rattle.local_size.specs.Sides.{SideBoundFound, kind_program, HasResult}
use Rattle.local_size.specs.Places.{local_forms, value_on, is_nonlinear_at, kinds_of}
use Rattle.local_size.specs.LocalAnswers.{HasBound, SideHasResult, IsLocal}
use Rattle.local_size.specs.LocalLaws.{IsResultVariableOf, LocalBoundsAreAccepted}
use Rattle.local_size.proofs.Columns.{form-long, form-small, parameter-small, multipliers-small, multipliers-long}
use Rattle.local_size.proofs.Polynomials.{polynomial-accepted}
use Rattle.local_size.proofs.KindsAsked.{Found, found, kinds-fit}
use Rattle.local_size.proofs.NewValues.{value-fits, goal-is}
pub use Rattle.rule_questions.proofs.EmptyLaws.{at-least-one}

-- the kind of a found side bound is one of the rule's
pub found-fits : (m : Prepared) (place pivots : ℕ) (side : Side) (side_bound : SideBound)
    (f : Found (local_forms m) (value_on side m place) pivots (kinds_of m place) side_bound)
    → All (IsKindOf m.left) (f.before) × IsKindOf m.left f.kind
found-fits m place pivots side side_bound f =
    let all = subst (λ (ks : List Kind). All (IsKindOf m.left) ks) f.order
    (kinds-fit (is_nonlinear_at m place) m.left place) in (
      All-front (IsKindOf m.left) f.before (f.kind ∷ f.behind) all,
      All-head (IsKindOf m.left) f.kind f.behind (All-behind (IsKindOf m.left) f.before (f.kind ∷ f.behind) all),
    )

module _ (p : Program) (r : Rule) (result_variable : ResultVariable) (pivots : ℕ) (valid : IsValid p) (is : IsResultVariableOf p result_variable r) where
  abbrev m : Prepared
  m = prepared r

  -- the forms of the rule that the questions use have no coefficient past their unknowns
  pub fits : (side : Side) → Fits (local_forms m) (value_on side m result_variable.place)
  fits side = value-fits m (prepared-shaped 0 0 r (preparable p result_variable.rule r valid is.numbered)) side result_variable.place

  module _ (side : Side) (kind : Kind) (side_bound : SideBound)
      (c : HasResult (local_forms m) (value_on side m result_variable.place) pivots kind (SideBoundFound side_bound)) where
    abbrev column : ℕ → ℤ
    column = at c.0

    abbrev den : ℕ
    den = c.1.0

    abbrev form : Form
    form = solved_form (local_forms m) kind column (pos den)

    abbrev multipliers : List ℕ
    multipliers = solved_multipliers (local_forms m) (value_on side m result_variable.place) kind column

    -- the numbers of the side bound are within the limits
    linear-shaped : HasLinearShape (setting_of p) result_variable.rule (left_of p result_variable.rule) den form multipliers
    linear-shaped = record {
      over = at-least-one den c.1.1.solution.denominator;
      den_limit = c.1.1.den_within;
      long = form-long r.left kind (parameters_of column) (pos den)
          ∙ sym (ap (λ (o : Option Rule). left_in o) is.numbered);
      limit = form-small r.left kind (parameters_of column) den
          (parameter-small (kind_program (local_forms m) (value_on side m result_variable.place) kind) pivots c.0 den c.1.1)
          c.1.1.den_within;
      one_each = record {
        long = multipliers-long (rows_of r) (after (double
            (question_of (local_forms m) (value_on side m result_variable.place) kind).parameters) column)
            ∙ sym (ap (λ (o : Option Rule). length (rows_in o)) is.numbered);
        limit = multipliers-small (kind_program (local_forms m) (value_on side m result_variable.place) kind) pivots c.0 den c.1.1
            (double (question_of (local_forms m) (value_on side m result_variable.place) kind).parameters) (rows_of r);
      };
    }

    pub side_bound-shaped : HasSideBoundShape (setting_of p) result_variable.rule (left_of p result_variable.rule) side_bound
    side_bound-shaped =
        subst (λ (a : SideBound). HasSideBoundShape (setting_of p) result_variable.rule (left_of p result_variable.rule) a) (sym c.1.2) linear-shaped

    -- the rows imply the side bound
    implied : IsKindOf r.left kind → Implies (rows_in (rule_at p result_variable.rule)) multipliers
        (side_bound_goal side den form (form_at (new_values_in (rule_at p result_variable.rule)) (result_variable.place - 1)))
    implied k =
        subst (λ (o : Option Rule). Implies (rows_in o) multipliers
        (side_bound_goal side den form (form_at (new_values_in o) (result_variable.place - 1)))) (sym is.numbered)
        (subst (λ (g : Form). Implies (rows_of r) multipliers g) (goal-is m side den result_variable.place form is.is_result_variable.least)
        (solution-shows (local_forms m) (value_on side m result_variable.place) kind column (pos den) (fits side) k
        c.1.1.solution))

    pub side_bound-accepted : IsKindOf r.left kind → AcceptsSideBound (setting_of p) result_variable side side_bound
    side_bound-accepted k = subst (λ (a : SideBound). AcceptsSideBound (setting_of p) result_variable side a) (sym c.1.2) (implied k)

  -- a side bound that is the result of a side has the right shape
  side-shaped : (side : Side) (side_bound : SideBound) → SideHasResult m result_variable.place pivots side (SideBoundFound side_bound)
      → HasSideBoundShape (setting_of p) result_variable.rule (left_of p result_variable.rule) side_bound
  side-shaped side side_bound h =
      let f = found (local_forms m) (value_on side m result_variable.place) pivots (kinds_of m result_variable.place) side_bound h in
      side_bound-shaped side f.kind side_bound f.comes

  -- a side bound that is the result of a side is accepted
  side-accepted : (side : Side) (side_bound : SideBound) → SideHasResult m result_variable.place pivots side (SideBoundFound side_bound)
      → AcceptsSideBound (setting_of p) result_variable side side_bound
  side-accepted side side_bound h =
      let f = found (local_forms m) (value_on side m result_variable.place) pivots (kinds_of m result_variable.place) side_bound h in
      side_bound-accepted side f.kind side_bound f.comes (found-fits m result_variable.place pivots side side_bound f).1

  -- both side bounds of an answer
  module _ (empty : GuardFeasibility) where
    pub bound-shaped : (l : LocalBound) → IsLocal m result_variable pivots empty (HasBound l)
        → HasMemberShape (setting_of p) (record { result_variable = result_variable; local = l })
    bound-shaped l (inl h) = record {
      at = is.is_result_variable;
      up = subst (λ (a : SideBound). HasSideBoundShape (setting_of p) result_variable.rule (left_of p result_variable.rule) a)
          (sym (ap (λ (k : LocalBound). k.up) h.1)) tt;
      low = subst (λ (a : SideBound). HasSideBoundShape (setting_of p) result_variable.rule (left_of p result_variable.rule) a)
          (sym (ap (λ (k : LocalBound). k.low) h.1)) tt;
    }
    bound-shaped l (inr h) = record {
      at = is.is_result_variable;
      up = side-shaped Up l.up h.up;
      low = side-shaped Low l.low h.low;
    }

    pub up-accepted : (l : LocalBound) → IsLocal m result_variable pivots empty (HasBound l)
        → AcceptsSideBound (setting_of p) result_variable Up l.up
    up-accepted l (inl h) =
        subst (λ (a : SideBound). AcceptsSideBound (setting_of p) result_variable Up a) (sym (ap (λ (k : LocalBound). k.up) h.1))
        (polynomial-accepted p r result_variable is.numbered h.0)
    up-accepted l (inr h) = side-accepted Up l.up h.up

    pub low-accepted : (l : LocalBound) → IsLocal m result_variable pivots empty (HasBound l)
        → AcceptsSideBound (setting_of p) result_variable Low l.low
    low-accepted l (inl h) =
        subst (λ (a : SideBound). AcceptsSideBound (setting_of p) result_variable Low a) (sym (ap (λ (k : LocalBound). k.low) h.1))
        (polynomial-accepted p r result_variable is.numbered h.0)
    low-accepted l (inr h) = side-accepted Low l.low h.low

-- both side bounds of each answer are accepted
pub bounds-accepted : LocalBoundsAreAccepted
bounds-accepted = record {
  shape = λ p r result_variable pivots empty l valid is h. bound-shaped p r result_variable pivots valid is empty l h;
  up = λ p r result_variable pivots empty l valid is h. up-accepted p r result_variable pivots valid is empty l h;
  low = λ p r result_variable pivots empty l valid is h. low-accepted p r result_variable pivots valid is empty l h;
}
