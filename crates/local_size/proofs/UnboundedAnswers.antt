-- An unbounded answer has a ray of its side and a point, and no affine form bounds the side.
use Rattle.std.proofs.Common.{◌≡◌, ℕ, suc, ◌+◌, ◌<◌, ◌≤◌, ap, arith, sym, ◌∙◌, subst, List, [], length}
use Rattle.std.proofs.Common.{length-append, get_or, Some, None}
use Rattle.std.specs.Prelude.{ℤ, pos, nat_abs, ◌≤ℤ◌, ◌<ℤ◌}
use Rattle.std.specs.List.{All}
use Rattle.simplex_core.specs.linear_forms.Forms.{Form, at}
use Rattle.simplex_core.specs.linear_forms.Limits.{point_limit}
use Rattle.simplex_core.specs.linear_forms.Points.{IsPoint}
use Rattle.simplex_core.specs.linear_forms.Questions.{listed, line, program_of_question}
use Rattle.simplex_core.specs.linear_forms.RuleQuestions.{RuleForms}
use Rattle.simplex_core.proofs.linear_forms.ListLaws.{listed-is, length-listed}
use Rattle.simplex_core.proofs.linear_forms.SolutionLaws.{All-listed}
use Rattle.cert_types.specs.rule_forms.Kinds.{Kind, Affine}
use Rattle.cert_types.specs.rule_forms.Bounds.{HasNone, IsUnboundedRay}
use Rattle.cert_types.specs.rule_forms.Laws.{HasPoint}
use Rattle.cert_types.specs.rule_forms.Questions.{Fits}
use Rattle.cert_types.proofs.rule_forms.Rays.{dual-is-ray, unbounded-has-none}
use Rattle.cert_types.proofs.rule_forms.GoalForms.{group_of}
use Rattle.poly_terms.specs.model.Programs.{Program, Rule}
use Rattle.guard_prep.specs.its_model.Valid.{IsValid}
use Rattle.guard_prep.specs.Prepared.{Prepared, prepared}
use Rattle.cert_types.specs.cert_rules.Nodes.{ResultVariable}
use Rattle.cert_types.specs.cert_rules.Gaps.{ScaledPoint}
use Rattle.cert_types.specs.cert_rules.AcceptsSizes.{Side, Up, Low}
use Rattle.cert_types.specs.AnswerViews.{scaled_of}
use Rattle.cert_types.specs.declared.answer.GuardFeasibility.{GuardFeasibility}
use Rattle.cert_types.specs.declared.answer.GuardFeasibility.TheVariants as answers
use Rattle.rule_questions.specs.EmptyAnswers.{IsEmptyAnswer}
use Rattle.rule_questions.specs.RuleAnswers.{point_in}
use Rattle.rule_questions.proofs.Lists.{value-seen}
use Rattle.local_size.specs.Sides.{NoneFound, kind_program, HasResult, SearchHasResult}
use Rattle.local_size.specs.Places.{local_forms, value_on, is_nonlinear_at}
use Rattle.local_size.specs.LocalAnswers.{IsUnboundedOn, SideHasResult, LacksForm, IsLocal}
use Rattle.local_size.specs.LocalLaws.{IsResultVariableOf, UnboundedAnswersAreUnbounded}
use Rattle.local_size.proofs.Accepted.{fits}
use Rattle.local_size.proofs.KindsAsked.{last-asked, kinds-end}

-- the linear program has a row for each unknown, and one more
pub rows-are : (r : RuleForms) (w : Form) → (kind_program r w Affine).rows ≡ suc r.unknowns
unfolding program_of_question
rows-are r w =
    length-append (listed (suc r.unknowns) (line 0 (group_of r w Affine))) []
    ∙ (ap (λ (n : ℕ). n + 0) (length-listed (suc r.unknowns) (line 0 (group_of r w Affine)))
    ∙ (let e : suc r.unknowns + 0 ≡ suc r.unknowns = omega arith in e))

module _ (r : RuleForms) (w : Form) (fit : Fits r w) where
  -- the list of a ray's numbers is the ray
  ray-listed : (y : ℕ → ℤ) → IsUnboundedRay r.rows r.left w y → IsUnboundedRay r.rows r.left w (at (listed r.unknowns y))
  ray-listed y unbounded = record {
    ray = record {
      each = λ k g l. subst (λ (v : ℤ). pos 0 ≤ℤ v)
          (value-seen (get_or r.rows k g) r.unknowns y (at (listed r.unknowns y)) (pos 0) (fit.rows k g l) seen)
          (unbounded.ray.each k g l);
    };
    still = λ j l.
        sym (seen j (let n = fit.left in omega (arith, l, n))) ∙ unbounded.still j l;
    rises = subst (λ (v : ℤ). pos 0 <ℤ v) (value-seen w r.unknowns y (at (listed r.unknowns y)) (pos 0) fit.value seen)
        unbounded.rises;
  }
    where
      seen : (j : ℕ) → j < r.unknowns → y j ≡ at (listed r.unknowns y) j
      seen j l = sym (listed-is r.unknowns y j (pos 0) l)

  module _ (pivots : ℕ) (ray : List ℤ) (c : HasResult r w pivots Affine (NoneFound ray)) where
    pub ray-unbounded : IsUnboundedRay r.rows r.left w (at ray)
    ray-unbounded =
        subst (λ (xs : List ℤ). IsUnboundedRay r.rows r.left w (at xs)) (sym c.1.2)
        (ray-listed (at c.0) (dual-is-ray r w (at c.0) fit c.1.1.certified))

    pub ray-long : length ray ≡ r.unknowns
    ray-long = ap (λ (xs : List ℤ). length xs) c.1.2 ∙ length-listed r.unknowns (at c.0)

    pub ray-small : All (λ a. nat_abs a ≤ point_limit) ray
    ray-small =
        subst (λ (xs : List ℤ). All (λ a. nat_abs a ≤ point_limit) xs) (sym c.1.2)
        (All-listed (λ a. nat_abs a ≤ point_limit) r.unknowns (at c.0)
        (λ u l. c.1.1.within.each u (let e = c.1.1.rows in let f = rows-are r w in omega (arith, l, e, f))))

-- for a side without a form, the kind of any affine form was tried
pub affine-asked : (m : Prepared) (place pivots : ℕ) (side : Side) (ray : List ℤ)
    → SideHasResult m place pivots side (NoneFound ray)
    → HasResult (local_forms m) (value_on side m place) pivots Affine (NoneFound ray)
affine-asked m place pivots side ray h =
    let e = kinds-end (is_nonlinear_at m place) m.left place in
    last-asked (local_forms m) (value_on side m place) pivots e.0 Affine ray
    (subst (λ (ks : List Kind). SearchHasResult (local_forms m) (value_on side m place) pivots ks (NoneFound ray)) e.1 h)

-- the reported side lacks a form
pub side-lacks : (m : Prepared) (place pivots : ℕ) (side : Side) (ray : List ℤ) → LacksForm m place pivots side ray
    → SideHasResult m place pivots side (NoneFound ray)
side-lacks m place pivots Up ray h = h.0
side-lacks m place pivots Low ray h = h.1

-- the kept point of an answer is a point of the rows
pub kept-point : (m : Prepared) (rule pivots : ℕ) (empty : GuardFeasibility) (kept : ScaledPoint)
    → IsEmptyAnswer m rule pivots empty → point_in (Some empty) ≡ Some kept
    → IsPoint m.rows (at kept.parts) (pos kept.den)
kept-point m rule pivots (answers.Empty n) kept h e = absurd (none e)
  where
    none : None ≡ Some kept → ⊥
    none f = cc
kept-point m rule pivots (answers.Point z) kept h e =
    subst (λ (p : ScaledPoint). IsPoint m.rows (at p.parts) (pos p.den)) (some e) h.0.point
  where
    some : Some (scaled_of z) ≡ Some kept → scaled_of z ≡ kept
    some f = cc
kept-point m rule pivots (answers.OutOfLimits t) kept h e = absurd (none e)
  where
    none : None ≡ Some kept → ⊥
    none f = cc

module _ (p : Program) (r : Rule) (result_variable : ResultVariable) (pivots : ℕ) (valid : IsValid p) (is : IsResultVariableOf p result_variable r)
    (empty : GuardFeasibility) (side : Side) (ray : List ℤ) (kept : ScaledPoint)
    (h : IsLocal (prepared r) result_variable pivots empty (IsUnboundedOn side ray kept)) where
  abbrev m : Prepared
  m = prepared r

  -- the kind of any affine form was tried and has no form
  asked : HasResult (local_forms m) (value_on side m result_variable.place) pivots Affine (NoneFound ray)
  asked = affine-asked m result_variable.place pivots side ray (side-lacks m result_variable.place pivots side ray h.lacks)

  -- the answer's ray is a ray of the side
  pub ray-of_side : IsUnboundedRay m.rows m.left (value_on side m result_variable.place) (at ray)
  ray-of_side =
      ray-unbounded (local_forms m) (value_on side m result_variable.place) (fits p r result_variable pivots valid is side) pivots ray asked

  -- the numbers of the answer's ray are within the limit
  pub ray-limits : (length ray ≡ m.unknowns) × All (λ a. nat_abs a ≤ point_limit) ray
  ray-limits = (
    ray-long (local_forms m) (value_on side m result_variable.place) (fits p r result_variable pivots valid is side) pivots ray asked,
    ray-small (local_forms m) (value_on side m result_variable.place) (fits p r result_variable pivots valid is side) pivots ray asked,
  )

  module _ (known : IsEmptyAnswer m result_variable.rule pivots empty) where
    pub point-kept : IsPoint m.rows (at kept.parts) (pos kept.den)
    point-kept = kept-point m result_variable.rule pivots empty kept known h.point

    pub has-point : HasPoint m.rows
    has-point = record { z = at kept.parts; d = pos kept.den; point = point-kept }

    pub none-affine : HasNone m.rows m.left (value_on side m result_variable.place) Affine
    none-affine = unbounded-has-none m.rows m.left (value_on side m result_variable.place) (at ray) has-point ray-of_side

-- unbounded answers are right
pub unbounded-answers : UnboundedAnswersAreUnbounded
unbounded-answers = record {
  ray = λ p r result_variable pivots empty side ray kept valid is known h. (
    ray-of_side p r result_variable pivots valid is empty side ray kept h,
    point-kept p r result_variable pivots valid is empty side ray kept h known,
  );
  limits = λ p r result_variable pivots empty side ray kept valid is h. ray-limits p r result_variable pivots valid is empty side ray kept h;
  none = λ p r result_variable pivots empty side ray kept valid is known h. none-affine p r result_variable pivots valid is empty side ray
      kept h known;
}
