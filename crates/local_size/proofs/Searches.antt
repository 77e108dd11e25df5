-- From the solver's answers to a kind's question to the results for a side.
use Rattle.simplex_core.specs.linear_forms.declared.limit_cause.LimitCause.{LimitCause}
use Rattle.std.proofs.Common.{◌≡◌, ℕ, ◌+◌, ◌*◌, ◌<◌, ◌≤◌, inl, inr, refl, sym, ap, ◌∙◌, subst, arith, List, [], ◌∷◌}
use Rattle.std.proofs.Common.{map}
use Rattle.std.proofs.Common.{length}
use Rattle.std.specs.Prelude.{ℤ, pos, nat_abs}
use Rattle.simplex_core.specs.linear_forms.Causes.{Cause, cause_of}
use Rattle.simplex_core.specs.linear_forms.Forms.{Form, at}
use Rattle.simplex_core.specs.linear_forms.Questions.{listed}
use Rattle.simplex_core.specs.linear_forms.QuestionLaws.{parameters_of}
use Rattle.simplex_core.specs.linear_forms.RuleQuestions.{RuleForms}
use Rattle.cert_types.specs.rule_forms.Kinds as plain
use Rattle.cert_types.specs.rule_forms.Questions.{question_of, form_of}
use Rattle.cert_types.specs.rule_forms.SoughtParts.{sought_places}
use Rattle.guard_prep.specs.Prepared.{Prepared}
use Rattle.cert_types.specs.cert_rules.AcceptsSizes.{Side}
use Rattle.simplex_core.specs.declared.problem.Problem.{Problem}
use Rattle.simplex_core.specs.declared.scaling.Numerators.{Numerators}
use Rattle.simplex_core.specs.declared.answers.Answer.{Answer}
use Rattle.simplex_core.specs.declared.answers.Answer.TheVariants.{Solution, Dual, OutOfLimits}
use Rattle.simplex_core.specs.Problem.{program_of}
use Rattle.simplex_core.specs.HitsLimit.{HitsLimit, IsWholeAnswer}
use Rattle.simplex_core.proofs.Agreement.{whole-answers-agree}
use Rattle.cert_types.specs.cert_rules.Nodes.{SideBound, Linear}
use Rattle.rule_questions.specs.Programs.{IsProblemOf}
use Rattle.rule_questions.proofs.Lists.{listed-agree}
use Rattle.local_size.specs.declared.kinds.Kind.{Kind}
use Rattle.local_size.specs.Asking.{kind_of}
use Rattle.local_size.specs.LocalAnswers.{SideHasResult}
use Rattle.local_size.specs.Places.{local_forms, value_on, kinds_of}
use Rattle.local_size.specs.Sides.{SideOutcome, SideBoundFound, NoneFound, LimitPassed, kind_program, HasResult, IsEnd}
use Rattle.local_size.specs.Sides.{SearchHasResult}
use Rattle.local_size.proofs.Readings as readings

module _ (r : RuleForms) (w : Form) (kind : plain.Kind) (pivots : ℕ) (problem : Problem)
    (of : IsProblemOf (question_of r w kind) problem) where
  moved : (a : Answer) → IsWholeAnswer (program_of problem) pivots a → IsWholeAnswer (kind_program r w kind) pivots a
  moved a h = whole-answers-agree (program_of problem) (kind_program r w kind) pivots a of.agrees h

  -- the numbers of a solution suffice for a side bound
  pub solution-room : (s : Numerators) (rows : ℕ) → IsWholeAnswer (program_of problem) pivots (Solution s)
      → rows ≡ length r.rows
      → 2 * length (sought_places r.left kind) + rows ≤ length s.numbers.items
  solution-room s rows h e =
      let l = readings.solution-room r w kind pivots s.numbers.items s.den (moved (Solution s) h)
      in omega (arith, l, e)

  -- if the solver gives a solution, the question's result is its side bound
  pub side_bound-found : (s : Numerators) (rows : ℕ) (side_bound : SideBound) → IsWholeAnswer (program_of problem) pivots (Solution s)
      → rows ≡ length r.rows
      → side_bound ≡ Linear s.den (form_of r.left kind (parameters_of (at s.numbers.items)) (pos s.den))
      (listed rows (λ j. nat_abs (at s.numbers.items (2 * length (sought_places r.left kind) + j))))
      → HasResult r w pivots kind (SideBoundFound side_bound)
  side_bound-found s rows side_bound h e f =
      (s.numbers.items, (s.den, moved (Solution s) h, f ∙ readings.solved-is r w kind s.numbers.items s.den rows e))

  -- the numbers of a dual suffice for a ray
  pub dual-room : (s : Numerators) (ns : List ℤ) → IsWholeAnswer (program_of problem) pivots (Dual s)
      → ns ≡ s.numbers.items → 0 + r.unknowns < length ns
  dual-room s ns h e =
      let l = readings.dual-room r w kind pivots s.numbers.items s.den (moved (Dual s) h) in
      let f = ap (λ (xs : List ℤ). length xs) e in omega (arith, l, f)

  -- if the solver gives a dual, the question's result is that there is no form, with the ray that is read off the dual
  pub none-found : (s : Numerators) (ns ray : List ℤ) → IsWholeAnswer (program_of problem) pivots (Dual s)
      → ns ≡ s.numbers.items → ray ≡ listed r.unknowns (λ u. at ns (0 + u)) → HasResult r w pivots kind (NoneFound ray)
  none-found s ns ray h e f = (
    s.numbers.items,
    (
      s.den,
      moved (Dual s) h,
      f ∙ (ap (λ (xs : List ℤ). listed r.unknowns (λ u. at xs (0 + u))) e
          ∙ listed-agree r.unknowns _ _ (λ j. ap (at s.numbers.items) (let z : 0 + j ≡ j = omega arith in z))),
    ),
  )

  -- if the solver hits a limit, the question's result is that limit
  pub limit-passed : (c : LimitCause) (cause : Cause) → IsWholeAnswer (program_of problem) pivots (OutOfLimits c)
      → cause ≡ cause_of c → HasResult r w pivots kind (LimitPassed cause)
  limit-passed c cause h e = subst (λ (k : Cause). HitsLimit (kind_program r w kind) pivots k) (sym e) (moved (OutOfLimits c) h)

module _ (r : RuleForms) (w : Form) (pivots : ℕ) where
  -- the last kind decides
  pub search-last : (kinds others : List Kind) (kind : Kind) (x : SideOutcome) → kinds ≡ kind ∷ others → others ≡ []
      → HasResult r w pivots (kind_of kind) x → SearchHasResult r w pivots (map kind_of kinds) x
  search-last kinds others kind x e f h =
      subst (λ (ks : List Kind). SearchHasResult r w pivots (map kind_of ks) x)
      (sym (e ∙ ap (λ (ks : List Kind). kind ∷ ks) f)) h

  -- the first kind decides if it ends the search
  pub search-ended : (kinds others : List Kind) (kind : Kind) (x : SideOutcome) → kinds ≡ kind ∷ others → IsEnd x
      → HasResult r w pivots (kind_of kind) x → SearchHasResult r w pivots (map kind_of kinds) x
  search-ended kinds others kind x e end h =
      subst (λ (ks : List Kind). SearchHasResult r w pivots (map kind_of ks) x) (sym e) (go others)
    where
      go : (others : List Kind) → SearchHasResult r w pivots (map kind_of (kind ∷ others)) x
      go [] = h
      go (next ∷ rest) = inl (end, h)

  -- the others decide if the first kind has no form
  pub search-on : (kinds others : List Kind) (kind : Kind) (ray : List ℤ) (x : SideOutcome) → kinds ≡ kind ∷ others
      → ¬ (others ≡ []) → HasResult r w pivots (kind_of kind) (NoneFound ray)
      → SearchHasResult r w pivots (map kind_of others) x → SearchHasResult r w pivots (map kind_of kinds) x
  search-on kinds others kind ray x e some h rest =
      subst (λ (ks : List Kind). SearchHasResult r w pivots (map kind_of ks) x) (sym e) (go others some rest)
    where
      go : (others : List Kind) → ¬ (others ≡ []) → SearchHasResult r w pivots (map kind_of others) x
          → SearchHasResult r w pivots (map kind_of (kind ∷ others)) x
      go [] some rest = absurd (some refl)
      go (next ∷ behind) some rest = inr ((ray, h), rest)

-- the result of trying the kinds for a side is the side's result
pub side-comes : (m : Prepared) (place pivots : ℕ) (side : Side) (w : Form) (kinds : List Kind) (x : SideOutcome)
    → w ≡ value_on side m place → map kind_of kinds ≡ kinds_of m place
    → SearchHasResult (local_forms m) w pivots (map kind_of kinds) x → SideHasResult m place pivots side x
side-comes m place pivots side w kinds x e f h =
    subst (λ (ks : List plain.Kind). SearchHasResult (local_forms m) (value_on side m place) pivots ks x) f
    (subst (λ (v : Form). SearchHasResult (local_forms m) v pivots (map kind_of kinds) x) e h)
