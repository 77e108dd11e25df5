-- The problem of a goal's question, as a builder makes it, and what its answers show.
use Rattle.std.proofs.Common.{◌≡◌, ℕ, ◌+◌, ◌<◌, ◌≤◌, ap, arith, sym, ◌∙◌, subst, List, [], ◌∷◌, length, map, Some}
use Rattle.std.specs.Prelude.{ℤ, nat_abs, slice_get}
use Rattle.std.specs.List.{All}
use Rattle.std.proofs.lemmas.List.{length-map}
use Rattle.std.proofs.lemmas.List.Elements.{All-nil, All-map}
use Rattle.poly_terms.specs.linear_forms.Forms.{Form, at}
use Rattle.poly_terms.specs.linear_forms.ProgramLaws.{Agree}
use Rattle.poly_terms.specs.linear_forms.Limits.{certificate_limit}
use Rattle.poly_terms.specs.linear_forms.Questions.{listed, program_of_question}
use Rattle.poly_terms.specs.linear_forms.declared.limit_cause.LimitCause.{LimitCause}
use Rattle.poly_terms.specs.declared.poly.Row.{Row}
use Rattle.poly_terms.specs.Views.{form_of}
use Rattle.farkas_cert.specs.declared.scaled.Scaled.{Scaled}
use Rattle.lp_builder.specs.simplex_core.declared.answers.Answer.{Answer}
use Rattle.lp_builder.specs.simplex_core.declared.answers.Answer.TheVariants.{Solution, Dual, OutOfLimits}
use Rattle.lp_builder.specs.simplex_core.declared.problem.Problem.{Problem}
use Rattle.lp_builder.specs.simplex_core.declared.scaling.Numerators.{Numerators}
use Rattle.lp_builder.specs.simplex_core.Problem.{program_of}
use Rattle.lp_builder.specs.simplex_core.HitsLimit.{IsWholeAnswer}
use Rattle.lp_builder.proofs.simplex_core.Agreement.{whole-answers-agree}
use Rattle.lp_builder.specs.declared.builder.Builder.{Builder}
use Rattle.lp_builder.specs.declared.description.Goal.{Goal}
use Rattle.lp_builder.specs.Builders.{Holds, IsBuilt}
use Rattle.lp_builder.specs.Descriptions.{group_of, question_of, IsWritable, AreWritable}
use Rattle.rule_questions.specs.Programs.{IsProblemOf}
use Rattle.location_facts.specs.Kept.{goal_question, goal_program, IsSolvedWithin}
use Rattle.location_facts.specs.Replies.{FollowsBy, IsRefuting}
use Rattle.location_facts.proofs.ProgramAnswers.{solved-by}
use Rattle.location_facts.proofs.GoalAnswers.{solution-long, solution-follows-by, dual-long, dual-against}

-- a group without goals can be written if its rows and the fixed form can
pub goal-writable : (k n : ℕ) (rows : List Row) (fixed : Row) → All (λ r. IsWritable n (form_of r)) rows
    → IsWritable n (form_of fixed) → AreWritable k n rows [] fixed
goal-writable k n rows fixed h g = record {
  listed = record { below = λ i x e. absurd (nowhere i x e); ascending = λ i j x y l e f. absurd (nowhere i x e) };
  each_row = h;
  each_goal = All-nil (λ (x : Goal). IsWritable n (form_of x.form));
  fixed_form = g;
}
  where
    nowhere : (i : ℕ) (x : Goal) → slice_get [] i ≡ Some x → ⊥
    nowhere i x e = cc

-- The linear program that the builder makes is that of the question.
pub goal-built : (k n : ℕ) (rows : List Row) (fixed : Row) (b : Builder) (p : Problem) → k ≡ 0
    → Holds b (group_of k n rows [] fixed ∷ []) → IsBuilt b [] p
    → IsProblemOf (goal_question n (map form_of rows) (form_of fixed)) p
goal-built k n rows fixed b p e holds built = record {
  proper = built.proper (group_of k n rows [] fixed ∷ []) holds;
  agrees = subst (λ (j : ℕ). Agree (program_of p)
      (program_of_question (question_of [] (group_of j n rows [] fixed ∷ [])))) e
      (built.agrees (group_of k n rows [] fixed ∷ []) holds);
}

-- rows that can be written have no coefficient past the unknowns
pub rows-fit : (n : ℕ) (rows : List Row) → All (λ r. IsWritable n (form_of r)) rows
    → All (λ f. length f.coefs ≤ n) (map form_of rows)
rows-fit n rows h = All-map (λ (f : Form). length f.coefs ≤ n) form_of rows (λ k d l. (h k d l).fits)

module _ (n : ℕ) (rows : List Row) (goal : Row) (writable : All (λ r. IsWritable n (form_of r)) rows)
    (fits : IsWritable n (form_of goal)) (pivots : ℕ) (problem : Problem)
    (of : IsProblemOf (goal_question n (map form_of rows) (form_of goal)) problem) where
  moved : (a : Answer) → IsWholeAnswer (program_of problem) pivots a
      → IsWholeAnswer (goal_program n (map form_of rows) (form_of goal)) pivots a
  moved a h =
      whole-answers-agree (program_of problem) (goal_program n (map form_of rows) (form_of goal)) pivots a of.agrees h

  -- a solution has multipliers for all rows
  pub goal-room : (s : Numerators) (ns : List ℤ) (k : ℕ) → IsWholeAnswer (program_of problem) pivots (Solution s)
      → ns ≡ s.numbers.items → k ≡ length rows → 0 + k ≤ length ns
  goal-room s ns k h e f =
      let l = solution-long n (map form_of rows) (form_of goal) (rows-fit n rows writable) fits.fits pivots
      s.numbers.items s.den (moved (Solution s) h) in
      omega (arith, l, ap (λ (xs : List ℤ). length xs) e, f, length-map rows form_of)

  -- the denominator of a solution is within the limit
  pub goal-den : (s : Numerators) → IsWholeAnswer (program_of problem) pivots (Solution s) → s.den ≤ certificate_limit
  goal-den s h = (moved (Solution s) h).den_within

  -- if the answer is a solution, the goal follows by its multipliers
  pub goal-follows : (s : Numerators) (ns : List ℤ) (k : ℕ) (ms : List ℕ) (times : ℕ)
      → IsWholeAnswer (program_of problem) pivots (Solution s) → ns ≡ s.numbers.items → k ≡ length rows
      → ms ≡ listed k (λ j. nat_abs (at ns (0 + j))) → times ≡ s.den
      → IsSolvedWithin pivots (goal_program n (map form_of rows) (form_of goal))
      × FollowsBy (map form_of rows) (form_of goal) ms times
  goal-follows s ns k ms times h e f g i = (
    (solved-by (goal_program n (map form_of rows) (form_of goal)) pivots (Solution s) (moved (Solution s) h)).0 tt,
    solution-follows-by n (map form_of rows) (form_of goal) (rows-fit n rows writable) fits.fits pivots
        s.numbers.items s.den (moved (Solution s) h) ms times
        (g ∙ (ap (λ (xs : List ℤ). listed k (λ j. nat_abs (at xs (0 + j)))) e
        ∙ ap (λ (m : ℕ). listed m (λ j. nat_abs (at s.numbers.items (0 + j))))
        (f ∙ sym (length-map rows form_of)))) i,
  )

  -- a dual has a numerator for each unknown, and a denominator
  pub against-room : (s : Numerators) (ns : List ℤ) → IsWholeAnswer (program_of problem) pivots (Dual s)
      → ns ≡ s.numbers.items → 0 + n < length ns
  against-room s ns h e =
      let l = dual-long n (map form_of rows) (form_of goal) (rows-fit n rows writable) fits.fits pivots
      s.numbers.items s.den (moved (Dual s) h) in
      omega (arith, l, ap (λ (xs : List ℤ). length xs) e)

  -- if the answer is a dual, it is a point or a ray that refutes the goal
  pub goal-fails : (s : Numerators) (ns : List ℤ) (z : Scaled) → IsWholeAnswer (program_of problem) pivots (Dual s)
      → ns ≡ s.numbers.items → z.parts.items ≡ listed n (λ u. at ns (0 + u)) → z.den ≡ nat_abs (at ns (0 + n))
      → (¬ IsSolvedWithin pivots (goal_program n (map form_of rows) (form_of goal)))
      × IsRefuting n (map form_of rows) (form_of goal) z.parts.items z.den
  goal-fails s ns z h e f g = (
    (solved-by (goal_program n (map form_of rows) (form_of goal)) pivots (Dual s) (moved (Dual s) h)).1,
    dual-against n (map form_of rows) (form_of goal) (rows-fit n rows writable) fits.fits pivots s.numbers.items s.den
        (moved (Dual s) h) z.parts.items z.den (f ∙ ap (λ (xs : List ℤ). listed n (λ u. at xs (0 + u))) e)
        (g ∙ ap (λ (xs : List ℤ). nat_abs (at xs (0 + n))) e),
  )

  -- a linear program that hits a limit isn't solved within the pivots
  pub goal-hits_limit : (c : LimitCause) → IsWholeAnswer (program_of problem) pivots (OutOfLimits c)
      → ¬ IsSolvedWithin pivots (goal_program n (map form_of rows) (form_of goal))
  goal-hits_limit c h =
      (solved-by (goal_program n (map form_of rows) (form_of goal)) pivots (OutOfLimits c) (moved (OutOfLimits c) h)).1
