-- The answer that is built from the solver's answer to a feasibility question.
use Rattle.std.proofs.Common.{◌≡◌, ℕ, ◌+◌, ◌<◌, ◌≤◌, ap, arith, refl, sym, ◌∙◌, subst, List, length}
use Rattle.std.specs.Prelude.{ℤ, pos, negsuc, nat_abs, ◌≤ℤ◌}
use Rattle.std.proofs.lemmas.Int.{ints}
use Rattle.simplex_core.specs.linear_forms.Causes.{Cause, cause_of}
use Rattle.std.specs.List.{All}
use Rattle.simplex_core.specs.linear_forms.Certificates.{Implies, minus_one}
use Rattle.simplex_core.specs.linear_forms.Forms.{at}
use Rattle.simplex_core.specs.linear_forms.Limits.{certificate_limit}
use Rattle.simplex_core.specs.linear_forms.Questions.{listed}
use Rattle.simplex_core.specs.linear_forms.RuleQuestions.{empty_question}
use Rattle.simplex_core.specs.linear_forms.RuleQuestionLaws.{IsRuleShaped}
use Rattle.simplex_core.proofs.linear_forms.SolutionLaws.{length-map}
use Rattle.poly_terms.specs.Views.{form_of}
use Rattle.farkas_cert.specs.declared.scaled.Scaled.{Scaled}
use Rattle.guard_prep.specs.declared.rule_rows.RuleRows.{RuleRows}
use Rattle.guard_prep.specs.Prepared.{Prepared}
use Rattle.guard_prep.specs.Views.{prepared_of}
use Rattle.simplex_core.specs.declared.problem.Problem.{Problem}
use Rattle.simplex_core.specs.declared.scaling.Numerators.{Numerators}
use Rattle.simplex_core.specs.declared.answers.Answer.{Answer}
use Rattle.simplex_core.specs.declared.answers.Answer.TheVariants.{Solution, Dual, OutOfLimits}
use Rattle.simplex_core.specs.linear_forms.declared.limit_cause.LimitCause.{LimitCause}
use Rattle.simplex_core.specs.Problem.{program_of}
use Rattle.simplex_core.specs.HitsLimit.{HitsLimit, IsWholeAnswer}
use Rattle.simplex_core.proofs.Agreement.{whole-answers-agree}
use Rattle.cert_types.specs.declared.proof.EmptyNode.{EmptyNode}
use Rattle.cert_types.specs.declared.answer.LimitHit.{LimitHit}
use Rattle.cert_types.specs.declared.answer.Question.TheVariants as asked
use Rattle.cert_types.specs.declared.answer.GuardFeasibility.TheVariants as answers
use Rattle.rule_questions.specs.EmptyAnswers.{IsPrepared, IsEmptyAnswer, empty_program}
use Rattle.rule_questions.specs.ProgramQuestions.{forms_of}
use Rattle.rule_questions.specs.Programs.{IsProblemOf}
use Rattle.rule_questions.proofs.Lists.{listed-agree}
use Rattle.rule_questions.proofs.HitsLimit.{solution-hits_no_limit, dual-hits_no_limit}
use Rattle.rule_questions.proofs.EmptyLaws.{prepared-shaped, solution-long, solution-shows, solution-limit, dual-long}
use Rattle.rule_questions.proofs.EmptyLaws.{dual-nonneg, dual-point}

module _ (m : RuleRows) (is : IsPrepared m) (pivots : ℕ) (problem : Problem)
    (of : IsProblemOf (empty_question (forms_of 0 0 (prepared_of m))) problem) where
  shaped : IsRuleShaped (forms_of 0 0 (prepared_of m))
  shaped = subst (λ (q : Prepared). IsRuleShaped (forms_of 0 0 q)) (sym is.same)
      (prepared-shaped 0 0 is.rule is.preparable)

  moved : (a : Answer) → IsWholeAnswer (program_of problem) pivots a → IsWholeAnswer
      (empty_program (prepared_of m)) pivots a
  moved a h = whole-answers-agree (program_of problem) (empty_program (prepared_of m)) pivots a of.agrees h

  none : (j : ℕ) → 0 + j ≡ j
  none j = omega arith

  many : length (prepared_of m).rows ≡ length m.rows.items
  many = length-map form_of m.rows.items

  -- a solution has multipliers for all rows
  pub solution-room : (s : Numerators) (ns : List ℤ) → IsWholeAnswer (program_of problem) pivots (Solution s) → ns
      ≡ s.numbers.items
      → 0 + length m.rows.items ≤ length ns
  solution-room s ns h e =
      let l = solution-long (prepared_of m) shaped pivots s.numbers.items s.den (moved (Solution s) h) in
      let f = ap (λ (xs : List ℤ). length xs) e in
      let n = many in omega (arith, l, f, n)

  -- the node with these multipliers is the answer
  pub solution-answer : (s : Numerators) (ns : List ℤ) (rule : ℕ) (n : EmptyNode) → IsWholeAnswer
      (program_of problem) pivots (Solution s)
      → ns ≡ s.numbers.items → n.rule ≡ rule
      → n.multipliers.items ≡ listed (length m.rows.items) (λ j. nat_abs (at ns (0 + j)))
      → IsEmptyAnswer (prepared_of m) rule pivots (answers.Empty n)
  solution-answer s ns rule n h e f g = (
    record {
      numbered = f;
      limit = subst (λ (ms : List ℕ). All (λ k. k ≤ certificate_limit) ms) (sym all)
          (solution-limit (prepared_of m) shaped pivots s.numbers.items s.den (moved (Solution s) h));
      shows = subst (λ (ms : List ℕ). Implies (prepared_of m).rows ms minus_one) (sym all)
          (solution-shows (prepared_of m) shaped pivots s.numbers.items s.den (moved (Solution s) h));
    },
    solution-hits_no_limit (empty_program (prepared_of m)) pivots s (moved (Solution s) h),
    record {
      numbers = s.numbers.items;
      den = s.den;
      solution = moved (Solution s) h;
      read = all ∙ listed-agree (length (prepared_of m).rows) _ _
          (λ j. ap (λ (k : ℕ). nat_abs (at s.numbers.items k)) (none j));
    },
  )
    where
      all : n.multipliers.items ≡ listed (length (prepared_of m).rows) (λ j. nat_abs (at s.numbers.items (0 + j)))
      all =
          g ∙ (ap (λ (xs : List ℤ). listed (length m.rows.items) (λ j. nat_abs (at xs (0 + j)))) e
          ∙ ap (λ (k : ℕ). listed k (λ j. nat_abs (at s.numbers.items (0 + j)))) (sym many))

  -- a dual has a numerator for each unknown, and a denominator
  pub dual-room : (s : Numerators) (ns : List ℤ) → IsWholeAnswer (program_of problem) pivots (Dual s)
      → ns ≡ s.numbers.items
      → 0 + m.unknowns < length ns
  dual-room s ns h e =
      let l = dual-long (prepared_of m) shaped pivots s.numbers.items s.den (moved (Dual s) h) in
      let f = ap (λ (xs : List ℤ). length xs) e in omega (arith, l, f)

  dual-denominator : (s : Numerators) (ns : List ℤ) → IsWholeAnswer (program_of problem) pivots (Dual s) → ns
      ≡ s.numbers.items
      → pos 0 ≤ℤ at ns (0 + m.unknowns)
  dual-denominator s ns h e =
      subst (λ (xs : List ℤ). pos 0 ≤ℤ at xs (0 + m.unknowns)) (sym e)
      (dual-nonneg (prepared_of m) shaped pivots s.numbers.items s.den (moved (Dual s) h))

  -- the point with these numbers is the answer
  pub dual-answer : (s : Numerators) (ns : List ℤ) (rule : ℕ) (z : Scaled) → IsWholeAnswer (program_of problem) pivots
      (Dual s)
      → ns ≡ s.numbers.items → z.parts.items ≡ listed m.unknowns (λ u. at ns (0 + u)) → z.den ≡ nat_abs
      (at ns (0 + m.unknowns))
      → IsEmptyAnswer (prepared_of m) rule pivots (answers.Point z)
  dual-answer s ns rule z h e f g = (
    dual-point (prepared_of m) shaped pivots s.numbers.items s.den (moved (Dual s) h) z.parts.items z.den
        (f ∙ ap (λ (xs : List ℤ). listed m.unknowns (λ u. at xs (0 + u))) e)
        (ap pos g ∙ (whole (at ns (0 + m.unknowns)) (dual-denominator s ns h e) ∙ ap
        (λ (xs : List ℤ). at xs (0 + m.unknowns)) e)),
    dual-hits_no_limit (empty_program (prepared_of m)) pivots s (moved (Dual s) h),
    record {
      numbers = s.numbers.items;
      den = s.den;
      dual = moved (Dual s) h;
      parts = f ∙ (ap (λ (xs : List ℤ). listed m.unknowns (λ u. at xs (0 + u))) e
          ∙ listed-agree m.unknowns _ _ (λ j. ap (at s.numbers.items) (none j)));
      over = g ∙ (ap (λ (xs : List ℤ). nat_abs (at xs (0 + m.unknowns))) e ∙ ap
          (λ (k : ℕ). nat_abs (at s.numbers.items k)) (none m.unknowns));
    },
  )
    where
      whole : (x : ℤ) → pos 0 ≤ℤ x → pos (nat_abs x) ≡ x
      whole (pos n) l = refl
      whole (negsuc n) l = absurd (omega (arith, ints, l))

  -- the limit hit with this cause is the answer
  pub limit_hit-answer : (c : LimitCause) (rule : ℕ) (t : LimitHit)
      → IsWholeAnswer (program_of problem) pivots (OutOfLimits c)
      → t.question ≡ asked.Empty rule → cause_of t.cause ≡ cause_of c
      → IsEmptyAnswer (prepared_of m) rule pivots (answers.OutOfLimits t)
  limit_hit-answer c rule t h e f =
      (e, subst (λ (k : Cause). HitsLimit (empty_program (prepared_of m)) pivots k) (sym f) (moved (OutOfLimits c) h))
