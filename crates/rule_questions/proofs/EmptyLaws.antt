-- What a solution or a dual of the feasibility problem shows of the rows.
use Rattle.std.proofs.Common.{◌≡◌, ℕ, zero, suc, ◌+◌, ◌<◌, ◌≤◌, ap, arith, refl, sym, ◌∙◌, subst, List, [], ◌∷◌, length}
use Rattle.std.specs.Prelude.{ℤ, pos, negsuc, nat_abs, ◌+ℤ◌, ◌*ℤ◌, ◌≤ℤ◌, ◌<ℤ◌}
use Rattle.std.specs.List.{All, AllByRecursion}
use Rattle.std.proofs.lemmas.Int.{ints}
use Rattle.poly_terms.proofs.int_laws.RingLaws.{mul_comm_ℤ}
use Rattle.std.proofs.Common.{length-append}
use Rattle.std.proofs.lemmas.List.Elements.{All-weaker, All-from_recursion}
use Rattle.poly_terms.specs.linear_forms.Forms.{Form, at, form_value}
use Rattle.poly_terms.specs.linear_forms.Certificates.{Implies, minus_one}
use Rattle.poly_terms.specs.linear_forms.Limits.{certificate_limit, point_limit}
use Rattle.poly_terms.specs.linear_forms.Questions.{Group, Question, IsShaped, listed, line, goal_at}
use Rattle.poly_terms.specs.linear_forms.Questions.{program_of_question}
use Rattle.poly_terms.specs.linear_forms.QuestionLaws.{multipliers_of, elements_of, Refutes, parameters_of}
use Rattle.poly_terms.specs.linear_forms.RuleQuestions.{empty_question}
use Rattle.poly_terms.specs.linear_forms.RuleQuestionLaws.{IsRuleShaped}
use Rattle.poly_terms.proofs.linear_forms.ListLaws.{length-listed, listed-is}
use Rattle.poly_terms.proofs.linear_forms.RuleShapes.{questions-shaped}
use Rattle.poly_terms.proofs.linear_forms.SolutionLaws.{solution-solves, All-listed}
use Rattle.poly_terms.proofs.linear_forms.ElementLaws.{dual-refutes, program-columns}
use Rattle.poly_terms.specs.model.Programs.{Rule}
use Rattle.cert_types.specs.guard_prep.Prepared.{Prepared, prepared, rows_of, unknowns_of, new_values_of}
use Rattle.cert_types.specs.guard_prep.Laws.{IsPreparable, IsSmallForm}
use Rattle.cert_types.proofs.guard_prep.SizeLaws.{rows-are-small}
use Rattle.lp_builder.specs.simplex_core.HitsLimit.{IsScaledSolution, IsScaledDual}
use Rattle.rule_questions.specs.ProgramQuestions.{forms_of}
pub use Rattle.cert_types.proofs.cert_program.RankedSets.{prepared-shaped}
use Rattle.rule_questions.specs.EmptyAnswers.{empty_program, IsNearPoint}
use Rattle.rule_questions.proofs.Lists.{multipliers-listed, value-seen}

module _ (m : Prepared) (shaped : IsRuleShaped (forms_of 0 0 m)) where
  abbrev question : Question
  question = empty_question (forms_of 0 0 m)

  shape : IsShaped question
  shape = questions-shaped.empty (forms_of 0 0 m) shaped

  abbrev group : Group
  group = record { unknowns = m.unknowns; rows = m.rows; goals = []; fixed = minus_one }

  -- multipliers that show a negative number show -1
  at-most-minus_one : (ms : List ℕ) (v : ℕ → ℤ) (d : ℤ) → pos 0 <ℤ d → Implies m.rows ms (goal_at group v d)
      → Implies m.rows ms minus_one
  at-most-minus_one ms v d l h = record {
    long = h.long;
    coefs = h.coefs;
    constant = below _ d l h.constant;
  }
    where
      below : (c d : ℤ) → pos 0 <ℤ d → c ≤ℤ (pos 0 +ℤ d *ℤ negsuc 0) → c ≤ℤ negsuc 0
      below c d l h = omega (arith, ints, l, h, mul_comm_ℤ d (negsuc 0))

  -- the number of columns, and the number of lines
  columns-are : (empty_program m).columns ≡ suc (length m.rows)
  columns-are = program-columns (empty_question (forms_of 0 0 m)) ∙
      (let e : 0 + (suc (length m.rows) + 0) ≡ suc (length m.rows) = omega arith in e)

  rows-are : (empty_program m).rows ≡ suc m.unknowns
  unfolding program_of_question
  rows-are =
      length-append (listed (suc m.unknowns)
      (line 0 (record { unknowns = m.unknowns; rows = m.rows; goals = []; fixed = minus_one }))) []
      ∙ (ap (λ (n : ℕ). n + 0)
      (length-listed (suc m.unknowns)
      (line 0 (record { unknowns = m.unknowns; rows = m.rows; goals = []; fixed = minus_one })))
      ∙ (let e : suc m.unknowns + 0 ≡ suc m.unknowns = omega arith in e))

  module _ (pivots : ℕ) (numbers : List ℤ) (den : ℕ) (s : IsScaledSolution (empty_program m) pivots numbers den) where
    -- a solution has a number for each row, and one more
    pub solution-long : length numbers ≡ suc (length m.rows)
    solution-long = s.columns ∙ columns-are

    -- the multipliers show that the rows have no point
    pub solution-shows : Implies m.rows (listed (length m.rows) (λ j. nat_abs (at numbers (0 + j)))) minus_one
    solution-shows =
        subst (λ (ms : List ℕ). Implies m.rows ms minus_one)
        (multipliers-listed m.rows (at numbers) ∙ listed-same (length m.rows) (at numbers))
        (at-most-minus_one (multipliers_of (at numbers) m.rows) (parameters_of (at numbers))
        (pos den) s.solution.denominator
        (solution-solves question (at numbers) (pos den) shape s.solution).0)
      where
        listed-same : (n : ℕ) (x : ℕ → ℤ) → listed n (λ j. nat_abs (x j)) ≡ listed n (λ j. nat_abs (x (0 + j)))
        listed-same n x = go n (λ j. nat_abs (x j)) (λ j. nat_abs (x (0 + j)))
            (λ j. ap (λ (k : ℕ). nat_abs (x k)) (let e : j ≡ 0 + j = omega arith in e))
          where
            go : (n : ℕ) (f g : ℕ → ℕ) → ((j : ℕ) → f j ≡ g j) → listed n f ≡ listed n g
            go zero f g h = refl
            go (suc n) f g h =
                ap (λ (y : ℕ). y ∷ listed n (λ i. f (suc i))) (h 0)
                ∙ ap (λ (ys : List ℕ). g 0 ∷ ys) (go n (λ i. f (suc i)) (λ i. g (suc i)) (λ j. h (suc j)))

    -- the solution's multipliers are within the limit
    pub solution-limit : All (λ k. k ≤ certificate_limit) (listed (length m.rows) (λ j. nat_abs (at numbers (0 + j))))
    solution-limit =
        All-listed (λ k. k ≤ certificate_limit) (length m.rows) (λ j. nat_abs (at numbers (0 + j)))
        (λ j l. s.within.each (0 + j) (omega (arith, l, solution-long)))

  module _ (pivots : ℕ) (numbers : List ℤ) (den : ℕ) (s : IsScaledDual (empty_program m) pivots numbers den) where
    refuted : Refutes question (elements_of (at numbers) question.groups)
    refuted = dual-refutes question (at numbers) shape s.certified

    -- a dual has a number for each unknown, and one more, which is above 0
    pub dual-long : length numbers ≡ suc m.unknowns
    dual-long = s.rows ∙ rows-are

    positive : pos 0 <ℤ at numbers m.unknowns
    positive = over (at numbers m.unknowns) refuted.below
      where
        over : (d : ℤ) → (pos 0 +ℤ negsuc 0 *ℤ d +ℤ pos 0) <ℤ pos 0 → pos 0 <ℤ d
        over d l = omega (arith, ints, l)

    pub dual-nonneg : pos 0 ≤ℤ at numbers (0 + m.unknowns)
    dual-nonneg = subst (λ (k : ℕ). pos 0 ≤ℤ at numbers k) (let e : m.unknowns ≡ 0 + m.unknowns = omega arith in e)
        (weak _ positive)
      where
        weak : (d : ℤ) → pos 0 <ℤ d → pos 0 ≤ℤ d
        weak d l = omega (arith, ints, l)

    -- the dual's numbers are a point of the rows
    pub dual-point : (parts : List ℤ) (d : ℕ) → parts ≡ listed m.unknowns (λ u. at numbers (0 + u))
        → pos d ≡ at numbers (0 + m.unknowns) → IsNearPoint m (record { parts = parts; den = d })
    dual-point parts d e f = record {
      long = ap (λ (xs : List ℤ). length xs) e ∙ length-listed m.unknowns (λ u. at numbers (0 + u));
      parts_limit = subst (λ (xs : List ℤ). All (λ a. nat_abs a ≤ point_limit) xs) (sym e)
          (All-listed (λ a. nat_abs a ≤ point_limit) m.unknowns (λ u. at numbers (0 + u))
          (λ u l. s.within.each (0 + u) (omega (arith, l, dual-long))));
      den_limit = subst (λ (z : ℤ). nat_abs z ≤ point_limit) (sym f)
          (s.within.each (0 + m.unknowns) (omega (arith, dual-long)));
      point = record {
        denominator = subst (λ (z : ℤ). pos 0 <ℤ z) (sym den-is) positive;
        meets = record {
          each = λ k g l. subst (λ (v : ℤ). pos 0 ≤ℤ v) (seen _ (shaped.rows_fit k g l))
              (refuted.elements.0.1.each k g l);
        };
      };
    }
      where
        den-is : pos d ≡ at numbers m.unknowns
        den-is = f ∙ ap (at numbers) (let z : 0 + m.unknowns ≡ m.unknowns = omega arith in z)

        part-is : (j : ℕ) → j < m.unknowns → at numbers j ≡ at parts j
        part-is j l =
            ap (at numbers) (let z : j ≡ 0 + j = omega arith in z)
            ∙ sym (ap (λ (xs : List ℤ). at xs j) e ∙ listed-is m.unknowns (λ u. at numbers (0 + u)) j (pos 0) l)

        seen : (r : Form) → length r.coefs ≤ m.unknowns → form_value r (at numbers) (at numbers m.unknowns)
            ≡ form_value r (at parts) (pos d)
        seen r l =
            value-seen r m.unknowns (at numbers) (at parts) (at numbers m.unknowns) l part-is
            ∙ ap (λ (z : ℤ). form_value r (at parts) z) (sym den-is)

-- a positive denominator is at least 1
pub at-least-one : (d : ℕ) → pos 0 <ℤ pos d → 1 ≤ d
at-least-one d l = omega (arith, ints, l)
