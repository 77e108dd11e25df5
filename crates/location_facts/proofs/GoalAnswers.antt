-- What the answers of the linear program of a goal show of the goal and the rows.
use Rattle.std.proofs.Common.{◌≡◌, ℕ, suc, ◌+◌, ◌<◌, ◌≤◌, ap, arith, refl, sym, ◌∙◌, subst, List, [], length}
use Rattle.std.proofs.Common.{length-append}
use Rattle.std.specs.Prelude.{ℤ, pos, negsuc, nat_abs, ◌+ℤ◌, ◌*ℤ◌, ◌≤ℤ◌, ◌<ℤ◌}
use Rattle.std.specs.List.{All}
use Rattle.std.proofs.lemmas.Int.{ints}
use Rattle.std.proofs.lemmas.List.Elements.{All-nil, All-cons}
use Rattle.poly_terms.proofs.int_laws.OrderLaws.{mul-lt-mul_ℤ}
use Rattle.poly_terms.specs.linear_forms.Forms.{Form, at, form_value}
use Rattle.poly_terms.specs.linear_forms.Certificates.{Implies}
use Rattle.poly_terms.specs.linear_forms.Combinations.{form_times}
use Rattle.poly_terms.specs.linear_forms.LinearProgram.{HasSolution}
use Rattle.poly_terms.specs.linear_forms.Limits.{certificate_limit, point_limit}
use Rattle.poly_terms.specs.linear_forms.Points.{Meets}
use Rattle.poly_terms.specs.linear_forms.Questions.{Group, IsShaped, IsGroupShaped, listed, line, goal_at}
use Rattle.poly_terms.specs.linear_forms.Questions.{program_of_question}
use Rattle.poly_terms.specs.linear_forms.QuestionLaws.{multipliers_of, elements_of, Refutes, parameters_of}
use Rattle.poly_terms.proofs.linear_forms.CertificateLaws.{implied}
use Rattle.poly_terms.proofs.linear_forms.CombinationLaws.{form_value-times}
use Rattle.poly_terms.proofs.linear_forms.ListLaws.{length-listed, listed-is}
use Rattle.poly_terms.proofs.linear_forms.SolutionLaws.{solution-solves, All-listed}
use Rattle.poly_terms.proofs.linear_forms.ElementLaws.{dual-refutes, program-columns}
use Rattle.lp_builder.specs.simplex_core.HitsLimit.{IsScaledSolution, IsScaledDual}
use Rattle.rule_questions.proofs.EmptyLaws.{at-least-one}
use Rattle.rule_questions.proofs.Lists.{multipliers-listed, value-seen, listed-agree}
use Rattle.location_facts.specs.Kept.{goal_question, goal_program}
use Rattle.location_facts.specs.Replies.{FollowsBy, IsRefuting}

-- rows and a goal without coefficients past the unknowns
module _ (n : ℕ) (rows : List Form) (goal : Form) (rows-fit : All (λ r. length r.coefs ≤ n) rows)
    (goal-fits : length goal.coefs ≤ n) where
  abbrev group : Group
  group = record { unknowns = n; rows = rows; goals = []; fixed = goal }

  -- the question has its shape
  shape : IsShaped (goal_question n rows goal)
  shape = record {
    groups_are = All-cons (IsGroupShaped 0) group []
        (record {
          goals_are = refl;
          rows_fit = rows-fit;
          goals_fit = All-nil (λ (f : Form). length f.coefs ≤ n);
          fixed_fits = goal-fits;
        })
        (All-nil (IsGroupShaped 0));
    sizes_are = refl;
    heights_are = refl;
  }

  -- the goal at parameters is the fixed form times the denominator
  fixed-follows : (ms : List ℕ) (v : ℕ → ℤ) (d : ℤ) → Implies rows ms (goal_at group v d)
      → Implies rows ms (form_times d goal)
  fixed-follows ms v d h = record {
    long = h.long;
    coefs = h.coefs;
    constant = same _ (d *ℤ goal.constant) h.constant;
  }
    where
      same : (a b : ℤ) → a ≤ℤ (pos 0 +ℤ b) → a ≤ℤ b
      same a b l = omega (arith, ints, l)

  -- the number of columns, and the number of lines
  columns-are : (goal_program n rows goal).columns ≡ suc (length rows)
  columns-are = program-columns (goal_question n rows goal) ∙
      (let e : 0 + (suc (length rows) + 0) ≡ suc (length rows) = omega arith in e)

  rows-are : (goal_program n rows goal).rows ≡ suc n
  unfolding program_of_question
  rows-are =
      length-append (listed (suc n) (line 0 (record { unknowns = n; rows = rows; goals = []; fixed = goal }))) []
      ∙ (ap (λ (k : ℕ). k + 0)
      (length-listed (suc n) (line 0 (record { unknowns = n; rows = rows; goals = []; fixed = goal })))
      ∙ (let e : suc n + 0 ≡ suc n = omega arith in e))

  module _ (pivots : ℕ) (numbers : List ℤ) (den : ℕ)
      (s : IsScaledSolution (goal_program n rows goal) pivots numbers den)
    where
      -- a solution has a number for each row, and one more
      pub solution-long : length numbers ≡ suc (length rows)
      solution-long = s.columns ∙ columns-are

      -- the solution's multipliers show the goal times the denominator
      pub solution-follows-by : (ms : List ℕ) (times : ℕ)
          → ms ≡ listed (length rows) (λ j. nat_abs (at numbers (0 + j))) → times ≡ den → FollowsBy rows goal ms times
      solution-follows-by ms times e f = record {
        within = subst (All (λ (k : ℕ). k ≤ certificate_limit)) (sym e)
            (All-listed (λ k. k ≤ certificate_limit) (length rows) (λ j. nat_abs (at numbers (0 + j)))
            (λ j l. s.within.each (0 + j) (omega (arith, l, solution-long))));
        least = subst (λ (k : ℕ). 1 ≤ k) (sym f) (at-least-one den s.solution.denominator);
        most = subst (λ (k : ℕ). k ≤ certificate_limit) (sym f) s.den_within;
        shows = subst (λ (k : ℕ). Implies rows ms (form_times (pos k) goal)) (sym f)
            (subst (λ (ks : List ℕ). Implies rows ks (form_times (pos den) goal)) (sym all)
            (fixed-follows (multipliers_of (at numbers) rows) (parameters_of (at numbers)) (pos den)
            (solution-solves (goal_question n rows goal) (at numbers) (pos den) shape s.solution).0));
      }
        where
          all : ms ≡ multipliers_of (at numbers) rows
          all =
              e
              ∙ (listed-agree (length rows) (λ j. nat_abs (at numbers (0 + j))) (λ j. nat_abs (at numbers j))
              (λ j. ap (λ (k : ℕ). nat_abs (at numbers k)) (let z : 0 + j ≡ j = omega arith in z))
              ∙ sym (multipliers-listed rows (at numbers)))

  module _ (pivots : ℕ) (numbers : List ℤ) (den : ℕ) (s : IsScaledDual (goal_program n rows goal) pivots numbers den)
    where
      refuted : Refutes (goal_question n rows goal) (elements_of (at numbers) (goal_question n rows goal).groups)
      refuted = dual-refutes (goal_question n rows goal) (at numbers) shape s.certified

      -- a dual has a number for each unknown, and one more, which is at least 0
      pub dual-long : length numbers ≡ suc n
      dual-long = s.rows ∙ rows-are

      nonneg : pos 0 ≤ℤ at numbers n
      nonneg = refuted.elements.0.0

      -- the dual's numbers refute the goal
      pub dual-against : (parts : List ℤ) (d : ℕ) → parts ≡ listed n (λ u. at numbers (0 + u))
          → d ≡ nat_abs (at numbers (0 + n)) → IsRefuting n rows goal parts d
      dual-against parts d e f = record {
        long = ap (λ (xs : List ℤ). length xs) e ∙ length-listed n (λ u. at numbers (0 + u));
        parts_limit = subst (All (λ (a : ℤ). nat_abs a ≤ point_limit)) (sym e)
            (All-listed (λ a. nat_abs a ≤ point_limit) n (λ u. at numbers (0 + u))
            (λ u l. s.within.each (0 + u) (omega (arith, l, dual-long))));
        den_limit = subst (λ (k : ℕ). k ≤ point_limit) (sym f) (s.within.each (0 + n) (omega (arith, dual-long)));
        meets = record {
          each = λ k g l. subst (λ (v : ℤ). pos 0 ≤ℤ v) (seen _ (rows-fit k g l)) (refuted.elements.0.1.each k g l);
        };
        below = subst (λ (v : ℤ). v <ℤ pos 0) (seen goal goal-fits) (alone _ refuted.below);
      }
        where
          alone : (v : ℤ) → (v +ℤ pos 0) <ℤ pos 0 → v <ℤ pos 0
          alone v l = omega (arith, ints, l)

          whole : (x : ℤ) → pos 0 ≤ℤ x → pos (nat_abs x) ≡ x
          whole (pos k) l = refl
          whole (negsuc k) l = absurd (omega (arith, ints, l))

          den-is : pos d ≡ at numbers n
          den-is =
              ap pos (f ∙ ap (λ (k : ℕ). nat_abs (at numbers k)) (let z : 0 + n ≡ n = omega arith in z))
              ∙ whole (at numbers n) nonneg

          part-is : (j : ℕ) → j < n → at numbers j ≡ at parts j
          part-is j l =
              ap (at numbers) (let z : j ≡ 0 + j = omega arith in z)
              ∙ sym (ap (λ (xs : List ℤ). at xs j) e ∙ listed-is n (λ u. at numbers (0 + u)) j (pos 0) l)

          seen : (r : Form) → length r.coefs ≤ n → form_value r (at numbers) (at numbers n)
              ≡ form_value r (at parts) (pos d)
          seen r l =
              value-seen r n (at numbers) (at parts) (at numbers n) l part-is
              ∙ ap (λ (z : ℤ). form_value r (at parts) z) (sym den-is)

  -- if the goal is below 0 at a point or a ray of the rows, its program has no solution
  pub against-excludes : (z : ℕ → ℤ) (e : ℤ) → pos 0 ≤ℤ e → Meets rows z e → form_value goal z e <ℤ pos 0
      → ¬ HasSolution (goal_program n rows goal)
  against-excludes z e l meets below s =
      clash s.d (form_value goal z e) s.solution.denominator below
      (subst (λ (v : ℤ). pos 0 ≤ℤ v) (form_value-times s.d goal z e)
      (implied rows (multipliers_of s.x rows) (form_times s.d goal)
      (fixed-follows (multipliers_of s.x rows) (parameters_of s.x) s.d
      (solution-solves (goal_question n rows goal) s.x s.d shape s.solution).0) z e meets l))
    where
      clash : (d v : ℤ) → pos 0 <ℤ d → v <ℤ pos 0 → pos 0 ≤ℤ (d *ℤ v) → ⊥
      clash d v l m h = omega (arith, ints, mul-lt-mul_ℤ d v (pos 0) l m, h)
