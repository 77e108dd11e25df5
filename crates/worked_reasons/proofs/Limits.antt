-- Linear programs with numbers out of range, and too wide a table.
use Rattle.std.proofs.Common.{◌≡◌, inl, ℕ, suc, ◌+◌, ◌*◌, ◌<◌, ◌≤◌, true, [], ◌∷◌, ◌++◌, refl, sym, ◌∙◌, ap, subst, length, arith}
use Rattle.std.proofs.Common.{mul-le-mul}
use Rattle.std.specs.Prelude.{pos, unsigned_abs, nat_lt}
use Rattle.std.proofs.lemmas.Bool.{ltb-true}
use Rattle.std.proofs.lemmas.Int.{ints}
use Rattle.std.proofs.lemmas.List.{length-append}
use Rattle.frac128.proofs.LowestTerms.{whole_is_lowest}
use Rattle.model.specs.Programs.{AtLeast, Compare, Rule}
use Rattle.model.specs.Terms.{Literal, Variable}
use Rattle.model.proofs.Cases.{some_same}
use Rattle.its_model.specs.linear_forms.Causes.{range, wide}
use Rattle.its_model.specs.linear_forms.Certificates.{minus_one}
use Rattle.its_model.specs.linear_forms.LinearProgram.{LinearProgram}
use Rattle.its_model.specs.linear_forms.Questions.{Group, line, listed, program_of_question}
use Rattle.its_model.specs.linear_forms.declared.limit_cause.LimitCause.TheVariants as causes
use Rattle.its_model.proofs.linear_forms.ListLaws.{length-listed}
use Rattle.guard_prep.specs.Prepared.{prepared}
use Rattle.guard_prep.specs.Tightening.{divisor_of}
use Rattle.simplex_core.specs.Outcome.{IsInRange, IsSmallRatio, ExceedsNumberRange}
use Rattle.simplex_core.specs.Problem.{table_size, widest}
use Rattle.simplex_core.specs.Tableau.{Tableau, first_tableau, equation, cost, pivot}
use Rattle.simplex_core.specs.HitsLimit.{HitsLimit}
use Rattle.simplex_core.proofs.OneWholeAnswer.{causes-same}
use Rattle.cert_types.specs.declared.answer.Question.TheVariants as asked
use Rattle.cert_types.specs.cert_rules.AcceptsSizes.{Up}
use Rattle.cert_types.specs.cert_rules.WorkedSettings.{rule_over}
use Rattle.cert_types.specs.rule_forms.Kinds.{Number}
use Rattle.rank_search.specs.rule_questions.EmptyAnswers.{empty_program}
use Rattle.time_bounds.specs.ProgramRules.{EmptyHitsLimitSo}
use Rattle.time_bounds.specs.SizeWhys.{PlaceHitsLimitSo}
use Rattle.time_bounds.proofs.FreeValue.{of_rule}
use Rattle.worked_reasons.specs.Limits.{at_least, with_free, limit_hit_by, LimitsAreWorkedOut}
use Rattle.worked_reasons.proofs.DoubleRuns.{asked_of}
use Rattle.worked_reasons.proofs.Runs.{whole_run, run_whole}

abbrev huge_rule : Rule
huge_rule = rule_over 0 0 0 (Variable 0) (Compare (Variable 0) AtLeast (Literal (pos 2147483648)) ∷ [])

abbrev large_rule : Rule
large_rule = rule_over 0 0 0 (Variable 0) (Compare (Variable 0) AtLeast (Literal (pos 2147483647)) ∷ [])

-- the number over 1 isn't small
not_small : IsSmallRatio (pos 2147483648) (pos 1) → ⊥
not_small r =
    let low = (r.each (pos 2147483648) (pos 1) (omega (arith, ints)) (whole_is_lowest (pos 2147483648)) refl).0 in
    over low
  where
    over : unsigned_abs (pos 2147483648) < 2147483648 → ⊥
    over l = omega (arith, ints, l)

-- the first tableau for a point of the rule has the number 2147483648, in the row of the constant
point_out : IsInRange (empty_program (prepared huge_rule)) (first_tableau (empty_program (prepared huge_rule))) → ⊥
unfolding program_of_question first_tableau equation cost pivot divisor_of
point_out r = not_small (r.each 1 0 (record { row = omega arith; column = omega arith; cost = λ l. omega (arith, l) }))

-- the number is out of range before any pivot
first_out : (p : LinearProgram) → (IsInRange p (first_tableau p) → ⊥) → ExceedsNumberRange p 10 0
first_out p out = record {
  within = omega arith;
  last = first_tableau p;
  reached = record { is = refl; before = λ i u low e. absurd (omega (arith, low)) };
  out = out;
}

fits_by : (p : LinearProgram) → nat_lt (table_size p) (suc widest) ≡ true → table_size p ≤ widest
fits_by p e = let low = ltb-true (table_size p) (suc widest) e in omega (arith, low)

point_fits : table_size (empty_program (prepared huge_rule)) ≤ widest
unfolding program_of_question divisor_of
point_fits = fits_by (empty_program (prepared huge_rule)) refl

point_range : HitsLimit (empty_program (prepared huge_rule)) 10 (range 0)
point_range = (point_fits, first_out (empty_program (prepared huge_rule)) point_out)

not_later : EmptyHitsLimitSo (at_least (pos 2147483648)) 10 1 (limit_hit_by (asked.Empty 1) (causes.Range 1)) → ⊥
not_later h =
    let late = of_rule (λ r. HitsLimit (empty_program (prepared r)) 10 (range 1)) huge_rule h.rule h.numbered h.hits_limit.1 in
    other (causes-same (empty_program (prepared huge_rule)) 10 (range 1) (range 0) late point_range)
  where
    other : range 1 ≡ range 0 → ⊥
    other e = let n : ◌≡◌ {A = ℕ} 1 0 = cc in omega (arith, n)

-- 2147483647 is in range there
large_in : IsInRange (empty_program (prepared large_rule)) (first_tableau (empty_program (prepared large_rule)))
unfolding program_of_question first_tableau equation cost pivot divisor_of
large_in =
    run_whole (empty_program (prepared large_rule)) 10 0 (whole_run (empty_program (prepared large_rule)) 10 0 refl) 0
    (omega arith)

in_range : EmptyHitsLimitSo (at_least (pos 2147483647)) 10 1 (limit_hit_by (asked.Empty 1) (causes.Range 0)) → ⊥
in_range h =
    let early = of_rule (λ r. HitsLimit (empty_program (prepared r)) 10 (range 0)) large_rule h.rule h.numbered h.hits_limit.1 in
    early.1.out
    (subst (λ (t : Tableau). IsInRange (empty_program (prepared large_rule)) t)
    (some_same (first_tableau (empty_program (prepared large_rule))) early.1.last early.1.reached.is) large_in)

-- the linear program for a number that bounds the new value has the same row
number_out : IsInRange (asked_of huge_rule Up Number) (first_tableau (asked_of huge_rule Up Number)) → ⊥
unfolding program_of_question first_tableau equation cost pivot divisor_of
number_out r = not_small (r.each 1 2 (record { row = omega arith; column = omega arith; cost = λ l. omega (arith, l) }))

number_fits : table_size (asked_of huge_rule Up Number) ≤ widest
unfolding program_of_question divisor_of
number_fits = fits_by (asked_of huge_rule Up Number) refl

size_range : PlaceHitsLimitSo (at_least (pos 2147483648)) 10 1 1 (limit_hit_by (asked.Local 1 1) (causes.Range 0))
size_range = record {
  rule = huge_rule;
  numbered = refl;
  hits_limit = inl (record {
    asked = refl;
    question = refl;
    first = inl (inl (tt, (number_fits, first_out (asked_of huge_rule Up Number) number_out)));
  });
}

-- the rule with this many free variables
abbrev free_rule : ℕ → Rule
free_rule n = rule_over 0 0 n (Variable 0) []

-- the tableau has a row for each variable and one for the constant
lines_of : (m : ℕ) (g : Group) → length (listed m (line 0 g) ++ []) ≡ m
lines_of m g =
    let parts = length-append (listed m (line 0 g)) [] in
    let lines = length-listed m (line 0 g) in
    omega (arith, parts, lines)

rows_are : (n : ℕ) → (empty_program (prepared (free_rule n))).rows ≡ n + 2
unfolding program_of_question
rows_are n =
    lines_of (suc (prepared (free_rule n)).unknowns) (record {
      unknowns = (prepared (free_rule n)).unknowns;
      rows = (prepared (free_rule n)).rows;
      goals = [];
      fixed = minus_one;
    }) ∙ (let e : suc (1 + n + 0) ≡ n + 2 = omega arith in e)

-- the tableau has a column for the slack of each row
columns_are : (n : ℕ) → (empty_program (prepared (free_rule n))).columns ≡ 1
unfolding program_of_question
columns_are n = refl

size_is : (n : ℕ) → table_size (empty_program (prepared (free_rule n))) ≡ (n + 2) * (n + 4)
size_is n = product _ _ (rows_are n) (columns_are n)
  where
    product : (r c : ℕ) → r ≡ n + 2 → c ≡ 1 → r * (c + r + 1) ≡ (n + 2) * (n + 4)
    product r c e f =
        let wide_by : c + r + 1 ≡ n + 4 = omega (arith, e, f) in
        ap (λ (m : ℕ). m * (c + r + 1)) e ∙ ap (λ (m : ℕ). (n + 2) * m) wide_by

over_widest : (n : ℕ) → 200000 ≤ n → widest < (n + 2) * (n + 4)
over_widest n many =
    let low : 200002 ≤ n + 2 = omega (arith, many) in
    let high : 200004 ≤ n + 4 = omega (arith, many) in
    let least : 200002 * 200004 ≤ (n + 2) * (n + 4) = mul-le-mul low high in
    omega (arith, least)

wide_limit_hit : (n : ℕ) → 200000 ≤ n → HitsLimit (empty_program (prepared (free_rule n))) 10 (wide ((n + 2) * (n + 4)))
wide_limit_hit n many =
    (subst (λ (m : ℕ). widest < m) (sym (size_is n)) (over_widest n many), sym (size_is n))

below_widest : (n : ℕ) → n ≤ 100 → (n + 2) * (n + 4) ≤ widest
below_widest n few =
    let low : n + 2 ≤ 102 = omega (arith, few) in
    let high : n + 4 ≤ 104 = omega (arith, few) in
    let most : (n + 2) * (n + 4) ≤ 102 * 104 = mul-le-mul low high in
    omega (arith, most)

narrow : (n entries : ℕ) → n ≤ 100
    → EmptyHitsLimitSo (with_free n) 10 1 (limit_hit_by (asked.Empty 1) (causes.Wide entries)) → ⊥
narrow n entries few h =
    let over = of_rule (λ r. HitsLimit (empty_program (prepared r)) 10 (wide entries)) (free_rule n) h.rule h.numbered h.hits_limit.1 in
    let above : widest < table_size (empty_program (prepared (free_rule n))) = over.0 in
    let at_most : table_size (empty_program (prepared (free_rule n))) ≤ widest =
    subst (λ (m : ℕ). m ≤ widest) (sym (size_is n)) (below_widest n few) in
    omega (arith, above, at_most)

pub limits_worked : LimitsAreWorkedOut
limits_worked = record {
  range = record { rule = huge_rule; numbered = refl; hits_limit = (refl, point_range) };
  not_later = not_later;
  in_range = in_range;
  size_range = λ b. size_range;
  wide = λ n many. record { rule = free_rule n; numbered = refl; hits_limit = (refl, wide_limit_hit n many) };
  narrow = narrow;
}
