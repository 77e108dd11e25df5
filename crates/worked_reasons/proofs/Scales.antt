-- Linear programs that end with numbers that aren't small.
use Rattle.std.proofs.Common.{◌≡◌, inr, ℕ, zero, suc, ◌+◌, ◌<◌, ◌≤◌, ◌%◌, ◌&&◌, Bool, true, false, List, [], ◌∷◌, ◌++◌}
use Rattle.std.proofs.Common.{refl, sym, ◌∙◌, ap, subst, arith}
use Rattle.std.specs.Prelude.{ℤ, pos, negsuc, ◌*ℤ◌, ◌<ℤ◌, unsigned_abs, nat_abs, nat_eq, nat_lt, if◌then◌else◌}
use Rattle.std.proofs.Math.Nat.{eq-one_of_dvd-one, mod-one, mod-eq_of_lt}
use Rattle.std.proofs.lemmas.Int.{ints}
use Rattle.std.proofs.lemmas.Bool.{ltb-true}
use Rattle.frac128.specs.declared.frac.Frac.{Frac}
use Rattle.model.specs.Programs.{Rule}
use Rattle.its_model.specs.linear_forms.Causes.{Cause, scale, cause_of}
use Rattle.its_model.specs.linear_forms.Forms.{Form, at}
use Rattle.its_model.specs.linear_forms.LinearProgram.{LinearProgram}
use Rattle.its_model.specs.linear_forms.Limits.{point_limit}
use Rattle.its_model.specs.linear_forms.Questions.{program_of_question}
use Rattle.its_model.specs.linear_forms.declared.limit_cause.LimitCause.{LimitCause}
use Rattle.its_model.specs.linear_forms.declared.limit_cause.LimitCause.TheVariants as causes
use Rattle.guard_prep.specs.Prepared.{prepared, unknowns_of, rows_of, all_tightened, new_values_of, nonlinear_of, polys_of}
use Rattle.guard_prep.specs.Tightening.{divisor_of, divisor_upto, tightened_by, tightened}
use Rattle.simplex_core.specs.Outcome.{EndsInfeasibly}
use Rattle.simplex_core.specs.Problem.{table_size, widest}
use Rattle.simplex_core.specs.Scaling.{AreOver, AreWithin, ExceedsDual}
use Rattle.simplex_core.specs.Tableau.{first_tableau, equation, cost, pivot}
use Rattle.simplex_core.specs.HitsLimit.{HitsLimit}
use Rattle.simplex_core.proofs.OneWholeAnswer.{causes-same}
use Rattle.simplex_core.proofs.Searches.{every-each}
use Rattle.cert_types.specs.declared.answer.Question.TheVariants as asked
use Rattle.cert_types.specs.declared.answer.LimitHit.{LimitHit}
use Rattle.rank_search.specs.rule_questions.EmptyAnswers.{empty_program}
use Rattle.time_bounds.specs.ProgramRules.{EmptyHitsLimitSo}
use Rattle.time_bounds.proofs.FreeValue.{of_rule}
use Rattle.worked_reasons.specs.Limits.{limit_hit_by}
use Rattle.worked_reasons.specs.Scales.{falling_below, below_multiple, ScalesAreWorkedOut}
use Rattle.worked_reasons.proofs.SmallRuns.{fractions-sound, small_dual_run}
use Rattle.worked_reasons.proofs.WholeEnds.{whole, infeasible_hits_no_limit}

-- 1 over a number above 0
abbrev one_over : (m : ℤ) → pos 0 <ℤ m → Frac
one_over m positive = record {
  num = pos 1;
  den = m;
  narrow = omega (arith, ints);
  positive = positive;
  lowest = λ k divides_one divides. eq-one_of_dvd-one divides_one;
}

-- the dual at an end: 1, an integer, and 1 over the least value of A
abbrev ended : (b m : ℤ) → unsigned_abs b < 2147483648 → pos 0 <ℤ m → List Frac
ended b m low positive = whole (pos 1) (omega (arith, ints)) ∷ whole b low ∷ one_over m positive ∷ []

-- the linear program for a point of a rule, with these rows
abbrev program_of_rows : Rule → List Form → LinearProgram
program_of_rows r rows =
    empty_program
    (record {
      left = r.left;
      unknowns = unknowns_of r;
      rows = rows;
      new_values = new_values_of r;
      nonlinear = nonlinear_of r;
      polys = polys_of r;
    })

-- two rows with the divisor 1 each are only rounded
both_tightened : (f g : Form) → divisor_of f.coefs ≡ 1 → divisor_of g.coefs ≡ 1
    → all_tightened (f ∷ g ∷ []) ≡ tightened_by 1 f ++ (tightened_by 1 g ++ [])
both_tightened f g d e =
    ap (λ (n : ℕ). tightened_by n f ++ (tightened g ++ [])) d
    ∙ ap (λ (n : ℕ). tightened_by 1 f ++ (tightened_by n g ++ [])) e

-- 1 and 0 have the divisor 1
one_first : divisor_of (pos 1 ∷ pos 0 ∷ []) ≡ 1
unfolding divisor_of
one_first = refl

-- no number but 1 divides a number and -1, from however many the divisor is sought
upto_one : (n : ℕ) (a : ℤ) → divisor_upto (suc n) (a ∷ negsuc 0 ∷ []) ≡ 1
upto_one zero a =
    ap (λ (r : ℕ). if nat_eq r 0 && (nat_eq (1 % 1) 0 && true) then suc zero else zero) (mod-one (nat_abs a))
upto_one (suc n) a =
    ap
    (λ (r : ℕ).
    if nat_eq (nat_abs a % suc (suc n)) 0 && (nat_eq r 0 && true) then suc (suc n)
    else divisor_upto (suc n) (a ∷ negsuc 0 ∷ []))
    (mod-eq_of_lt (let low : 1 < suc (suc n) = omega arith in low))
    ∙ (never (nat_eq (nat_abs a % suc (suc n)) 0) ∙ upto_one n a)
  where
    never : (b : Bool) → (if b && false then suc (suc n) else divisor_upto (suc n) (a ∷ negsuc 0 ∷ []))
        ≡ divisor_upto (suc n) (a ∷ negsuc 0 ∷ [])
    never true = refl
    never false = refl

-- a number below 0 and -1 have the divisor 1
one_last : (n : ℕ) → divisor_of (negsuc n ∷ negsuc 0 ∷ []) ≡ 1
unfolding divisor_of
one_last n = some_upto (suc n + 1) (omega arith)
  where
    some_upto : (m : ℕ) → 0 < m → divisor_upto m (negsuc n ∷ negsuc 0 ∷ []) ≡ 1
    some_upto zero h = absurd (omega (arith, h))
    some_upto (suc m) h = upto_one m (negsuc n)

-- the rows A - 18837001 >= 0 and -1867833 * A - B >= 0
abbrev large_least : Form
large_least = record { coefs = pos 1 ∷ pos 0 ∷ []; constant = negsuc 18837000 }

abbrev large_most : Form
large_most = record { coefs = negsuc 1867832 ∷ negsuc 0 ∷ []; constant = pos 0 }

abbrev large_rule : Rule
large_rule = falling_below (pos 18837001) (pos 1867833)

abbrev large_program : LinearProgram
large_program = program_of_rows large_rule (large_least ∷ large_most ∷ [])

-- these are the rows of the rule
large_rows : rows_of large_rule ≡ large_least ∷ large_most ∷ []
large_rows = both_tightened large_least large_most one_first (one_last 1867832)

-- the dual is 1, -1867833 and 1 over 18837001
abbrev large_dual : List Frac
large_dual = ended (negsuc 1867832) (pos 18837001) (omega (arith, ints)) (omega (arith, ints))

-- after two pivots, with no number out of range, there is no solution
large_ends : (table_size large_program ≤ widest) × EndsInfeasibly large_program 10 large_dual 2
unfolding program_of_question first_tableau equation cost pivot
large_ends =
    small_dual_run (pos 354832606674001 ∷ pos 18837001 ∷ pos 1 ∷ []) large_program 10 2 large_dual refl

-- integers that represent the dual are over a multiple of the least value of A, so the second is 2^45 + 1 or more
large_exceeds : ExceedsDual large_dual
large_exceeds numbers den over within =
    too_large (at numbers 1) (at numbers 2) over.positive (over.each 1 _ (omega arith) refl)
    (over.each 2 _ (omega arith) refl) (within.each 1 (omega arith))
  where
    too_large : (b c : ℤ) → 0 < den → b *ℤ pos 1 ≡ negsuc 1867832 *ℤ pos den → c *ℤ pos 18837001 ≡ pos 1 *ℤ pos den
        → unsigned_abs b ≤ point_limit → ⊥
    too_large b c positive e f low = omega (arith, ints, positive, e, f, low)

-- the linear program hits the limit on the scale
large_hits_limit : HitsLimit (empty_program (prepared large_rule)) 10 scale
large_hits_limit =
    subst (λ (rows : List Form). HitsLimit (program_of_rows large_rule rows) 10 scale) (sym large_rows)
    (large_ends.0, inr (record { dual = large_dual; k = 2; ends = large_ends.1; exceeds = large_exceeds }))

-- the linear program hits no other limit
no_other : (cause : LimitCause)
    → EmptyHitsLimitSo (below_multiple (pos 18837001) (pos 1867833)) 10 1 (limit_hit_by (asked.Empty 1) cause)
    → cause ≡ causes.Scale
no_other cause h =
    named cause
    (causes-same (empty_program (prepared large_rule)) 10 (cause_of cause) scale
    (of_rule (λ r. HitsLimit (empty_program (prepared r)) 10 (cause_of cause)) large_rule h.rule h.numbered h.hits_limit.1)
    large_hits_limit)
  where
    named : (c : LimitCause) → cause_of c ≡ scale → c ≡ causes.Scale
    named (causes.Range pivot) e = absurd (let none : ⊥ = cc in none)
    named (causes.Budget pivots) e = absurd (let none : ⊥ = cc in none)
    named (causes.Wide entries) e = absurd (let none : ⊥ = cc in none)
    named causes.Scale e = refl

-- the rows A - 2^23 >= 0 and -2^22 * A - B >= 0
abbrev small_least : Form
small_least = record { coefs = pos 1 ∷ pos 0 ∷ []; constant = negsuc 8388607 }

abbrev small_most : Form
small_most = record { coefs = negsuc 4194303 ∷ negsuc 0 ∷ []; constant = pos 0 }

abbrev small_rule : Rule
small_rule = falling_below (pos 8388608) (pos 4194304)

abbrev small_program : LinearProgram
small_program = program_of_rows small_rule (small_least ∷ small_most ∷ [])

-- these are the rows of the rule
small_rows : rows_of small_rule ≡ small_least ∷ small_most ∷ []
small_rows = both_tightened small_least small_most one_first (one_last 4194303)

-- the dual is 1, -2^22 and 1 over 2^23
abbrev small_dual : List Frac
small_dual = ended (negsuc 4194303) (pos 8388608) (omega (arith, ints)) (omega (arith, ints))

-- after two pivots, with no number out of range, there is no solution
small_ends : (table_size small_program ≤ widest) × EndsInfeasibly small_program 10 small_dual 2
unfolding program_of_question first_tableau equation cost pivot
small_ends = small_dual_run (pos 70368744177664 ∷ pos 8388608 ∷ pos 1 ∷ []) small_program 10 2 small_dual refl

-- the point A = 2^23 and B = -2^45, over 1
abbrev small_point : List ℤ
small_point = pos 8388608 ∷ negsuc 35184372088831 ∷ pos 1 ∷ []

-- the numbers of the point represent the dual, over 2^23, and are small
small_over : AreOver small_dual 3 small_point 8388608
small_over = record {
  positive = omega arith;
  each = λ j f l e. sym (fractions-sound small_dual (at small_point) (pos 8388608) refl j f e);
}

small_within : AreWithin point_limit 3 small_point
small_within = record {
  each = λ j l.
      at_most (unsigned_abs (at small_point j))
      (ltb-true (unsigned_abs (at small_point j)) (suc point_limit)
      (every-each 3 (λ i. nat_lt (unsigned_abs (at small_point i)) (suc point_limit)) refl j l));
}
  where
    at_most : (n : ℕ) → n < suc point_limit → n ≤ point_limit
    at_most n h = omega (arith, h)

-- the linear program exceeds no limit
small_hits_no_limit : (c : Cause) → HitsLimit (empty_program (prepared small_rule)) 10 c → ⊥
small_hits_no_limit c hits_limit =
    infeasible_hits_no_limit small_program 10 2 small_dual small_point 8388608 small_ends.0 small_ends.1 small_over
    small_within c
    (subst (λ (rows : List Form). HitsLimit (program_of_rows small_rule rows) 10 c) small_rows hits_limit)

small : (limit_hit : LimitHit) → EmptyHitsLimitSo (below_multiple (pos 8388608) (pos 4194304)) 10 1 limit_hit → ⊥
small limit_hit h =
    small_hits_no_limit (cause_of limit_hit.cause)
    (of_rule (λ r. HitsLimit (empty_program (prepared r)) 10 (cause_of limit_hit.cause)) small_rule h.rule h.numbered h.hits_limit.1)

pub scales_worked : ScalesAreWorkedOut
scales_worked = record {
  scale = record { rule = large_rule; numbered = refl; hits_limit = (refl, large_hits_limit) };
  no_other = no_other;
  small = small;
}
