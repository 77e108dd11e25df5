-- Reports on the program that enters a loop and counts A down are as they were worked out by hand.
use Rattle.std.proofs.Common.{◌≡◌, ℕ, List, [], ◌∷◌, Option, None, ◌≤◌, refl, arith}
use Rattle.std.specs.Prelude.{IsSome}
use Rattle.std.proofs.lemmas.Int.{ints}
use Rattle.its_model.specs.model.WorkedRuns.{countdown}
use Rattle.signed_bounds.specs.Bounds.{Signed, Constant}
use Rattle.program_claims.specs.Claims.{HoldsOf}
use Rattle.program_claims.specs.Claims as claims
use Rattle.program_claims.specs.Worked.{MeaningsAreWorkedOut}
use Rattle.best_report.specs.declared.subject.Subject.{Subject}
use Rattle.best_report.specs.declared.subject.Subject.TheVariants as of
use Rattle.best_report.specs.Worked.{ReportsAreWorkedOut, entering_timed, counting_lines, line_with_bound, starts}
use Rattle.best_report.specs.Reports.{IsBestReport}
use Rattle.best_report.proofs.WorkedChoices.{le, not-le, constants}

-- there is no bound where there is none
abbrev nothing : Option Signed
nothing = None

no-bound : IsSome nothing → ⊥
no-bound h = cc

-- a list with an element isn't empty
not_none : (s : Subject) (ss : List Subject) → [] ≡ s ∷ ss → ⊥
not_none s ss e = cc

-- bounds on the time of rule 1 that hold, and on A after rule 2 from above, are those of a report where they are at most
-- those of the analysis
counted : (n m : ℕ) → HoldsOf countdown (claims.Time 1 (Constant n)) → HoldsOf countdown (claims.Above 2 1 (Constant m))
    → MeaningsAreWorkedOut → n ≤ 3 → m ≤ 9
    → IsBestReport countdown entering_timed (counting_lines (line_with_bound (of.Time 1) (Constant n)) (line_with_bound (of.Above 2 1) (Constant m)))
counted n m time above meanings low_time low_above = record {
  subjects = refl;
  hold = (time, (meanings.nine_rounds, (meanings.ten_steps, (tt, (tt, (above, (tt, (tt, (tt, (meanings.down_to_minus_8, (tt, tt)))))))))));
  complete =
      (λ h. refl, (λ h. refl, (λ h. refl, (λ h. h, (λ h. h, (λ h. refl, (λ h. h, (λ h. h, (λ h. h, (λ h. refl, (λ h. h, tt)))))))))));
  no_worse = (
    constants starts n 3 low_time,
    (
      tt,
      (
        tt,
        (
          tt,
          (
            tt,
            (
              constants starts m 9 low_above,
              (
                tt,
                (
                  tt,
                  (
                    tt,
                    (constants starts 8 9 (le 8 9 refl), (tt, tt)),
                  ),
                ),
              ),
            ),
          ),
        ),
      ),
    ),
  );
}

-- entering takes at most three steps, and A is at most 9 after a round
three : MeaningsAreWorkedOut → HoldsOf countdown (claims.Time 1 (Constant 3))
three meanings = record {
  each = λ start steps c run. let one = meanings.once.each start steps c run in omega (arith, one);
}

up_to_9 : MeaningsAreWorkedOut → HoldsOf countdown (claims.Above 2 1 (Constant 9))
up_to_9 meanings = record {
  each = λ start steps c run last. let eight = meanings.up_to_8.each start steps c run last in omega (arith, ints, eight);
}

pub reports_worked_out : MeaningsAreWorkedOut → ReportsAreWorkedOut
reports_worked_out meanings = record {
  best = counted 1 8 meanings.once meanings.up_to_8 meanings (le 1 3 refl) (le 8 9 refl);
  as_analysed = counted 3 9 (three meanings) (up_to_9 meanings) meanings (le 3 3 refl) (le 9 9 refl);
  no_line = λ h. not_none _ _ h.subjects;
  never = λ h. meanings.never h.hold.0;
  up_to_7 = λ h. meanings.up_to_7 h.hold.1.1.1.1.1.0;
  lost = λ h. no-bound (h.complete.0 refl);
  greater = λ h. not-le _ _ refl h.no_worse.0.0;
  kept = λ h. refl;
  not_kept = λ h. no-bound (h refl);
  none_to_keep = λ h. h;
  no_size_kept = λ h. no-bound (h refl);
}
