-- Worked values: lines that give reasons, and reports on a program that counts down.
use Rattle.std.specs.Prelude.{◌≡◌, ℕ, List, [], ◌∷◌, ◌++◌, length, codes, Some, None, IsTrue, IsFalse}
use Rattle.model.specs.Bounds.{Constant, Input}
use Rattle.model.specs.WorkedRuns.{countdown}
use Rattle.its_writer.specs.Texts.{canonical_text}
use Rattle.its_writer.specs.Spellable.{IsSpellable}
use Rattle.outcome.specs.Reports.{Timed, Untimed, TimeLarge, Sized, Report, is_bounded}
use Rattle.outcome.specs.Holding.{numbered_entry, place_entry}
use Rattle.call_plans.specs.Calls.{SinkUse}
use Rattle.headline.specs.Reasons.{IsReasonLine, GivesReasons}
use Rattle.headline.specs.Written.{WroteBounds}

-- A line that gives a reason begins with `why `, or with two blanks; one that begins with a bound's word doesn't give a
-- reason, and two lines aren't one. No text at all, and lines of reasons, give reasons; no text with a line of a bound
-- does, nor one that doesn't end its line.
pub record LinesAreWorkedOut : Type 0 where
  pub first : IsReasonLine (codes "why time 2: large 9 nodes")
  pub further : IsReasonLine (codes "  kept 2: (1, -1) / 1")
  pub of_bound : ¬ (IsReasonLine (codes "time 2: 9"))
  pub empty : ¬ (IsReasonLine [])
  pub two_lines : ¬ (IsReasonLine (codes "why time 2: large 9 nodes\ntime 2: 9"))
  pub nothing : GivesReasons []
  pub lines : GivesReasons (codes "why size 2.1: loose up\n  ray: (1)\n  kept: (0) / 1\n")
  pub bound : ¬ (GivesReasons (codes "time 2: 9\n"))
  pub no_end : ¬ (GivesReasons (codes "why"))

-- a put that appended these bytes to `old `
abbrev pub sink_use_appending : List ℕ → SinkUse
sink_use_appending bytes = record {
  faults_before = 0;
  faults_after = 0;
  puts_before = Some 5;
  puts_after = Some 6;
  written_before = Some (codes "old ");
  written_after = Some (codes "old " ++ bytes);
}

-- a report on the program that counts down, with all bounds
abbrev pub countdown_report : Report
countdown_report = record {
  times = Timed (Constant 1) ∷ Timed (Constant 9) ∷ [];
  costs = None ∷ None ∷ [];
  total = Some (Constant 10);
  sizes = (Sized (Input 0) ∷ Sized (Input 1) ∷ []) ∷ (Sized (Constant 8) ∷ Sized (Constant 9) ∷ []) ∷ [];
}

-- one that lacks the time of the loop
abbrev pub countdown_report_without_time : Report
countdown_report_without_time = record countdown_report { times = Timed (Constant 1) ∷ Untimed (TimeLarge 9) ∷ []; total = None }

-- The program l0(A, B) -> l1(A, B), l1(A, B) -> l1(A - 1, -A) where A >= 1 and A <= 9 has this canonical text, and can
-- be spelled. A report with the time 9 of the loop may have been written, and one that lacks it, with the reason after
-- the bounds. None may have been written in which the time of the loop is 8, or a size is less than the greatest
-- absolute value, or the total is 9; none without a time for each rule; and none at all where nothing was written, or
-- only the headline.
pub record CountdownIsReported : Type 0 where
  pub text : canonical_text countdown
      ≡ codes "(GOAL COMPLEXITY)\n(STARTTERM (FUNCTIONSYMBOLS l0))\n(VAR A B)\n(RULES\n  l0(A,B) -> Com_1(l1(A,B))\n"
      ++ codes "  l1(A,B) -> Com_1(l1(A-1,-A)) :|: A >= 1 && A <= 9\n)\n"
  pub spellable : IsSpellable countdown
  pub all : WroteBounds countdown
      (sink_use_appending (codes "bounded\ntime 1: 1\ntime 2: 9\ntotal: 10\n"
      ++ codes "size 1.1: A\nsize 1.2: B\nsize 2.1: 8\nsize 2.2: 9\n")) countdown_report
  pub all_bounded : IsTrue (is_bounded countdown_report)
  pub some : WroteBounds countdown
      (sink_use_appending (codes "unknown\ntime 1: 1\ntime 2: unknown\ntotal: unknown\n"
      ++ codes "size 1.1: A\nsize 1.2: B\nsize 2.1: 8\nsize 2.2: 9\nwhy time 2: large 9 nodes\n")) countdown_report_without_time
  pub some_bounded : IsFalse (is_bounded countdown_report_without_time)
  pub time_less : (put : SinkUse) (r : Report) → numbered_entry r.times 2 ≡ Some (Timed (Constant 8))
      → ¬ (WroteBounds countdown put r)
  pub size_less : (put : SinkUse) (r : Report) → place_entry (numbered_entry r.sizes 2) 1 ≡ Some (Sized (Constant 7))
      → ¬ (WroteBounds countdown put r)
  pub total_less : (put : SinkUse) (r : Report) → r.total ≡ Some (Constant 9) → ¬ (WroteBounds countdown put r)
  pub time_lacking : (put : SinkUse) (r : Report) → length r.times ≡ 1 → ¬ (WroteBounds countdown put r)
  pub unwritten : (r : Report) → ¬ (WroteBounds countdown (sink_use_appending []) r)
  pub headline_alone : (r : Report) → ¬ (WroteBounds countdown (sink_use_appending (codes "bounded\n")) r)
