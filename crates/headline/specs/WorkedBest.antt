-- Worked values: lines with bounds over the start values that may have been written of the program that counts down.
use Rattle.std.specs.Prelude.{ℕ, List, [], ◌∷◌, ◌++◌, codes, Some, None}
use Rattle.model.specs.WorkedRuns.{countdown}
use Rattle.location_facts.specs.declared.fact.LocFact.{LocFact}
use Rattle.signed_bounds.specs.Bounds.{Signed, Constant}
use Rattle.best_report.specs.declared.subject.Subject.{Subject}
use Rattle.best_report.specs.declared.subject.Subject.TheVariants.{Time, Total, Above, Below}
use Rattle.best_report.specs.Lines.{Line}
use Rattle.call_plans.specs.Calls.{SinkUse}
use Rattle.headline.specs.Best.{WroteBest}
use Rattle.headline.specs.Worked.{sink_use_appending}
use Rattle.headline.specs.WorkedTexts.{first_not_negative}

-- a line with a bound, and one without
abbrev pub at_most : Subject → ℕ → Line
at_most subject n = record { subject = subject; bound = Some (Constant n) }

abbrev pub unknown : Subject → Line
unknown subject = record { subject = subject; bound = None }

-- lines with the times of both rules and the total, and without a bound on a value
abbrev pub best_lines : List Line
best_lines =
    at_most (Time 1) 1 ∷ at_most (Time 2) 9 ∷ at_most Total 10
    ∷ unknown (Above 1 1) ∷ unknown (Above 1 2) ∷ unknown (Above 2 1) ∷ unknown (Above 2 2)
    ∷ unknown (Below 1 1) ∷ unknown (Below 1 2) ∷ unknown (Below 2 1) ∷ unknown (Below 2 2) ∷ []

-- their text
abbrev pub best_bytes : List ℕ
best_bytes =
    codes "bounded\ntime 1: 1\ntime 2: 9\ntotal: 10\n"
    ++ (codes "above 1.1: unknown\nabove 1.2: unknown\nabove 2.1: unknown\nabove 2.2: unknown\n"
    ++ codes "below 1.1: unknown\nbelow 1.2: unknown\nbelow 2.1: unknown\nbelow 2.2: unknown\n")

-- These lines may have been written, with their text. None may have been written of which the time of the loop is 8,
-- whatever the others are, nor with a fact that a run disproves; none without a line for each subject; and none at all
-- where nothing was written.
pub record BestIsOfCountdown : Type 0 where
  pub all : WroteBest countdown (sink_use_appending best_bytes) [] best_lines
  pub time_less : (put : SinkUse) (facts : List LocFact) (first : Line) (lines : List Line)
      → ¬ (WroteBest countdown put facts (first ∷ at_most (Time 2) 8 ∷ lines))
  pub false_fact : (put : SinkUse) (facts : List LocFact) (lines : List Line)
      → ¬ (WroteBest countdown put (first_not_negative ∷ facts) lines)
  pub no_lines : (put : SinkUse) (facts : List LocFact) → ¬ (WroteBest countdown put facts [])
  pub unwritten : (facts : List LocFact) (lines : List Line) → ¬ (WroteBest countdown (sink_use_appending []) facts lines)
