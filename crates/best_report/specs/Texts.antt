-- The text of a report: the headline, a line for each subject, and why times and bounds on costs are missing.
use Rattle.std.specs.Prelude.{ℕ, cond, List, [], ◌∷◌, ◌++◌, Option, Some, None, codes, decimal}
use Rattle.its_model.specs.model.Programs.{Name, Symbol, Program}
use Rattle.signed_bounds.specs.Bounds.{Signed}
use Rattle.signed_text.specs.Texts.{signed_text}
use Rattle.outcome.specs.Reports.{Time, RuleCost, Report}
use Rattle.outcome.specs.Holding.{numbered_entry}
use Rattle.report_text.specs.Pieces.{place_text}
use Rattle.report_text.specs.Reports.{why_time, why_cost}
use Rattle.best_report.specs.declared.subject.Subject.{Subject}
use Rattle.best_report.specs.declared.subject.Subject.TheVariants as subjects
use Rattle.best_report.specs.Lines.{Line, is_bounded}

-- a subject
abbrev pub subject_text : Subject → List ℕ
subject_text (subjects.Time rule) = codes "time " ++ decimal rule
subject_text (subjects.Cost rule) = codes "cost " ++ decimal rule
subject_text subjects.Total = codes "total"
subject_text (subjects.Above rule place) = codes "above " ++ place_text rule place
subject_text (subjects.Below rule place) = codes "below " ++ place_text rule place

-- a bound, or that there is none
abbrev pub bound_text : List Name → Option Signed → List ℕ
bound_text names None = codes "unknown"
bound_text names (Some b) = signed_text names b

-- the line of a subject
abbrev pub line_text : List Name → Line → List ℕ
line_text names l = subject_text l.subject ++ (codes ": " ++ (bound_text names l.bound ++ codes "\n"))

abbrev pub lines_text : List Name → List Line → List ℕ
lines_text names [] = []
lines_text names (l ∷ lines) = line_text names l ++ lines_text names lines

-- why the entry of a rule has no bound, where there is an entry
abbrev pub time_reason : List Symbol → ℕ → Option Time → List ℕ
time_reason symbols rule None = []
time_reason symbols rule (Some t) = why_time symbols rule t

abbrev pub cost_reason : ℕ → Option (Option RuleCost) → List ℕ
cost_reason rule None = []
cost_reason rule (Some c) = why_cost rule c

-- why there is no bound on a subject, by the report of the analysis; a total and the values at places have no reason
abbrev pub subject_reason : List Symbol → Report → Subject → List ℕ
subject_reason symbols r (subjects.Time rule) = time_reason symbols rule (numbered_entry r.times rule)
subject_reason symbols r (subjects.Cost rule) = cost_reason rule (numbered_entry r.costs rule)
subject_reason symbols r subjects.Total = []
subject_reason symbols r (subjects.Above rule place) = []
subject_reason symbols r (subjects.Below rule place) = []

abbrev pub reason_by : List Symbol → Report → Subject → Option Signed → List ℕ
reason_by symbols r subject None = subject_reason symbols r subject
reason_by symbols r subject (Some b) = []

abbrev pub reasons_text : List Symbol → Report → List Line → List ℕ
reasons_text symbols r [] = []
reasons_text symbols r (l ∷ lines) = reason_by symbols r l.subject l.bound ++ reasons_text symbols r lines

-- the first line says whether every rule has a time, every rule with a cost a bound on it, and all steps together one
abbrev pub headline : List Line → List ℕ
headline lines = cond (is_bounded lines) (codes "bounded\n") (codes "unknown\n")

-- the whole text of a report on a program, beside the report of an analysis
unfoldable pub best_text : Program → Report → List Line → List ℕ
best_text p r lines = headline lines ++ (lines_text p.start_names lines ++ reasons_text p.symbols r lines)
