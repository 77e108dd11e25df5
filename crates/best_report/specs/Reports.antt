-- What a report says of a program, beside the report of an analysis.
use Rattle.std.specs.Prelude.{◌≡◌, List, map, length, Option, Some, None, option_map, IsSome, ℤ}
use Rattle.std.specs.List.{AllByRecursion}
use Rattle.its_model.specs.model.Programs.{Program}
use Rattle.its_model.specs.model.Bounds.{Bound}
use Rattle.signed_bounds.specs.Bounds.{Signed}
use Rattle.signed_bounds.specs.Inputs.{signed_of_bound}
use Rattle.signed_values.specs.Starts.{comparison_starts}
use Rattle.outcome.specs.Reports.{Time, Size, Sized, Unsized, RuleCost, Costed, Uncosted, Report, bound_in}
use Rattle.outcome.specs.Holding.{numbered_entry, place_entry}
use Rattle.best_report.specs.declared.subject.Subject.{Subject}
use Rattle.best_report.specs.declared.subject.Subject.TheVariants as subjects
use Rattle.program_claims.specs.Claims.{Stated}
use Rattle.best_report.specs.Subjects.{subjects_of}
use Rattle.best_report.specs.Statements.{first_of, first_on}
use Rattle.best_report.specs.Lines.{Line, LinesHold}
use Rattle.best_report.specs.Spending.{on_all_steps, sum_of_spendings}
use Rattle.best_report.specs.Choices.{IsChosen, IsNoWorse, IsAtMostStated}

-- the bound of an entry of a report, where there is an entry, and it is a bound
abbrev pub time_bound : Option Time → Option Bound
time_bound None = None
time_bound (Some t) = bound_in t

abbrev pub cost_bound : Option (Option RuleCost) → Option Bound
cost_bound None = None
cost_bound (Some None) = None
cost_bound (Some (Some (Costed b))) = Some b
cost_bound (Some (Some (Uncosted w))) = None

abbrev pub size_bound : Option Size → Option Bound
size_bound None = None
size_bound (Some (Sized b)) = Some b
size_bound (Some (Unsized w)) = None

-- the bound of an analysis on a subject, where its report has one: that on the absolute value at a place bounds the
-- value from above and from below
abbrev pub analysis_bound : Report → Subject → Option Bound
analysis_bound r (subjects.Time rule) = time_bound (numbered_entry r.times rule)
analysis_bound r (subjects.Cost rule) = cost_bound (numbered_entry r.costs rule)
analysis_bound r subjects.Total = r.total
analysis_bound r (subjects.Above rule place) = size_bound (place_entry (numbered_entry r.sizes rule) place)
analysis_bound r (subjects.Below rule place) = size_bound (place_entry (numbered_entry r.sizes rule) place)

-- the same bound over the start values
abbrev pub signed_analysis_bound : Report → Subject → Option Signed
signed_analysis_bound r subject = option_map signed_of_bound (analysis_bound r subject)

-- the line has a bound if the analysis has one on its subject
abbrev pub KeepsBound : Report → Line → Type 0
KeepsBound r l = IsSome (analysis_bound r l.subject) → IsSome l.bound

-- the bound of the line, where the analysis has one on its subject, too, is at most that of the analysis at each of the
-- lists of start values
abbrev pub IsNoWorseLine : List (List ℤ) → Report → Line → Type 0
IsNoWorseLine starts r l = IsNoWorse starts (signed_analysis_bound r l.subject) l.bound

-- Lines of a report on a program, beside the report of an analysis: there is one for each subject of the program, in
-- order; each bound holds on every run of the program, from any integers and by any choice of rules; there is a bound
-- wherever the analysis has one; and no bound is greater than that of the analysis at a list of start values at which
-- bounds are compared.
pub record IsBestReport (p : Program) (r : Report) (lines : List Line) : Type 0 where
  pub subjects : map (λ l. l.subject) lines ≡ subjects_of p
  pub hold : LinesHold p lines
  pub complete : AllByRecursion (λ l. KeepsBound r l) lines
  pub no_worse : AllByRecursion (λ l. IsNoWorseLine (comparison_starts (length p.start_names)) r l) lines

-- the bound on the subject is that of the analysis, or that of the first statement on the subject, or their minimum; it is
-- missing if neither has one
abbrev pub IsChosenOn : Report → List Stated → Subject → Option Signed → Type 0
IsChosenOn r stated subject b = IsChosen (signed_analysis_bound r subject) (first_on stated subject) b

-- The bound of the line is the one that is chosen. Where there is none, since neither the analysis nor a statement has one,
-- the line on all steps has the sum of what the rules spend by the lines, if there is this sum, and each other line has
-- none.
abbrev pub IsChosenLine : Program → Report → List Stated → List Line → Line → Type 0
IsChosenLine p r stated lines l =
    (b : Option Signed) × IsChosenOn r stated l.subject b
    × (l.bound ≡ first_of b (on_all_steps (sum_of_spendings p lines) l.subject))

-- where a statement is on the subject of the line, it has a bound, which is at most that of the first such statement at
-- each of the lists of start values, unless the minimum of that one and of the bound of the analysis passes the limits
abbrev pub IsLineAtMostStated : List (List ℤ) → Report → List Stated → Line → Type 0
IsLineAtMostStated starts r stated l = IsAtMostStated starts (signed_analysis_bound r l.subject) (first_on stated l.subject) l.bound

-- The lines of a report on a program, beside the report of an analysis, use what is stated: of several statements on one
-- subject the first one. A total that neither the analysis nor a statement has is the sum of what the rules spend.
pub record UsesStatements (p : Program) (r : Report) (stated : List Stated) (lines : List Line) : Type 0 where
  pub chosen : AllByRecursion (λ l. IsChosenLine p r stated lines l) lines
  pub at_most_stated : AllByRecursion (λ l. IsLineAtMostStated (comparison_starts (length p.start_names)) r stated l) lines

-- the same of lines whose total isn't such a sum
pub record AreChosen (p : Program) (r : Report) (stated : List Stated) (lines : List Line) : Type 0 where
  pub chosen : AllByRecursion (λ l. IsChosenOn r stated l.subject l.bound) lines
  pub at_most_stated : AllByRecursion (λ l. IsLineAtMostStated (comparison_starts (length p.start_names)) r stated l) lines
