-- The lines of a report.
use Rattle.std.specs.Prelude.{Bool, true, List, Option, is_some, IfSome}
use Rattle.std.specs.List.{AllByRecursion, list_all}
use Rattle.std.specs.Option.{option_map}
use Rattle.its_model.specs.model.Programs.{Program}
use Rattle.signed_bounds.specs.Bounds.{Signed}
use Rattle.signed_bounds.specs.Views.{signed_of}
use Rattle.program_claims.specs.Claims.{HoldsOf}
use Rattle.best_report.specs.declared.subject.Subject.{Subject}
use Rattle.best_report.specs.declared.subject.Subject.TheVariants.{Time, Cost, Total, Above, Below}
use Rattle.best_report.specs.declared.line.Line as code
use Rattle.best_report.specs.Subjects.{stated_by}

-- a subject, and the bound on it, if there is one
pub record Line : Type 0 where
  pub subject : Subject
  pub bound : Option Signed

-- a line as plain data
abbrev pub line_of : code.Line → Line
line_of l = record { subject = l.subject; bound = option_map signed_of l.bound }

-- the bound of a line, if it has one, holds on every run of the program, from any integers and by any choice of rules
abbrev pub LineHolds : Program → Line → Type 0
LineHolds p l = IfSome l.bound (λ b. HoldsOf p (stated_by l.subject b))

abbrev pub LinesHold : Program → List Line → Type 0
LinesHold p lines = AllByRecursion (λ l. LineHolds p l) lines

-- whether the line isn't missing a bound on a rule, or on all steps; the value at a place needn't have a bound
abbrev pub is_bounded_line : Line → Bool
is_bounded_line l = is_bounded_by l.subject (is_some l.bound)
  where
    is_bounded_by : Subject → Bool → Bool
    is_bounded_by (Time rule) has = has
    is_bounded_by (Cost rule) has = has
    is_bounded_by Total has = has
    is_bounded_by (Above rule place) has = true
    is_bounded_by (Below rule place) has = true

-- whether every rule has a time, every rule with a cost a bound on it, and all steps together have one
abbrev pub is_bounded : List Line → Bool
is_bounded lines = list_all is_bounded_line lines
