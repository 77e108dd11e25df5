-- The sum of what the rules spend, by the lines of a report.
use Rattle.std.specs.Prelude.{ℕ, suc, if◌then◌else◌, List, [], ◌∷◌, map, Option, Some, None}
use Rattle.its_model.specs.model.Terms.{Term}
use Rattle.its_model.specs.model.Programs.{Rule, Program}
use Rattle.signed_bounds.specs.Bounds.{Signed, SumOf}
use Rattle.signed_bounds.specs.Measure.{exceeds_limits}
use Rattle.signed_bounds.specs.Views.{parts_of}
use Rattle.best_report.specs.declared.subject.Subject.{Subject}
use Rattle.best_report.specs.declared.subject.Subject.TheVariants.{Time, Cost, Total}
use Rattle.best_report.specs.Subjects.{stated_by}
use Rattle.best_report.specs.Statements.{bound_on, first_of}
use Rattle.best_report.specs.Lines.{Line}

-- the bound of a line, if it has one, and is on the subject
abbrev pub line_bound : Subject → Option Signed → Subject → Option Signed
line_bound of None subject = None
line_bound of (Some b) subject = bound_on (stated_by of b) subject

-- the bound of the first line with a bound on the subject
abbrev pub bound_at : List Line → Subject → Option Signed
bound_at [] subject = None
bound_at (l ∷ lines) subject = first_of (line_bound l.subject l.bound subject) (bound_at lines subject)

-- the subject on which a bound says what the steps of a rule cost together: with a written cost that cost, and else how
-- often the rule occurs, since each step costs 1 then
abbrev pub spending_subject : ℕ → Option Term → Subject
spending_subject t None = Time t
spending_subject t (Some c) = Cost t

-- a bound in front of others, if all are there
abbrev pub before : Option Signed → Option (List Signed) → Option (List Signed)
before None bs = None
before (Some b) None = None
before (Some b) (Some bs) = Some (b ∷ bs)

-- the bounds on what each rule spends, by the bounds on subjects, where the first rule has this number; none if one of
-- them is missing
abbrev pub spending_bounds : (Subject → Option Signed) → ℕ → List Rule → Option (List Signed)
spending_bounds bounds t [] = Some []
spending_bounds bounds t (r ∷ rules) =
    before (bounds (spending_subject t r.cost)) (spending_bounds bounds (suc t) rules)

-- a bound, unless it exceeds the limits of bounds
abbrev pub within_limits : Signed → Option Signed
within_limits b = if exceeds_limits b then None else Some b

-- the sum of bounds, if all are there, and it doesn't exceed the limits
abbrev pub sum_within_limits : Option (List Signed) → Option Signed
sum_within_limits None = None
sum_within_limits (Some bs) = within_limits (SumOf (parts_of bs))

-- The sum of the bounds of the lines on what each rule spends: on its cost, if one is written, or else on how often it
-- occurs. There is none if one of these bounds is missing, or if it would exceed the limits of bounds.
abbrev pub sum_of_spendings : Program → List Line → Option Signed
sum_of_spendings p lines = sum_within_limits (spending_bounds (bound_at lines) 1 p.rules)

-- a bound on all steps as one on a subject: if that is all steps
abbrev pub on_all_steps : Option Signed → Subject → Option Signed
on_all_steps b Total = b
on_all_steps b subject = None

-- a line with this bound, if it is on all steps, and has none
abbrev pub with_bound_on_all : Option Signed → Line → Line
with_bound_on_all b l = record { subject = l.subject; bound = first_of l.bound (on_all_steps b l.subject) }

-- lines in which the sum of what the rules spend, if there is one, is the bound on all steps, where there is no other
abbrev pub with_total : Program → List Line → List Line
with_total p lines = map (with_bound_on_all (sum_of_spendings p lines)) lines
