-- The bounds on subjects that statements give.
use denote.Ref.{Bor}
use Rattle.std.specs.Prelude.{◌&&◌, nat_eq, if◌then◌else◌, List, [], ◌∷◌, map, Option, Some, None}
use Rattle.signed_bounds.specs.Bounds.{Signed}
use Rattle.signed_bounds.specs.declared.signed.Signed as code
use Rattle.signed_bounds.specs.Views.{signed_of}
use Rattle.program_claims.specs.Claims as claims
use Rattle.best_report.specs.declared.subject.Subject.{Subject}
use Rattle.best_report.specs.declared.subject.Subject.TheVariants.{Time, Cost, Total, Above, Below}
use Rattle.best_report.specs.Subjects.{stated_by}

-- the bound of a statement, if it is on the subject
abbrev pub bound_on : claims.Stated → Subject → Option Signed
bound_on (claims.Time t b) (Time rule) = if nat_eq t rule then Some b else None
bound_on (claims.Cost t b) (Cost rule) = if nat_eq t rule then Some b else None
bound_on (claims.Total b) Total = Some b
bound_on (claims.Above t i b) (Above rule place) = if nat_eq t rule && nat_eq i place then Some b else None
bound_on (claims.Below t i b) (Below rule place) = if nat_eq t rule && nat_eq i place then Some b else None
bound_on s subject = None

-- the first of two bounds that there is
abbrev pub first_of : Option Signed → Option Signed → Option Signed
first_of None o = o
first_of (Some b) o = Some b

-- the bound of the first statement that is on the subject
abbrev pub first_on : List claims.Stated → Subject → Option Signed
first_on [] subject = None
first_on (s ∷ stated) subject = first_of (bound_on s subject) (first_on stated subject)

-- the entries of a table of bounds by subjects, as statements
abbrev pub statements_in : List (Subject × Bor code.Signed) → List claims.Stated
statements_in entries = map (λ e. stated_by e.0 (signed_of e.1.now)) entries
