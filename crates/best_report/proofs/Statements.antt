-- Bounds on subjects by statements.
use Rattle.std.proofs.Common.{◌≡◌, ℕ, Bool, true, false, List, [], ◌∷◌, Option, Some, None, refl, sym, subst, ap}
use Rattle.std.specs.Prelude.{IfSome, if◌then◌else◌}
use Rattle.its_model.specs.model.Programs.{Program}
use Rattle.its_model.specs.model.Terms.{Term}
use Rattle.signed_bounds.specs.Bounds.{Signed}
use Rattle.program_claims.specs.Claims.{HoldsOf, AllHoldOf}
use Rattle.program_claims.specs.Claims as claims
use Rattle.best_report.specs.declared.subject.Subject.{Subject}
use Rattle.best_report.specs.declared.subject.Subject.TheVariants.{Time, Cost, Total, Above, Below}
use Rattle.best_report.specs.Subjects.{stated_by}
use Rattle.best_report.specs.Statements.{bound_on, first_of, first_on}
use Rattle.best_report.proofs.StatementTables.{are_same, equal, on-subject}

-- a bound that is there if a value is true
if-same : (v : Bool) (b : Signed) (P : Signed → Type 0) → (v ≡ true → P b) → IfSome (if v then Some b else None) P
if-same true b P f = f refl
if-same false b P f = tt

-- a statement with a bound on a subject is the statement of that bound
pub of-subject : (k s : Subject) (b : Signed) → IfSome (bound_on (stated_by k b) s) (λ c. stated_by k b ≡ stated_by s c)
of-subject k s b =
    subst (λ (o : Option Signed). IfSome o (λ c. stated_by k b ≡ stated_by s c)) (sym (on-subject k s b))
    (if-same (are_same s k) b (λ c. stated_by k b ≡ stated_by s c)
    (λ e. ap (λ (r : Subject). stated_by r b) (sym (equal s k e))))

symbol-on : (a : ℕ) (f : Term) (s : Subject)
    → IfSome (bound_on (claims.AtSymbol a f) s) (λ c. claims.AtSymbol a f ≡ stated_by s c)
symbol-on a f (Time u) = tt
symbol-on a f (Cost u) = tt
symbol-on a f Total = tt
symbol-on a f (Above u k) = tt
symbol-on a f (Below u k) = tt

states : (x : claims.Stated) (s : Subject) → IfSome (bound_on x s) (λ c. x ≡ stated_by s c)
states (claims.Time t b) s = of-subject (Time t) s b
states (claims.Cost t b) s = of-subject (Cost t) s b
states (claims.Total b) s = of-subject Total s b
states (claims.Above t i b) s = of-subject (Above t i) s b
states (claims.Below t i b) s = of-subject (Below t i) s b
states (claims.AtSymbol a f) s = symbol-on a f s

-- where all statements hold, the bound of the first one on a subject holds as a bound on it
pub first-holds : (p : Program) (s : Subject) (stated : List claims.Stated) → AllHoldOf p stated
    → IfSome (first_on stated s) (λ c. HoldsOf p (stated_by s c))
first-holds p s [] hold = tt
first-holds p s (x ∷ stated) (holds, hold) = go (bound_on x s) (states x s) (first-holds p s stated hold)
  where
    go : (o : Option Signed) → IfSome o (λ c. x ≡ stated_by s c)
        → IfSome (first_on stated s) (λ c. HoldsOf p (stated_by s c))
        → IfSome (first_of o (first_on stated s)) (λ c. HoldsOf p (stated_by s c))
    go None same later = later
    go (Some c) same later = subst (λ (y : claims.Stated). HoldsOf p y) same holds
