-- Lists of checks, and the reason of the first that fails.
use Rattle.std.specs.Prelude.{◌≡◌, ℕ, Bool, true, false, if◌then◌else◌, List, [], ◌∷◌, ◌++◌, Option, Some, None}
use Rattle.std.specs.List.{AllByRecursion}

-- why a node isn't accepted: its shape; a rule that may occur has no move; the certificate of a move, of a floor (or of
-- a form that is at most a number) or of an amount doesn't show it; a gain has no bound; or the stated bound may be too
-- low
pub data Reason : Type 0 where
  BadShape : Reason
  MissingTime : ℕ → Reason
  BadMove : ℕ → Reason
  BadFloor : ℕ → Reason
  BadAmount : ℕ → Reason
  BadGain : ℕ → Reason
  LowBound : Reason

-- a check, with the reason that is reported if it fails
pub record Check : Type 0 where
  pub reason : Reason
  pub holds : Bool

abbrev pub check : Reason → Bool → Check
check reason holds = record { reason = reason; holds = holds }

-- the reason of the first check that fails, if one does
abbrev pub first_refused : List Check → Option Reason
first_refused [] = None
first_refused (c ∷ checks) = if c.holds then first_refused checks else Some c.reason

-- all checks hold
abbrev pub AllHold : List Check → Type 0
AllHold checks = AllByRecursion (λ c. c.holds ≡ true) checks

-- a check of the list fails, with this reason, and all before it hold
pub record IsFirstFailure (checks : List Check) (reason : Reason) : Type 0 where
  pub before : List Check
  pub failed : Check
  pub after : List Check
  pub listed : checks ≡ before ++ failed ∷ after
  pub held : AllHold before
  pub fails : failed.holds ≡ false
  pub says : failed.reason ≡ reason

-- no check is refused exactly if all hold, and a refusal has the reason of the first check that fails
pub record RefusalsAreFailures : Type 0 where
  pub holds : (checks : List Check) → first_refused checks ≡ None → AllHold checks
  pub accepts : (checks : List Check) → AllHold checks → first_refused checks ≡ None
  pub refuses : (checks : List Check) (reason : Reason) → first_refused checks ≡ Some reason
      → IsFirstFailure checks reason
