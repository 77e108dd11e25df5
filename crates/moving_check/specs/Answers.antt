-- What the result of a check of a lasso means, if its turn is meant to move on.
use Rattle.std.specs.Prelude.{◌≡◌, ℕ, Option, Some, None, Result, MatchResult, IfSome, ⊤}
use Rattle.its_model.specs.model.Programs.{Program}
use Rattle.its_model.specs.Steps.{OtherRule, AtomFails, PastRange}
use Rattle.lasso_check.specs.Lassos.{Lasso}
use Rattle.lasso_check.specs.declared.checking_error.LassoError.{LassoError}
use Rattle.lasso_check.specs.declared.checking_error.LassoError.TheVariants as walking
use Rattle.affine_turns.specs.Turns.{AtomStops, NonlinearPlace}
use Rattle.moving_check.specs.declared.error.MovingError.{MovingError}
use Rattle.moving_check.specs.declared.error.MovingError.TheVariants as code
use Rattle.moving_check.specs.declared.moving.Moving as told
use Rattle.moving_check.specs.Findings.{Moving, Finding, Moves, LeavesSymbol, PassesAt, StopsAt, ChangesAt, Verdict, Bad}
use Rattle.moving_check.specs.Findings.{Found, HasVerdict}

-- a turn that moves on, as plain data
abbrev pub moving_of : told.Moving → Moving
moving_of m = record { differences = m.differences.items; rules = m.rules.items; cost = m.cost }

-- the verdict that an error reports; none for want of memory
abbrev pub verdict_in : MovingError → Option Verdict
verdict_in (code.WrongRule step) = Some (Bad (record { number = step; fault = OtherRule }))
verdict_in (code.GuardFails step atom) = Some (Bad (record { number = step; fault = AtomFails atom }))
verdict_in (code.PassedRange step) = Some (Bad (record { number = step; fault = PastRange }))
verdict_in code.OtherSymbol = Some (Found LeavesSymbol)
verdict_in (code.DifferencePasses place) = Some (Found (PassesAt place))
verdict_in (code.AtomStops step atom) = Some (Found (StopsAt (record { number = step; stop = AtomStops atom })))
verdict_in (code.NonlinearPlace step place) = Some (Found (StopsAt (record { number = step; stop = NonlinearPlace place })))
verdict_in (code.DifferenceChanges place) = Some (Found (ChangesAt place))
verdict_in code.Memory = None

-- an error of a walk along steps reports a bad step, or want of memory
abbrev pub IsOfStep : LassoError → Type 0
IsOfStep (walking.Open place) = ⊥
IsOfStep (walking.WrongRule step) = ⊤
IsOfStep (walking.GuardFails step atom) = ⊤
IsOfStep (walking.PassedRange step) = ⊤
IsOfStep walking.Memory = ⊤

-- the verdict that an error reports is right; want of memory is always right
abbrev pub Refuses : Program → Lasso → MovingError → Type 0
Refuses p l e = IfSome (verdict_in e) (HasVerdict p l)

-- the verdict that a result reports is right; want of memory is always right
abbrev pub Finds : Program → Lasso → Result told.Moving MovingError → Type 0
Finds p l result = MatchResult result (λ m. HasVerdict p l (Found (Moves (moving_of m)))) (Refuses p l)

-- an error reports this verdict, or want of memory
abbrev pub SaysOnly : Verdict → MovingError → Type 0
SaysOnly v e = IfSome (verdict_in e) (λ w. w ≡ v)

-- a result reports this verdict, unless memory ran out
abbrev pub FindsOnly : Verdict → Result told.Moving MovingError → Type 0
FindsOnly v result = MatchResult result (λ m. Found (Moves (moving_of m)) ≡ v) (SaysOnly v)
