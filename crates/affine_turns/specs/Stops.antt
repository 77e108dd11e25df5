-- The reasons that the errors of a step report.
use Rattle.std.specs.Prelude.{◌≡◌, ℕ, Option, Some, None, IfSome}
use Rattle.affine_turns.specs.declared.stop.StopError.{StopError}
use Rattle.affine_turns.specs.declared.stop.StopError.TheVariants as code
use Rattle.affine_turns.specs.Turns.{Stop, AtomStops, NonlinearPlace}

-- the reason that an error reports why a step fails the test; none for want of memory
abbrev pub stop_in : StopError → Option Stop
stop_in (code.AtomStops atom) = Some (AtomStops atom)
stop_in (code.NonlinearPlace place) = Some (NonlinearPlace place)
stop_in code.Memory = None

-- the error reports this reason, unless memory ran out
abbrev pub Stops : Option Stop → StopError → Type 0
Stops stop e = IfSome (stop_in e) (λ s. stop ≡ Some s)
