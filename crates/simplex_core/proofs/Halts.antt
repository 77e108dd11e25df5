-- A pivot that a table executes or gives up.
use Rattle.std.proofs.Common.{Result, Ok, Err}
use Rattle.std.specs.Prelude.{IfOk, MatchResult}
use Rattle.simplex_core.specs.declared.simplex_table.Unmade.{Unmade}
use Rattle.simplex_core.specs.declared.simplex_table.Unmade.TheVariants.{Beyond, Memory}
use Rattle.simplex_core.specs.Halts.{IsUnmade}

-- giving up needs no reason in a table that may give up
may_give_up : (e : Unmade) → IsUnmade (Unit {0}) e
may_give_up Beyond = tt
may_give_up Memory = tt

-- the result of a pivot, in a table that may give up
pub made_or_given_up : {X : Type 0} (r : Result X Unmade) (P Q : X → Type 0) → ((x : X) → P x → Q x) → IfOk r P → MatchResult r Q (IsUnmade (Unit {0}))
made_or_given_up (Ok x) P Q f h = f x h
made_or_given_up (Err e) P Q f h = may_give_up e
