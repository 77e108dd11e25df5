-- When a table has no next pivot.
use Rattle.std.specs.Prelude.{ℕ}
use Rattle.linear_forms.specs.LinearProgram.{LinearProgram}
use Rattle.simplex_core.specs.declared.simplex_table.Unmade.{Unmade}
use Rattle.simplex_core.specs.declared.simplex_table.Unmade.TheVariants.{Beyond, Memory}
use Rattle.simplex_core.specs.declared.sequence.Halt.{Halt}
use Rattle.simplex_core.specs.declared.sequence.Halt.TheVariants as halts
use Rattle.simplex_core.specs.Outcome.{IsLimitHit}

-- a pivot isn't made: memory ran out, or the table gives up
abbrev pub IsUnmade : Type 0 → Unmade → Type 0
IsUnmade gives_up Beyond = gives_up
IsUnmade gives_up Memory = Unit {0}

-- the sequence isn't followed to an end: it hits a limit, or the table gives up
abbrev pub IsHalt : Type 0 → LinearProgram → ℕ → Halt → Type 0
IsHalt gives_up p allowed (halts.LimitHit e) = IsLimitHit p allowed e
IsHalt gives_up p allowed halts.Beyond = gives_up
