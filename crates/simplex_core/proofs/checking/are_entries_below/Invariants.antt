use Rattle.std.proofs.Common.{◌≡◌, ℕ, ◌<◌, ◌^◌, Some}
use Rattle.std.specs.Prelude.{unsigned_abs, slice_get}
use Rattle.simplex_core.specs.declared.problem.Entry.{Entry}
use Rattle.simplex_core.proofs.checking.are_entries_below.Given as goal

-- the numbers of the entries before this one are below the limit
abbrev pub invariant-loop-position : goal.invariant-loop-position
invariant-loop-position l = (k : ℕ) (e : Entry) → k < l.position → slice_get l.entries k ≡ Some e → unsigned_abs e.value < 2 ^ 31
