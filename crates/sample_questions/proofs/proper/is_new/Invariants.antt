use Rattle.std.proofs.Common.{◌≡◌, ℕ, ◌<◌, Some}
use Rattle.std.specs.Prelude.{◌≢◌, slice_get}
use Rattle.simplex_core.specs.declared.problem.Entry.{Entry}
use Rattle.sample_questions.proofs.proper.is_new.Given as goal

-- the numbers before this one are in other cells
abbrev pub invariant-loop-position : goal.invariant-loop-position
invariant-loop-position l = (k : ℕ) (d : Entry) → k < l.position → slice_get l.entries k ≡ Some d → d.row ≡ l.entry.row → d.col ≢ l.entry.col
