use Rattle.std.proofs.Common.{◌≡◌, ℕ, ◌<◌, Some}
use Rattle.std.specs.Prelude.{◌≢◌, slice_get}
use Rattle.simplex_core.specs.declared.problem.Entry.{Entry}
use Rattle.sample_questions.proofs.proper.are_apart.Given as goal

-- no two of the numbers before this one are in one cell
abbrev pub invariant-loop-position : goal.invariant-loop-position
invariant-loop-position l = (k m : ℕ) (d e : Entry) → k < m → m < l.position → slice_get l.entries k ≡ Some d → slice_get l.entries m ≡ Some e → d.row ≡ e.row → d.col ≢ e.col
