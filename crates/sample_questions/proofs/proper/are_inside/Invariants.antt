use Rattle.std.proofs.Common.{◌≡◌, ℕ, ◌<◌, Some}
use Rattle.std.specs.Prelude.{slice_get}
use Rattle.simplex_core.specs.declared.problem.Entry.{Entry}
use Rattle.sample_questions.proofs.proper.are_inside.Given as goal

-- the numbers before this one lie inside
abbrev pub invariant-loop-position : goal.invariant-loop-position
invariant-loop-position l = (k : ℕ) (e : Entry) → k < l.position → slice_get l.entries k ≡ Some e → (e.row < l.rows) × (e.col < l.cols)
