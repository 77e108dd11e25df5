use Rattle.std.proofs.Common.{◌≡◌, ℕ, ◌+◌, ◌*◌, ◌^◌, ◌<◌, Some}
use Rattle.std.specs.Prelude.{slice_get}
use Rattle.simplex_core.specs.declared.problem.Entry.{Entry}
use Rattle.sample_questions.proofs.proper.ascend.Given as goal

-- the numbers before this one ascend row by row
abbrev pub invariant-loop-position : goal.invariant-loop-position
invariant-loop-position l = (k m : ℕ) (d e : Entry) → k < m → m < l.position → slice_get l.entries k ≡ Some d → slice_get l.entries m ≡ Some e → d.row * 2 ^ 32 + d.col < e.row * 2 ^ 32 + e.col
