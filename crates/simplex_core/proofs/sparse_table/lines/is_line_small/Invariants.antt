use Rattle.std.proofs.Common.{◌≡◌, ℕ, ◌<◌, Some}
use Rattle.std.specs.Prelude.{slice_get}
use Rattle.frac128.specs.declared.frac.Frac.{Frac}
use Rattle.simplex_core.specs.Sizes.{IsBelow}
use Rattle.simplex_core.proofs.sparse_table.lines.is_line_small.Given as goal

-- the entries before this one are below 2^31
abbrev pub invariant-loop-index : goal.invariant-loop-index
invariant-loop-index l = record { each : (k : ℕ) (x : ℕ × Frac) → k < l.index → slice_get l.line k ≡ Some x → IsBelow 31 x.1 }
