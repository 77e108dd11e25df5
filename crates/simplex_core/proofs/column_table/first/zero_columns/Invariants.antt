use Rattle.std.specs.Prelude.{pos}
use Rattle.simplex_core.specs.ColumnBuilding.{AreColumns}
use Rattle.simplex_core.proofs.column_table.first.zero_columns.Given as goal

-- there are as many columns of zeros as rounds so far
abbrev pub invariant-loop : goal.invariant-loop
invariant-loop l = AreColumns l.columns.items l.counter (λ _ _. pos 0)
