use Rattle.std.specs.Prelude.{◌≡◌, length}
use Rattle.simplex_core.proofs.column_table.lists.empty_lists.Given as goal

-- there are as many empty lists as rounds so far
abbrev pub invariant-loop : goal.invariant-loop
invariant-loop l = length l.lists.items ≡ l.counter
