use Rattle.std.proofs.Common.{◌≡◌, length}
use Rattle.its_model.specs.Views.{program_of}
use Rattle.location_facts.proofs.SymbolTables.{EachInto}
use Rattle.location_facts.proofs.tables.rules_by_symbol.Given as goal

-- the table has the rules into the symbols so far
abbrev pub invariant-loop-symbol : goal.invariant-loop-symbol
invariant-loop-symbol l = record {
  many : length l.table.items ≡ l.symbol;
  each : EachInto (program_of l.p) l.table.items;
}
