use Rattle.std.proofs.Common.{◌≡◌, ◌-◌, length, map, ◌++◌}
use Rattle.std.specs.Prelude.{drop}
use Rattle.its_model.specs.Views.{symbol_of}
use Rattle.expr_reader.specs.Variables.{names_in}
use Rattle.its_reader.specs.Finishing.{tabled}
use Rattle.its_reader.proofs.finish.symbols_from.Given as goal

abbrev pub invariant-loop-listed : goal.invariant-loop-listed
invariant-loop-listed l = map symbol_of l.made.items ++ drop (length l.made.items)
    (tabled (names_in l.symbols.names) l.symbols.arities.items)
    ≡ tabled (names_in l.symbols.names) l.symbols.arities.items

abbrev pub decreases-loop-listed : goal.decreases-loop-listed
decreases-loop-listed l = length (tabled (names_in l.symbols.names) l.symbols.arities.items) - length l.made.items
