use Rattle.std.proofs.Common.{◌≡◌, take}
use Rattle.std.specs.Prelude.{map}
use Rattle.its_model.specs.Views.{symbol_of}
use Rattle.location_facts.proofs.copies.copied_symbols.Given as goal

-- the symbols so far are copied
abbrev pub invariant-loop-symbol : goal.invariant-loop-symbol
invariant-loop-symbol l = map symbol_of l.copies.items ≡ map symbol_of (take l.symbol-index l.symbols)
