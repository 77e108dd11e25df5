use Rattle.std.proofs.Common.{◌≡◌, ◌++◌, map, drop}
use Rattle.its_model.specs.Views.{name_of}
use Rattle.potential_text.proofs.names.SymbolNames.new.Given as goal

-- the names in the set and those of the symbols that are left are those of all symbols
abbrev pub invariant-loop-symbol : goal.invariant-loop-symbol
invariant-loop-symbol l =
    map (λ k. k.now) l.set.keys ++ map (λ s. name_of s.name) (drop l.symbol-index l.symbols) ≡ map (λ s. name_of s.name) l.symbols
