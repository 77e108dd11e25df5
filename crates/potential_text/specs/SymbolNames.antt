-- The names of a program's symbols, in their order.
use Rattle.std.specs.Prelude.{List, map}
use Rattle.its_model.specs.model.Programs.{Name, Program}
use Rattle.potential_text.specs.declared.names.SymbolNames.{SymbolNames}

-- the names of a table
abbrev pub names_in : SymbolNames → List Name
names_in l = map (λ k. k.now) l.names.keys

-- the names of a program's symbols
abbrev pub symbol_names : Program → List Name
symbol_names p = map (λ s. s.name) p.symbols
