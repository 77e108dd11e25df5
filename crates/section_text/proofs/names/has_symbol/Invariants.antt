use Rattle.std.proofs.Common.{◌≡◌, map, drop}
use Rattle.text_grammar.specs.text_core.Names.{is_among}
use Rattle.its_model.specs.Views.{symbol_of}
use Rattle.section_text.proofs.names.has_symbol.Given as goal

-- whether some symbol has the name depends on the symbols left
abbrev pub invariant-loop-symbol : goal.invariant-loop-symbol
invariant-loop-symbol l =
    is_among l.name (map (λ s. s.name) (map symbol_of (drop l.symbol-index l.symbols)))
    ≡ is_among l.name (map (λ s. s.name) (map symbol_of l.symbols))
