use Rattle.std.proofs.Common.{◌≡◌, ◌+◌, map, drop}
use Rattle.text_grammar.specs.text_core.Names.{position_of}
use Rattle.its_model.specs.Views.{symbol_of}
use Rattle.section_text.proofs.names.symbol_position.Given as goal

-- the name is that of none of the symbols passed
abbrev pub invariant-loop-symbol : goal.invariant-loop-symbol
invariant-loop-symbol l =
    (l.position ≡ l.symbol-index)
    × (l.position + position_of l.name (map (λ s. s.name) (map symbol_of (drop l.symbol-index l.symbols)))
    ≡ position_of l.name (map (λ s. s.name) (map symbol_of l.symbols)))
