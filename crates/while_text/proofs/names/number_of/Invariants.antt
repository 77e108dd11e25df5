use Rattle.std.proofs.Common.{◌≡◌, ◌+◌, map, drop}
use Rattle.text_grammar.specs.text_core.Names.{position_of}
use Rattle.its_model.specs.Views.{name_of}
use Rattle.while_text.proofs.names.number_of.Given as goal

-- The name is none of those passed.
abbrev pub invariant-loop-name : goal.invariant-loop-name
invariant-loop-name l =
    (l.number ≡ l.name-index) × (l.number + position_of l.bytes (map name_of (drop l.name-index l.names))
    ≡ position_of l.bytes (map name_of l.names))
