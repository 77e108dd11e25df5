use Rattle.std.proofs.Common.{◌≡◌, map, drop}
use Rattle.text_grammar.specs.text_core.Names.{is_among}
use Rattle.its_model.specs.Views.{name_of}
use Rattle.while_text.proofs.names.is_among.Given as goal

-- The names left decide the answer.
abbrev pub invariant-loop-name : goal.invariant-loop-name
invariant-loop-name l =
    is_among l.bytes (map name_of (drop l.name-index l.names)) ≡ is_among l.bytes (map name_of l.names)
