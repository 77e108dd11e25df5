use Rattle.std.proofs.Common.{◌≡◌, drop, map}
use Rattle.its_text.specs.expr_text.text_core.Names.{name_of}
use Rattle.expr_reader.specs.Variables.{names_in}
use Rattle.its_writer.specs.Texts.{with_names}
use Rattle.its_writer.proofs.names.add_names.Given as goal

-- adding the remaining names to the current ones gives the same result as adding all to the initial ones
abbrev pub invariant-loop-name : goal.invariant-loop-name
invariant-loop-name l = with_names (names_in l.known) (map name_of (drop l.name-index l.names)) ≡ with_names (names_in l.fn.known) (map name_of l.names)
