use Rattle.std.proofs.Common.{drop, map}
use Rattle.std.specs.Prelude.{codes}
use Rattle.its_text.specs.expr_text.text_core.Names.{name_of}
use Rattle.its_writer.specs.Layout.{each_then, arrow_by, joined_then}
use Rattle.its_writer.specs.Expressions.{name_then}
use Rattle.its_writer.specs.Printing.{Writes}
use Rattle.its_writer.proofs.rule.write_names.Given as goal

-- writing the remaining names after the text so far gives the text of all names
abbrev pub invariant-loop-name : goal.invariant-loop-name
invariant-loop-name l =
    Writes l.fn.text.items l.text.items (joined_then (codes ",") name_then (map name_of l.names)) (each_then (arrow_by (codes ",") name_then) (map name_of (drop l.name-index l.others)))
