use Rattle.std.proofs.Common.{drop}
use Rattle.std.specs.Prelude.{codes}
use Rattle.expr_reader.specs.Variables.{names_in}
use Rattle.its_writer.specs.Layout.{each_then, arrow_by}
use Rattle.its_writer.specs.Expressions.{name_then}
use Rattle.its_writer.specs.Printing.{Writes}
use Rattle.its_writer.proofs.names.write_variables.Given as goal

-- writing the remaining names after the text so far gives the text of all names
abbrev pub invariant-loop-i : goal.invariant-loop-i
invariant-loop-i l = Writes l.fn.text.items l.text.items (each_then (arrow_by (codes " ") name_then) (names_in l.known)) (each_then (arrow_by (codes " ") name_then) (drop l.i (names_in l.known)))
