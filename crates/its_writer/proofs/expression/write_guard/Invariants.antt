use Rattle.std.proofs.Common.{drop, map}
use Rattle.std.specs.Prelude.{codes}
use Rattle.its_text.specs.expr_text.text_core.Names.{name_of}
use Rattle.its_model.specs.Views.{atom_of}
use Rattle.its_writer.specs.Layout.{each_then, arrow_by}
use Rattle.its_writer.specs.Expressions.{atom_then, guard_then}
use Rattle.its_writer.specs.Printing.{Writes}
use Rattle.its_writer.proofs.expression.write_guard.Given as goal

-- writing the remaining atoms after the text so far gives the text of the guard
abbrev pub invariant-loop-atom : goal.invariant-loop-atom
invariant-loop-atom l =
    Writes l.fn.text.items l.text.items (guard_then (map name_of l.names) (map atom_of l.guard)) (each_then (arrow_by (codes " && ") (atom_then (map name_of l.names))) (map atom_of (drop l.atom-index l.others)))
