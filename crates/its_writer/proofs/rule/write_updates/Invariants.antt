use Rattle.std.proofs.Common.{drop, map}
use Rattle.std.specs.Prelude.{codes}
use Rattle.its_text.specs.expr_text.text_core.Names.{name_of}
use Rattle.its_model.specs.poly_terms.Views.{term_of}
use Rattle.its_writer.specs.Layout.{each_then, arrow_by, joined_then}
use Rattle.its_writer.specs.Expressions.{expression_then}
use Rattle.its_writer.specs.Printing.{Writes}
use Rattle.its_writer.proofs.rule.write_updates.Given as goal

-- writing the remaining expressions after the text so far gives the text of all expressions
abbrev pub invariant-loop-update : goal.invariant-loop-update
invariant-loop-update l =
    Writes l.fn.text.items l.text.items (joined_then (codes ",") (expression_then (map name_of l.names)) (map term_of l.updates))
    (each_then (arrow_by (codes ",") (expression_then (map name_of l.names))) (map term_of (drop l.update-index l.others)))
