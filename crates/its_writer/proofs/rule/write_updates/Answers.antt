-- One more expression is written, and in the end none is left.
use Rattle.std.proofs.Common.{[], ◌∷◌, map}
use Rattle.its_text.specs.expr_text.text_core.Names.{name_of}
use Rattle.its_model.specs.poly_terms.Views.{term_of}
use Rattle.its_writer.specs.Expressions.{expression_then}
use Rattle.its_writer.proofs.Written.{written_more, written_whole}
use Rattle.its_writer.proofs.rule.write_updates.Goals as goal

pub loop-update-preserved : goal.loop-update-preserved
loop-update-preserved c =
    written_more term_of (expression_then (map name_of c.args.names.now)) (44 ∷ []) c.in-Some.others.now c.loop-update.update-index c.update-item.result c.args.text.now.items c.loop-update.text.items
    c.write_bytes.new.text.items c.write_expression-in-loop-update.new.text.items _ c.loop-update-test.true c.update-item.is c.loop-update.invariant c.in_ok-write_bytes.ensures c.in_ok-write_expression-2.ensures

pub returns : goal.returns
returns c =
    written_whole term_of (expression_then (map name_of c.args.names.now)) (44 ∷ []) c.in-Some.others.now c.loop-update.update-index c.args.text.now.items c.loop-update.text.items _ c.loop-update-test.false
    c.loop-update.invariant
