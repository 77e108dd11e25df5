use Rattle.std.proofs.Common.{◌∙◌, length, arith}
use Rattle.its_model.specs.Views.{program_of}
use Rattle.size_bounds.specs.Tables.{table_of}
use Rattle.time_bounds.proofs.ShutByPlace.{mark_if, mark_pushed, marks_long, symbols_whole}
use Rattle.time_bounds.proofs.sets.shut_places.Goals as goal

pub push_marked-requires-clause-within : goal.push_marked-requires-clause-within
push_marked-requires-clause-within c =
    mark_if (program_of c.args.cx.now.program.now) c.args.entering.now (length c.args.cx.now.program.now.symbols.items) c.loop-mark.mark-index _ c.loop-mark-test.true
    (c.deref-mark-items.ensures.value ∙ c.in_ok-marks.ensures)

pub loop-mark-preserved : goal.loop-mark-preserved
loop-mark-preserved c =
    let marks = c.deref-mark-items.ensures.value ∙ c.in_ok-marks.ensures in
    let long = marks_long (program_of c.args.cx.now.program.now) c.args.entering.now (length c.args.cx.now.program.now.symbols.items) _ marks in
    mark_pushed (program_of c.args.cx.now.program.now) (table_of c.args.table.now) c.args.entering.now (length c.args.cx.now.program.now.symbols.items) c.loop-mark.mark-index _ _ _ _
    (omega (arith, c.loop-mark-test.true, long)) marks c.loop-mark.invariant c.in_ok-push_marked.ensures

pub returns : goal.returns
returns c =
    let marks = c.deref-mark-items.ensures.value ∙ c.in_ok-marks.ensures in
    let long = marks_long (program_of c.args.cx.now.program.now) c.args.entering.now (length c.args.cx.now.program.now.symbols.items) _ marks in
    symbols_whole (program_of c.args.cx.now.program.now) (table_of c.args.table.now) c.args.entering.now c.loop-mark.mark-index (length c.args.cx.now.program.now.symbols.items) _ _
    (omega (arith, c.loop-mark-test.false, long)) c.loop-mark.invariant
