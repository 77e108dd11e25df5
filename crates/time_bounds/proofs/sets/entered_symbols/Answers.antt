use Rattle.std.proofs.Common.{List, length, replicate, get_or, None, sym, ap, ◌∙◌}
use Rattle.std.proofs.lemmas.List.{length-map}
use Rattle.its_model.specs.declared.program.Symbol.{Symbol}
use Rattle.its_model.specs.Views.{symbol_of, program_of}
use Rattle.time_bounds.specs.Shutting.{put_mark}
use Rattle.time_bounds.proofs.ShutByPlace.{no_marks, target_marked, entry_more}
use Rattle.time_bounds.proofs.sets.entered_symbols.Goals as goal

pub loop-entry-init : goal.loop-entry-init
loop-entry-init c =
    c.in_ok-marks.ensures
    ∙ (ap (λ (xs : List Symbol). replicate (length xs) None) c.deref.ensures.value ∙ no_marks (program_of c.args.p.now) 0 (length c.args.p.now.symbols.items))

pub loop-entry-preserved : goal.loop-entry-preserved
loop-entry-preserved c =
    entry_more (program_of c.args.p.now) c.args.entering.now c.loop-entry.entry-index (length c.args.p.now.symbols.items) _ _ c.requires
    (sym (length-map c.args.p.now.symbols.items symbol_of)) c.loop-entry-test.true c.loop-entry.invariant
    (c.mark.ensures ∙ ap (put_mark c.loop-entry.marks.items) c.target_of.ensures)

pub mark-requires : goal.mark-requires
mark-requires c =
    target_marked (program_of c.args.p.now) _ (get_or c.args.entering.now c.loop-entry.entry-index 0) (length c.args.p.now.symbols.items) _ _ c.requires
    (sym (length-map c.args.p.now.symbols.items symbol_of)) c.loop-entry.invariant c.target_of.ensures
