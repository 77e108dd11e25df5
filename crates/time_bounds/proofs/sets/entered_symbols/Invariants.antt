use Rattle.std.proofs.Common.{◌≡◌, take, length}
use Rattle.its_model.specs.Views.{program_of}
use Rattle.time_bounds.specs.Shutting.{marks_of}
use Rattle.time_bounds.proofs.sets.entered_symbols.Given as goal

abbrev pub invariant-loop-entry : goal.invariant-loop-entry
invariant-loop-entry l = l.marks.items ≡ marks_of (program_of l.p) (take l.entry-index l.entering) (length l.p.symbols.items)
