use Rattle.std.proofs.Common.{take}
use Rattle.its_model.specs.Views.{program_of}
use Rattle.rvg_components.specs.Listing.{answer_lists}
use Rattle.time_bounds.specs.Locals.{AreAllAnswers}
use Rattle.time_bounds.proofs.locals.all_locals.Given as goal

abbrev pub invariant-loop-position : goal.invariant-loop-position
invariant-loop-position l = AreAllAnswers (program_of l.cx.program.now) l.cx.pivots 1 (take l.position l.rule_statuses) (answer_lists l.locals.items)
