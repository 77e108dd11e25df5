use Rattle.std.proofs.Common.{◌≡◌, filter, take, Some}
use Rattle.model.specs.Paths.{target_of, same_symbol}
use Rattle.its_model.specs.Views.{program_of}
use Rattle.time_bounds.proofs.sets.entries_into.Given as goal

abbrev pub invariant-loop-entry : goal.invariant-loop-entry
invariant-loop-entry l =
    l.into.items ≡ filter (λ e. same_symbol (target_of (program_of l.p) e) (Some l.symbol)) (take l.entry-index l.entering)
