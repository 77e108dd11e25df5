use Rattle.rvg_components.specs.Listing.{answer_lists, local_from}
use Rattle.time_bounds.specs.Candidates.{AreArmed}
use Rattle.time_bounds.proofs.candidates.with_side_bounds.Given as goal

abbrev pub invariant-loop-component : goal.invariant-loop-component
invariant-loop-component l = AreArmed (local_from (answer_lists l.locals)) l.yielded l.candidates.items
