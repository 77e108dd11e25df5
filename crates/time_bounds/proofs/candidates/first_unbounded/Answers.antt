use Rattle.std.proofs.Common.{◌≡◌, Some}
use Rattle.local_size.specs.declared.answer.LocalAnswer.{LocalAnswer}
use Rattle.rvg_components.specs.Listing.{answer_lists}
use Rattle.time_bounds.specs.Locals.{answer_in}
use Rattle.time_bounds.proofs.SideBoundLists.{of_result_variables}
use Rattle.time_bounds.proofs.candidates.first_unbounded.Goals as goal

pub answer_at-requires : goal.answer_at-requires
answer_at-requires c =
    of_result_variables (λ m. (a : LocalAnswer) × (answer_in (answer_lists c.args.locals.now) m.rule m.place ≡ Some a)) c.args.result_variables.now c.loop-result_variable.result_variable-index
    (record { rule = 0; place = 0 }) c.requires c.loop-result_variable-test.true
