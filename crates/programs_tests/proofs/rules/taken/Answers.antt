use Rattle.its_model.specs.Views.{program_of}
use Rattle.programs_tests.proofs.Laws.{room_for}
use Rattle.programs_tests.proofs.rules.taken.Goals as goal

pub step_checked-requires-clause-room : goal.step_checked-requires-clause-room
step_checked-requires-clause-room c =
    room_for (program_of c.args.p.now) _ c.requires.valid c.in_ok-with_capacity.ensures.capacity
