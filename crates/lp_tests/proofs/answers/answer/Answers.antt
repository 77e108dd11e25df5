use Rattle.lp_tests.proofs.answers.answer.Goals as goal

pub solved-requires : goal.solved-requires
solved-requires c = c.in-Ok.ensures.answer.within
