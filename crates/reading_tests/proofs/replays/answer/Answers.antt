use Rattle.reading_tests.proofs.replays.answer.Goals as goal

-- a run file that is read has a value for each place of the start symbol
pub replay-requires-clause-start : goal.replay-requires-clause-start
replay-requires-clause-start c = c.in-Ok-read_run.ensures.answer.within.start
