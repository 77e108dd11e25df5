use Rattle.measuring.proofs.runs.steps_replayed.Goals as goal

-- a run file that is read has a value for each place of the start symbol
pub measure_replay-requires-clause-start : goal.measure_replay-requires-clause-start
measure_replay-requires-clause-start c = c.in-Ok-read_run.ensures.answer.within.start
