-- How runs of the translation bound executions.
use Rattle.model.proofs.SpendingSums.{plain_totals_are_lengths}
use Rattle.while_model.proofs.Translating.{executions_are_runs, totals_bound_executions}
use Rattle.while_front.proofs.ValidPrograms.{readable_are_valid}
use Rattle.while_answer.specs.Laws.{ExecutionsFollowRuns}

pub executions_follow : ExecutionsFollowRuns
executions_follow = record {
  valid = λ source within. readable_are_valid.each source.names source.program within;
  ends = λ source within. record {
    each = λ start places n end. (
      executions_are_runs.run source.names source.program within.nonempty start places n end,
      λ run. (executions_are_runs.execution source.names source.program within.nonempty start n end run).1,
    );
  };
  bounded = λ source bound within total. record {
    each = (totals_bound_executions plain_totals_are_lengths).each source.names source.program within.nonempty bound
        total;
  };
}
