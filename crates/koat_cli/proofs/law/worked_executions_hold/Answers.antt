use Rattle.koat_cli.proofs.WorkedExecutions.{while_answers_worked, while_statuses_mean}
use Rattle.koat_cli.proofs.law.worked_executions_hold.Goals as goal

pub returns : goal.returns
returns c = record {
  answers = while_answers_worked;
  statuses = while_statuses_mean c.worked_answers_hold.ensures.steps;
}
