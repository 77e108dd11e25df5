use Rattle.while_answer.proofs.Executed.{executions_follow}
use Rattle.while_answer.proofs.law.executions_follow_runs.Goals as goal

pub returns : goal.returns
returns c = executions_follow
