use Rattle.while_answer.proofs.WorkedAnswers.{texts_worked, steps_worked}
use Rattle.while_answer.proofs.law.worked_answers_hold.Goals as goal

pub returns : goal.returns
returns c = record { texts = texts_worked; steps = steps_worked c.worked_values_hold.ensures.executed }
