use Rattle.koat_cli.proofs.WorkedAnswers.{figures_worked, lasso_texts_worked, answers_worked}
use Rattle.koat_cli.proofs.law.worked_answers_hold.Goals as goal

pub returns : goal.returns
returns c = record { figures = figures_worked; lassos = lasso_texts_worked; answers = answers_worked }
