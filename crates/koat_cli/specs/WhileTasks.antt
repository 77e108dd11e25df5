-- The answers on a while program, by the task.
use Rattle.while_answer.specs.while_text.Reading.{Source}
use Rattle.call_plans.specs.Plans.{Cases}
use Rattle.koat_cli.specs.declared.while_task.WhileTask.{WhileTask}
use Rattle.koat_cli.specs.declared.while_task.WhileTask.TheVariants.{Executions, Translate}
use Rattle.koat_cli.specs.Commands.While.{while_answers}
use Rattle.koat_cli.specs.Commands.Translate.{translate_answers}

-- the rows of the table of a task
abbrev pub task_answers : WhileTask → Source → Cases
task_answers (Executions pivots) source = while_answers pivots source
task_answers Translate source = translate_answers source
