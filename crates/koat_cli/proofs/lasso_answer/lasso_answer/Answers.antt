use Rattle.its_model.specs.Views.{program_of}
use Rattle.lasso_forms.specs.Views.{file_of, turn_of}
use Rattle.koat_cli.proofs.LassoAnswers.{turn_answered, obstacle_answered}
use Rattle.koat_cli.proofs.lasso_answer.lasso_answer.Goals as goal

pub returns-in_ok-turn_lines-in-Ok : goal.returns-in_ok-turn_lines-in-Ok
returns-in_ok-turn_lines-in-Ok c =
    turn_answered c.endless_turns_have_no_time.ensures (program_of c.args.program.now) (file_of c.args.file.now)
    (turn_of c.in-Ok.turn) c.in_ok-turn_lines-in-Ok.field-0.items c.in-Ok.ensures.answer c.in_ok-turn_lines-in-Ok.ensures

pub returns-in_ok-obstacle_lines-in-Err : goal.returns-in_ok-obstacle_lines-in-Err
returns-in_ok-obstacle_lines-in-Err c =
    obstacle_answered (program_of c.args.program.now) (file_of c.args.file.now) c.in-Err.error
    c.in_ok-obstacle_lines-in-Err.field-0.items c.in-Err.ensures.answer c.in_ok-obstacle_lines-in-Err.ensures.result_is
    c.in_ok-obstacle_lines-in-Err.ensures.memory
