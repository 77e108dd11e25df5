use Rattle.while_answer.specs.Texts.{refusal_text}
use Rattle.while_answer.specs.while_text.Views.{refusal_in}
use Rattle.koat_cli.proofs.Statements.{found_stated}
use Rattle.koat_cli.proofs.while_reader.WhileProgramsReader.read.Goals as goal

pub returns-in-Ok : goal.returns-in-Ok
returns-in-Ok c = record { spelled = c.in-Ok.ensures.answer; within = c.in-Ok.ensures.readable }

pub returns-in_ok-refusal_text-in-Err : goal.returns-in_ok-refusal_text-in-Err
returns-in_ok-refusal_text-in-Err c =
    found_stated _ refusal_text (refusal_in c.in-Err.error) c.in_ok-refusal_text-in-Err.field-0.items
    c.in-Err.ensures.answer c.in_ok-refusal_text-in-Err.ensures.result_is c.in_ok-refusal_text-in-Err.ensures.memory
