use Rattle.run_replay.specs.Views.{refusal_in}
use Rattle.koat_cli.specs.RunTexts.{run_refusal_text}
use Rattle.koat_cli.proofs.Statements.{found_stated}
use Rattle.koat_cli.proofs.run_reader.RunsReader.read.Goals as goal

pub returns-in_ok-run_refusal-in-Err : goal.returns-in_ok-run_refusal-in-Err
returns-in_ok-run_refusal-in-Err c =
    found_stated _ run_refusal_text (refusal_in c.in-Err.error) c.in_ok-run_refusal-in-Err.field-0.items
    c.in-Err.ensures.answer c.in_ok-run_refusal-in-Err.ensures.result_is c.in_ok-run_refusal-in-Err.ensures.memory
