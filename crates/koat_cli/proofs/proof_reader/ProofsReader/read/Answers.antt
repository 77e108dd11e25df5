use Rattle.cert_text.specs.StatedErrors.{refusal_in}
use Rattle.check_text.specs.Texts.{proof_refusal_text}
use Rattle.koat_cli.proofs.Statements.{found_stated}
use Rattle.koat_cli.proofs.proof_reader.ProofsReader.read.Goals as goal

pub returns-in_ok-refusal_text-in-Err : goal.returns-in_ok-refusal_text-in-Err
returns-in_ok-refusal_text-in-Err c =
    found_stated _ proof_refusal_text (refusal_in c.in-Err.error) c.in_ok-refusal_text-in-Err.field-0.items
    c.in-Err.ensures c.in_ok-refusal_text-in-Err.ensures.result_is c.in_ok-refusal_text-in-Err.ensures.memory
