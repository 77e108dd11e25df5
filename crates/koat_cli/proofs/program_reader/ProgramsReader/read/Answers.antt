-- What reading the bytes gives is the program that they spell, or their first fault.
use Rattle.std.proofs.Common.{◌≡◌, true, false}
use Rattle.its_model.specs.Views.{program_of}
use Rattle.its_reader.specs.its_text.Answers.{verdict}
use Rattle.its_reader.proofs.its_text.SpelledVerdicts.{verdict_spells}
use Rattle.koat_cli.proofs.ReadPrograms.{read_program_parsed, refused_first}
use Rattle.koat_cli.proofs.program_reader.ProgramsReader.read.Goals as goal

pub returns-in-Ok : goal.returns-in-Ok
returns-in-Ok c =
    verdict_spells c.args.bytes.now (program_of c.in-Ok.program)
    (read_program_parsed (verdict c.args.bytes.now) c.in-Ok.program c.in-Ok.ensures.says)

pub returns-in_ok-refusal-in-Err : goal.returns-in_ok-refusal-in-Err
returns-in_ok-refusal-in-Err c =
    refused_first c.args.bytes.now c.in-Err.error c.in_ok-refusal-in-Err.field-0.items c.in-Err.ensures.says
    c.in_ok-refusal-in-Err.ensures.result_is (λ none. apart (c.in_ok-refusal-in-Err.ensures.memory none))
  where
    apart : false ≡ true → ⊥
    apart e = cc
