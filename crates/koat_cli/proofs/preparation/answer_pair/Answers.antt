-- The first of two files is answered by the plan, and after it the second one.
use Rattle.std.proofs.Common.{string_bytes}
use Rattle.its_model.specs.Views.{program_of}
use Rattle.its_reader.proofs.its_text.ValidPrograms.{spelled_valid}
use Rattle.call_plans.specs.OnFiles.{WithoutText}
use Rattle.call_plans.proofs.AfterFile.{after_file_ok}
use Rattle.koat_cli.specs.ProgramTexts.{programs}
use Rattle.koat_cli.specs.RequestPlans.{second_plan}
use Rattle.koat_cli.proofs.FewSymbols.{few_symbols}
use Rattle.koat_cli.proofs.LawfulPlans.{second_not_last}
use Rattle.koat_cli.proofs.preparation.answer_pair.Goals as goal

pub returns-in-Answer-clause-says : goal.returns-in-Answer-clause-says
returns-in-Answer-clause-says g c =
    WithoutText c.in_ok-reply.ensures.counted (rw c.in-Answer.is at c.in_ok-reply.ensures.gives)

pub answer_second_file-requires-clause-valid : goal.answer_second_file-requires-clause-valid
answer_second_file-requires-clause-valid g c =
    let given = rw c.in-Meaning.is at c.in_ok-reply.ensures.gives in
    spelled_valid given.bytes (program_of c.in-Meaning.program) given.stands

pub answer_second_file-requires-clause-few : goal.answer_second_file-requires-clause-few
answer_second_file-requires-clause-few g c =
    let given = rw c.in-Meaning.is at c.in_ok-reply.ensures.gives in
    few_symbols given.bytes (program_of c.in-Meaning.program) given.stands

pub returns-in-Meaning-clause-says : goal.returns-in-Meaning-clause-says
returns-in-Meaning-clause-says g c =
    let p = program_of c.in-Meaning.program in
    let second = string_bytes c.args.second.now in
    after_file_ok g.F.Shelf c.args.shelf.now c.fetch_and_read.new.shelf c.answer_second_file.new.shelf programs
    (string_bytes c.args.file.now) (λ q. second_plan c.args.task q second) p c.answer_second_file.result
    c.in_ok-reply.ensures.keeps_files c.in_ok-reply.ensures.keeps_count
    (rw c.in-Meaning.is at c.in_ok-reply.ensures.fault) c.in_ok-reply.ensures.counted
    (λ last. absurd (second_not_last c.args.task p second last))
    (rw c.in-Meaning.is at c.in_ok-reply.ensures.gives) c.answer_second_file.ensures.says
