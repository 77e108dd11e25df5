-- A program file is answered by the plan: by why it has no program, or by what is said of the program.
use Rattle.std.proofs.Common.{string_bytes, refl}
use Rattle.its_model.specs.Views.{program_of}
use Rattle.its_reader.proofs.its_text.ValidPrograms.{spelled_valid}
use Rattle.call_plans.specs.Calls.{shelf_use_of}
use Rattle.call_plans.specs.OnFiles.{WithoutText}
use Rattle.model.specs.Programs.{Program}
use Rattle.call_plans.specs.Plans.{Cases, Answers}
use Rattle.call_plans.proofs.AfterFile.{after_file_ok, row_of_result}
use Rattle.koat_cli.specs.ProgramTexts.{programs}
use Rattle.koat_cli.specs.RequestPlans.{program_answers}
use Rattle.koat_cli.proofs.FewSymbols.{few_symbols}
use Rattle.koat_cli.proofs.preparation.answer_program_file.Goals as goal

pub returns-in-Answer-clause-says : goal.returns-in-Answer-clause-says
returns-in-Answer-clause-says g c =
    WithoutText c.in_ok-reply.ensures.counted (rw c.in-Answer.is at c.in_ok-reply.ensures.gives)

pub answer_program-requires-clause-valid : goal.answer_program-requires-clause-valid
answer_program-requires-clause-valid g c =
    let given = rw c.in-Meaning.is at c.in_ok-reply.ensures.gives in
    spelled_valid given.bytes (program_of c.in-Meaning.program) given.stands

pub answer_program-requires-clause-few : goal.answer_program-requires-clause-few
answer_program-requires-clause-few g c =
    let given = rw c.in-Meaning.is at c.in_ok-reply.ensures.gives in
    few_symbols given.bytes (program_of c.in-Meaning.program) given.stands

pub returns-in-Meaning-clause-says : goal.returns-in-Meaning-clause-says
returns-in-Meaning-clause-says g c =
    let before = c.args.shelf.now in
    let after = c.fetch_and_read.new.shelf in
    let p = program_of c.in-Meaning.program in
    let table : Program → Cases = λ q. program_answers c.args.task c.args.pivots q in
    after_file_ok g.F.Shelf before after after programs (string_bytes c.args.file.now) (λ q. Answers (table q)) p
    c.answer_program.result c.in_ok-reply.ensures.keeps_files c.in_ok-reply.ensures.keeps_count
    (rw c.in-Meaning.is at c.in_ok-reply.ensures.fault) c.in_ok-reply.ensures.counted (λ last. refl)
    (rw c.in-Meaning.is at c.in_ok-reply.ensures.gives)
    (row_of_result (shelf_use_of g.F.Shelf after after) (g.F.Shelf.fetches after) (table p) c.answer_program.result refl c.answer_program.ensures)
