-- The answer to each kind of request is one that the call's plan allows.
use Rattle.std.proofs.Common.{refl, map, string_bytes}
use Rattle.command_line.specs.declared.request.Request.TheVariants as requests
use Rattle.command_line.specs.Requests.{OfFile}
use Rattle.call_plans.proofs.AfterFile.{row_of_result}
use Rattle.koat_cli.specs.Calls.{call_of}
use Rattle.koat_cli.specs.RequestPlans.{number_answers}
use Rattle.koat_cli.proofs.LawfulPlans.{file_not_last}
use Rattle.koat_cli.proofs.Preparing.{asked, prepared_answer_is_answer}
use Rattle.koat_cli.proofs.preparation.prepare.Goals as goal

pub returns-in-Some-OfProgram-clause-says : goal.returns-in-Some-OfProgram-clause-says
returns-in-Some-OfProgram-clause-says g c =
    let w = c.in-Some-OfProgram in
    prepared_answer_is_answer (call_of g.F.Shelf c.args.words.now c.args.shelf.now c.answer_program_file.new.shelf) c.in_ok-task.field-0
    (requests.OfProgram w.task w.pivots w.file) c.answer_program_file.result (cc (w.is, w.field-0-is)) c.in_ok-task.ensures
    c.answer_program_file.ensures.says

pub returns-in-Some-OfPair-clause-says : goal.returns-in-Some-OfPair-clause-says
returns-in-Some-OfPair-clause-says g c =
    let w = c.in-Some-OfPair in
    prepared_answer_is_answer (call_of g.F.Shelf c.args.words.now c.args.shelf.now c.answer_pair.new.shelf) c.in_ok-task.field-0
    (requests.OfPair w.task w.file w.second) c.answer_pair.result (cc (w.is, w.field-0-is)) c.in_ok-task.ensures
    c.answer_pair.ensures.says

pub returns-in-Some-OfFile-clause-says : goal.returns-in-Some-OfFile-clause-says
returns-in-Some-OfFile-clause-says g c =
    let w = c.in-Some-OfFile in
    prepared_answer_is_answer (call_of g.F.Shelf c.args.words.now c.args.shelf.now c.answer_other_file.new.shelf) c.in_ok-task.field-0
    (requests.OfFile w.task w.file) c.answer_other_file.result (cc (w.is, w.field-0-is)) c.in_ok-task.ensures
    c.answer_other_file.ensures.says

pub returns-in-Some-OfFile-clause-untouched : goal.returns-in-Some-OfFile-clause-untouched
returns-in-Some-OfFile-clause-untouched g c nothing =
    let w = c.in-Some-OfFile in
    absurd (file_not_last w.task (string_bytes w.file)
    (nothing (OfFile w.task (string_bytes w.file))
    (asked (map string_bytes c.args.words.now) c.in_ok-task.field-0 (requests.OfFile w.task w.file)
    (cc (w.is, w.field-0-is)) c.in_ok-task.ensures)))

pub returns-in-Some-OfNumber-clause-says : goal.returns-in-Some-OfNumber-clause-says
returns-in-Some-OfNumber-clause-says g c =
    let w = c.in-Some-OfNumber in
    let call = call_of g.F.Shelf c.args.words.now c.args.shelf.now c.args.shelf.now in
    prepared_answer_is_answer call c.in_ok-task.field-0 (requests.OfNumber w.task w.n) c.answer_number.result (cc (w.is, w.field-0-is))
    c.in_ok-task.ensures
    (row_of_result call.shelf call.fetches_before (number_answers w.task w.n) c.answer_number.result refl c.answer_number.ensures)

pub returns-in-Some-While-clause-says : goal.returns-in-Some-While-clause-says
returns-in-Some-While-clause-says g c =
    let w = c.in-Some-While in
    prepared_answer_is_answer (call_of g.F.Shelf c.args.words.now c.args.shelf.now c.answer_while_file.new.shelf) c.in_ok-task.field-0
    (requests.While w.pivots w.file) c.answer_while_file.result (cc (w.is, w.field-0-is)) c.in_ok-task.ensures
    c.answer_while_file.ensures.says
