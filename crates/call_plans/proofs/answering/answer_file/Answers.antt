-- A file is answered by the plan: by why it has no text of the kind, or by what is said of its text.
use Rattle.std.proofs.Common.{string_bytes, refl}
use Rattle.call_plans.specs.Calls.{shelf_use_of}
use Rattle.call_plans.specs.OnFiles.{WithoutText}
use Rattle.call_plans.specs.Plans.{Answers}
use Rattle.call_plans.proofs.AfterFile.{after_file_ok, row_of_result}
use Rattle.call_plans.proofs.answering.answer_file.Goals as goal

pub returns-in-Answer-clause-says : goal.returns-in-Answer-clause-says
returns-in-Answer-clause-says g c =
    WithoutText c.in_ok-reply.ensures.counted (rw c.in-Answer.is at c.in_ok-reply.ensures.gives)

pub answer-requires-clause-read : goal.answer-requires-clause-read
answer-requires-clause-read g c =
    let given = rw c.in-Meaning.is at c.in_ok-reply.ensures.gives in (given.bytes, given.stands)

pub returns-in-Meaning-clause-says : goal.returns-in-Meaning-clause-says
returns-in-Meaning-clause-says g c =
    let before = c.args.shelf.now in
    let after = c.fetch_and_read.new.shelf in
    let reader = c.args.command.now in
    let meaning = g.C.Reader.plain c.in-Meaning.meaning in
    after_file_ok g.F.Shelf before after after (g.C.Reader.kind reader) (string_bytes c.args.file.now)
    (λ t. Answers (g.C.Reader.answers reader t)) meaning c.answer.result c.in_ok-reply.ensures.keeps_files
    c.in_ok-reply.ensures.keeps_count (rw c.in-Meaning.is at c.in_ok-reply.ensures.fault) c.in_ok-reply.ensures.counted
    (λ last. refl) (rw c.in-Meaning.is at c.in_ok-reply.ensures.gives)
    (row_of_result (shelf_use_of g.F.Shelf after after) (g.F.Shelf.fetches after) (g.C.Reader.answers reader meaning)
    c.answer.result
    refl c.answer.ensures)
