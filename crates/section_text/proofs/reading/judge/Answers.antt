use Rattle.std.proofs.Common.{List, length, sym, subst, ap, Ok, Err}
use Rattle.its_model.specs.Views.{program_of}
use Rattle.refined_programs.specs.Views.{annotated_of}
use Rattle.text_grammar.specs.text_core.Reading.{answer}
use Rattle.text_grammar.specs.text_core.Tokens.{Token, AreInOrder}
use Rattle.text_grammar.specs.Results.{refused_in}
use Rattle.text_grammar.specs.Texts.{reader}
use Rattle.text_grammar.proofs.ResultLaws.{error_agrees, tree_agrees}
use Rattle.section_text.specs.declared.piece.Piece.{Piece}
use Rattle.section_text.specs.Lexing.{tokens}
use Rattle.section_text.specs.Reading.{sections_of}
use Rattle.section_text.specs.Refusals.{refusal_in}
use Rattle.section_text.proofs.Judging.{judged, tokens_in_order}
use Rattle.section_text.proofs.Lawful.{lawful}
use Rattle.section_text.proofs.reading.judge.Goals as goal

pub read-requires-clause-lawful : goal.read-requires-clause-lawful
read-requires-clause-lawful c = lawful (program_of c.new-text.result.program.now) c.new-text.result.text.now

pub read-requires-clause-ordered : goal.read-requires-clause-ordered
read-requires-clause-ordered c =
    subst (λ (ts : List (Token Piece)). AreInOrder 0 ts (length c.args.bytes.now)) (sym c.new-cut.ensures)
    (tokens_in_order c.args.bytes.now)

pub returns-in-Ok : goal.returns-in-Ok
returns-in-Ok c =
    let p = program_of c.args.program.now in
    let bytes = c.args.bytes.now in
    tree_agrees annotated_of refused_in refusal_in (answer (reader (sections_of p bytes)) (length bytes) (tokens bytes))
    c.in-Ok.section
    (judged bytes c.new-text.result.text.now p (program_of c.new-text.result.program.now) _ (Ok c.in-Ok.section)
    (ap program_of c.new-text.ensures.program) c.new-text.ensures.text c.new-cut.ensures c.in-Ok.ensures)

pub returns-in-Err : goal.returns-in-Err
returns-in-Err c =
    let p = program_of c.args.program.now in
    let bytes = c.args.bytes.now in
    error_agrees annotated_of refused_in refusal_in (answer (reader (sections_of p bytes)) (length bytes) (tokens bytes))
    c.in-Err.refusal c.from.result c.from.ensures
    (judged bytes c.new-text.result.text.now p (program_of c.new-text.result.program.now) _ (Err c.in-Err.refusal)
    (ap program_of c.new-text.ensures.program) c.new-text.ensures.text c.new-cut.ensures c.in-Err.ensures)
