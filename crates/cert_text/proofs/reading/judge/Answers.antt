use Rattle.std.proofs.Common.{List, length, sym, subst, ap, Ok, Err, ◌∙◌}
use Rattle.its_model.specs.Views.{program_of}
use Rattle.cert_types.specs.AnswerViews.{file_of}
use Rattle.text_grammar.specs.text_core.Reading.{answer}
use Rattle.text_grammar.specs.text_core.Tokens.{Lexer, Token, AreInOrder, tokens_in}
use Rattle.text_grammar.specs.Results.{refused_in}
use Rattle.text_grammar.specs.Texts.{reader}
use Rattle.text_grammar.proofs.ResultLaws.{error_agrees, tree_agrees}
use Rattle.cert_lexer.specs.declared.piece.Mode.{Mode}
use Rattle.cert_lexer.specs.declared.piece.Mode.TheVariants as mode
use Rattle.cert_lexer.specs.declared.piece.Piece.{Piece}
use Rattle.cert_lexer.specs.Lexing.{tokens}
use Rattle.cert_text.specs.Reading.{proofs_of}
use Rattle.cert_text.specs.StatedErrors.{refusal_in}
use Rattle.cert_text.proofs.Judging.{judged, tokens_in_order}
use Rattle.cert_text.proofs.Lawful.{lawful}
use Rattle.cert_text.proofs.reading.judge.Goals as goal

pub read-requires-clause-lawful : goal.read-requires-clause-lawful
read-requires-clause-lawful c = lawful (program_of c.new-text.result.program.now)

pub read-requires-clause-ordered : goal.read-requires-clause-ordered
read-requires-clause-ordered c =
    subst (λ (ts : List (Token Piece)). AreInOrder 0 ts (length c.args.bytes.now))
    (sym (c.new-cut.ensures
    ∙ ap (λ (x : Lexer Piece Mode). tokens_in x mode.Beginning 0 0 c.args.bytes.now) c.in_ok-lexer.ensures))
    (tokens_in_order (program_of c.args.p.now) c.args.bytes.now)

pub returns-in-Ok : goal.returns-in-Ok
returns-in-Ok c =
    let p = program_of c.args.p.now in
    let bytes = c.args.bytes.now in
    tree_agrees file_of refused_in refusal_in (answer (reader (proofs_of p)) (length bytes) (tokens p bytes)) c.in-Ok.file
    (judged bytes p (program_of c.new-text.result.program.now) _ (Ok c.in-Ok.file)
    (ap program_of c.new-text.ensures.program)
    (c.new-cut.ensures
    ∙ ap (λ (x : Lexer Piece Mode). tokens_in x mode.Beginning 0 0 bytes) c.in_ok-lexer.ensures) c.in-Ok.ensures)

pub returns-in-Err : goal.returns-in-Err
returns-in-Err c =
    let p = program_of c.args.p.now in
    let bytes = c.args.bytes.now in
    error_agrees file_of refused_in refusal_in (answer (reader (proofs_of p)) (length bytes) (tokens p bytes))
    c.in-Err.refusal c.from.result c.from.ensures
    (judged bytes p (program_of c.new-text.result.program.now) _ (Err c.in-Err.refusal)
    (ap program_of c.new-text.ensures.program)
    (c.new-cut.ensures
    ∙ ap (λ (x : Lexer Piece Mode). tokens_in x mode.Beginning 0 0 bytes) c.in_ok-lexer.ensures) c.in-Err.ensures)
