use Rattle.std.proofs.Common.{List, length, sym, subst, Ok, Err}
use Rattle.text_grammar.specs.text_core.Reading.{answer}
use Rattle.text_grammar.specs.text_core.Tokens.{Token, AreInOrder}
use Rattle.text_grammar.specs.Results.{refused_in}
use Rattle.text_grammar.specs.Texts.{reader}
use Rattle.text_grammar.proofs.ResultLaws.{error_agrees, tree_agrees}
use Rattle.while_text.specs.declared.piece.Piece.{Piece}
use Rattle.while_text.specs.Lexing.{tokens}
use Rattle.while_text.specs.Reading.{while_text}
use Rattle.while_text.specs.Views.{source_of, refusal_in}
use Rattle.while_text.proofs.Judging.{judged}
use Rattle.while_text.proofs.Lawful.{lawful, tokens_in_order}
use Rattle.while_text.proofs.reading.judge.Goals as goal

pub read-requires-clause-lawful : goal.read-requires-clause-lawful
read-requires-clause-lawful c = lawful c.new-text.result.text.now

pub read-requires-clause-ordered : goal.read-requires-clause-ordered
read-requires-clause-ordered c =
    subst (λ (ts : List (Token Piece)). AreInOrder 0 ts (length c.args.bytes.now)) (sym c.new-cut.ensures)
    (tokens_in_order c.args.bytes.now)

pub returns-in-Ok : goal.returns-in-Ok
returns-in-Ok c =
    let bytes = c.args.bytes.now in
    tree_agrees source_of refused_in refusal_in (answer (reader (while_text bytes)) (length bytes) (tokens bytes))
    c.in-Ok.whole (judged bytes c.new-text.result.text.now _ (Ok c.in-Ok.whole) c.new-text.ensures.text c.new-cut.ensures
    c.in-Ok.ensures)

pub returns-in-Err : goal.returns-in-Err
returns-in-Err c =
    let bytes = c.args.bytes.now in
    error_agrees source_of refused_in refusal_in (answer (reader (while_text bytes)) (length bytes) (tokens bytes))
    c.in-Err.refusal c.from.result c.from.ensures
    (judged bytes c.new-text.result.text.now _ (Err c.in-Err.refusal) c.new-text.ensures.text c.new-cut.ensures
    c.in-Err.ensures)
