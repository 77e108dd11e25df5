use Rattle.std.proofs.Common.{List, length, sym, subst, Ok, Err}
use Rattle.std.specs.Prelude.{[]}
use Rattle.claim_types.specs.Views.{claims_of}
use Rattle.text_grammar.specs.text_core.Reading.{answer}
use Rattle.text_grammar.specs.text_core.Tokens.{Token, AreInOrder}
use Rattle.text_grammar.specs.Results.{refused_in}
use Rattle.text_grammar.specs.Texts.{reader}
use Rattle.text_grammar.proofs.ResultLaws.{error_agrees, tree_agrees}
use Rattle.potential_text.specs.declared.kind.Part.TheVariants.{Claims}
use Rattle.potential_text.specs.declared.piece.Piece.{Piece}
use Rattle.potential_text.specs.Lexing.{tokens}
use Rattle.potential_text.specs.Reading.{claims_in, claim_texts}
use Rattle.potential_text.specs.Refusals.{refusal_in}
use Rattle.potential_text.specs.SymbolNames.{names_in}
use Rattle.potential_text.proofs.JudgedLines.{judged, tokens_in_order}
use Rattle.potential_text.proofs.LawfulLines.{lawful}
use Rattle.potential_text.proofs.reading.judge_claims.Goals as goal

pub read-requires-clause-lawful : goal.read-requires-clause-lawful
read-requires-clause-lawful c =
    lawful claims_in c.new-text.result.lines.part (names_in c.new-text.result.lines.names) c.new-text.result.lines.text.now

pub read-requires-clause-ordered : goal.read-requires-clause-ordered
read-requires-clause-ordered c =
    subst (λ (ts : List (Token Piece)). AreInOrder 0 ts (length c.args.bytes.now)) (sym c.new-cut.ensures)
    (tokens_in_order c.args.bytes.now)

pub returns-in-Ok : goal.returns-in-Ok
returns-in-Ok c =
    let names = [] in
    let bytes = c.args.bytes.now in
    tree_agrees (λ made. claims_of made.items) refused_in refusal_in (answer (reader (claim_texts bytes)) (length bytes) (tokens bytes))
    c.in-Ok.claims
    (judged claims_in (λ made. claims_of made.items) bytes c.new-text.result.lines.text.now Claims c.new-text.result.lines.part names
    (names_in c.new-text.result.lines.names) _ (Ok c.in-Ok.claims) c.new-text.ensures.part c.new-text.ensures.names
    c.new-text.ensures.text c.new-cut.ensures c.in-Ok.ensures)

pub returns-in-Err : goal.returns-in-Err
returns-in-Err c =
    let names = [] in
    let bytes = c.args.bytes.now in
    error_agrees (λ made. claims_of made.items) refused_in refusal_in (answer (reader (claim_texts bytes)) (length bytes) (tokens bytes))
    c.in-Err.refusal c.from.result c.from.ensures
    (judged claims_in (λ made. claims_of made.items) bytes c.new-text.result.lines.text.now Claims c.new-text.result.lines.part names
    (names_in c.new-text.result.lines.names) _ (Err c.in-Err.refusal) c.new-text.ensures.part c.new-text.ensures.names
    c.new-text.ensures.text c.new-cut.ensures c.in-Err.ensures)
