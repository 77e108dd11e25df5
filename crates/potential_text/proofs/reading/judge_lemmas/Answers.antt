use Rattle.std.proofs.Common.{List, length, sym, subst, Ok, Err, map}
use Rattle.its_model.specs.Views.{program_of}
use Rattle.std.proofs.Common.{◌∙◌}
use Rattle.potential_types.specs.Views.{lemma_of}
use Rattle.text_grammar.specs.text_core.Reading.{answer}
use Rattle.text_grammar.specs.text_core.Tokens.{Token, AreInOrder}
use Rattle.text_grammar.specs.Results.{refused_in}
use Rattle.text_grammar.specs.Texts.{reader}
use Rattle.text_grammar.proofs.ResultLaws.{error_agrees, tree_agrees}
use Rattle.potential_text.specs.declared.kind.Part.TheVariants.{Lemmas}
use Rattle.potential_text.specs.declared.piece.Piece.{Piece}
use Rattle.potential_text.specs.Lexing.{tokens}
use Rattle.potential_text.specs.Reading.{lemmas_in, lemma_texts}
use Rattle.potential_text.specs.Refusals.{refusal_in}
use Rattle.potential_text.specs.SymbolNames.{names_in, symbol_names}
use Rattle.potential_text.proofs.JudgedLines.{judged, tokens_in_order}
use Rattle.potential_text.proofs.LawfulLines.{lawful}
use Rattle.potential_text.proofs.reading.judge_lemmas.Goals as goal

pub read-requires-clause-lawful : goal.read-requires-clause-lawful
read-requires-clause-lawful c =
    lawful lemmas_in c.new-text.result.lines.part (names_in c.new-text.result.lines.names) c.new-text.result.lines.text.now

pub read-requires-clause-ordered : goal.read-requires-clause-ordered
read-requires-clause-ordered c =
    subst (λ (ts : List (Token Piece)). AreInOrder 0 ts (length c.args.bytes.now)) (sym c.new-cut.ensures)
    (tokens_in_order c.args.bytes.now)

pub returns-in-Ok : goal.returns-in-Ok
returns-in-Ok c =
    let names = symbol_names (program_of c.args.program.now) in
    let bytes = c.args.bytes.now in
    tree_agrees (λ made. map lemma_of made.items) refused_in refusal_in (answer (reader (lemma_texts names bytes)) (length bytes) (tokens bytes))
    c.in-Ok.lemmas
    (judged lemmas_in (λ made. map lemma_of made.items) bytes c.new-text.result.lines.text.now Lemmas c.new-text.result.lines.part names
    (names_in c.new-text.result.lines.names) _ (Ok c.in-Ok.lemmas) c.new-text.ensures.part (c.new-text.ensures.names ∙ c.in_ok-names.ensures)
    c.new-text.ensures.text c.new-cut.ensures c.in-Ok.ensures)

pub returns-in-Err : goal.returns-in-Err
returns-in-Err c =
    let names = symbol_names (program_of c.args.program.now) in
    let bytes = c.args.bytes.now in
    error_agrees (λ made. map lemma_of made.items) refused_in refusal_in (answer (reader (lemma_texts names bytes)) (length bytes) (tokens bytes))
    c.in-Err.refusal c.from.result c.from.ensures
    (judged lemmas_in (λ made. map lemma_of made.items) bytes c.new-text.result.lines.text.now Lemmas c.new-text.result.lines.part names
    (names_in c.new-text.result.lines.names) _ (Err c.in-Err.refusal) c.new-text.ensures.part (c.new-text.ensures.names ∙ c.in_ok-names.ensures)
    c.new-text.ensures.text c.new-cut.ensures c.in-Err.ensures)
