use Rattle.std.proofs.Common.{refl, sym, subst, ap, ◌∙◌, map, length, List, Err}
use Rattle.std.proofs.lemmas.List.{length-map}
use Rattle.text_core.specs.model.Programs as plain
use Rattle.text_core.specs.Names.{name_of}
use Rattle.text_core.specs.Reading.{answer}
use Rattle.text_core.proofs.PositionLaws.{names_distinct}
use Rattle.bound_text.specs.Printing.{piece_of}
use Rattle.bound_text.specs.Lexemes.{lexeme_of}
use Rattle.bound_text.specs.Lexing.{tokens, lexeme_at}
use Rattle.bound_text.specs.Reading.{bounds}
use Rattle.bound_text.specs.Views.{state_of, Says}
use Rattle.bound_text.specs.declared.error.BoundTextError.{BoundTextError}
use Rattle.bound_text.proofs.ReadingLaws.{Decides, decides_first, decides_on, decides_not, settled_front}
use Rattle.bound_text.proofs.ReadingLaws.{says_passed_on}
use Rattle.bound_text.proofs.reading.judge.Goals as goal

pub new-requires : goal.new-requires
new-requires c = names_distinct (map name_of c.args.names.now) c.requires

pub returns-in_err-listed : goal.returns-in_err-listed
returns-in_err-listed c = says_passed_on _ c.from_residual.result c.from_residual.ensures.1

pub loop-first-init : goal.loop-first-init
loop-first-init c = (subst (Decides (map name_of c.args.names.now) c.args.bytes.now c.args.bytes.now) (sym c.new-reader.ensures.front) (decides_first (map name_of c.args.names.now) c.args.bytes.now), c.new-reader.ensures.settled)

pub returns-in_err-lexeme : goal.returns-in_err-lexeme
returns-in_err-lexeme c = says_passed_on _ c.from_residual-in_err-lexeme.result c.from_residual-in_err-lexeme.ensures.1

pub returns-in-Err : goal.returns-in-Err
returns-in-Err c =
    subst (λ (e : BoundTextError). Says (answer (bounds (length (map name_of c.args.names.now))) (length c.args.bytes.now) (tokens (map name_of c.args.names.now) c.args.bytes.now)) (Err e)) (sym c.at.ensures)
    (decides_not (map name_of c.args.names.now) c.args.bytes.now c.loop-first.rest.now c.in-Some.others.now c.split_at.result.1.now c.in-Some.first.now (lexeme_of c.in_ok-lexeme.lexeme)
    c.in-Some.ensures.cases.0 (c.in_ok-lexeme.ensures.piece ∙ ap (λ (ns : List plain.Name). lexeme_at ns c.in-Some.first.now c.in-Some.others.now) c.in_ok-listed.ensures) c.in_ok-lexeme.ensures.some c.in_ok-lexeme.ensures.within
    c.split_at.ensures.back c.loop-first.invariant.0.within (length c.args.names.now) (state_of c.loop-first.reader) c.take.new.self (piece_of c.in_ok-lexeme.lexeme.piece) c.begins_with-caret.result c.take.result
    (sym (length-map c.args.names.now name_of)) refl c.begins_with-caret.ensures.value c.take.ensures c.in-Err.fault _ c.loop-first.invariant.0 refl c.in-Err.is)

pub loop-first-preserved : goal.loop-first-preserved
loop-first-preserved c = (
  decides_on (map name_of c.args.names.now) c.args.bytes.now c.loop-first.rest.now c.in-Some.others.now c.split_at.result.1.now c.in-Some.first.now (lexeme_of c.in_ok-lexeme.lexeme)
      c.in-Some.ensures.cases.0 (c.in_ok-lexeme.ensures.piece ∙ ap (λ (ns : List plain.Name). lexeme_at ns c.in-Some.first.now c.in-Some.others.now) c.in_ok-listed.ensures) c.in_ok-lexeme.ensures.some c.in_ok-lexeme.ensures.within
      c.split_at.ensures.back c.loop-first.invariant.0.within (length c.args.names.now) (state_of c.loop-first.reader) c.take.new.self (piece_of c.in_ok-lexeme.lexeme.piece) c.begins_with-caret.result c.take.result
      (sym (length-map c.args.names.now name_of)) refl c.begins_with-caret.ensures.value c.take.ensures c.in_default-take.field-0 c.loop-first.invariant.0 c.in_default-take.is,
  settled_front _ c.take.new.self c.take.result c.in_default-take.field-0 c.in_default-take.is c.take.ensures,
)
