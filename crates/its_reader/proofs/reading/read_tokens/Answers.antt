use Rattle.std.proofs.Common.{length, arith, refl, sym, ap, subst, ◌∙◌, Err}
use Rattle.std.proofs.lemmas.Result.{err_from_is_err_and}
use Rattle.its_text.specs.Lexing.{tokens_of}
use Rattle.its_text.specs.Answers.{verdict}
use Rattle.its_reader.specs.Faults.{maybe_fault, Says}
use Rattle.its_reader.specs.Reading.{IsReading}
use Rattle.its_reader.specs.Views.{tokens_in, listed}
use Rattle.its_reader.proofs.EndLaws.{memory_said}
use Rattle.its_reader.proofs.LoopLaws.{piece_listed, loop_begins, turned_on, turned_over, next_read}
use Rattle.its_reader.proofs.reading.read_tokens.Goals as goal

-- reading begins before the first token
pub loop-next-init : goal.loop-next-init
loop-next-init c = record {
  whole = let a = c.next-behind.ensures.whole in let b = c.next-next.ensures.whole in let t =
      ap length c.new-lexer.ensures.text in let z = c.new-lexer.ensures.at in omega (arith, a, b, t, z);
  depth = c.next-behind.ensures.depth;
  reading = loop_begins c.args.bytes.now c.new-draft.result c.new-lexer.result c.next-next.new.self
      c.next-behind.new.self c.next-next.result c.next-behind.result (c.new-draft.ensures (tokens_of c.args.bytes.now))
      c.new-lexer.ensures.text c.new-lexer.ensures.at c.new-lexer.ensures.mode c.next-next.ensures.tokens
      c.next-behind.ensures.tokens;
}

-- the invariant holds one token further
pub loop-next-preserved : goal.loop-next-preserved
loop-next-preserved c = record {
  whole = c.next-more.ensures.whole ∙ c.loop-next.invariant.whole;
  depth = c.next-more.ensures.depth;
  reading = next_read c.loop-next.behind (tokens_in c.loop-next.lexer)
      (listed c.next-more.result (tokens_in c.next-more.new.self)) c.next-more.ensures.tokens
      (turned_on c.in_ok-turn.turn c.in-On.reached c.in-On.is c.in_ok-turn.ensures
      (piece_listed c.loop-next.behind (listed c.loop-next.behind (tokens_in c.loop-next.lexer))
      (tokens_in c.loop-next.lexer) refl ∙ sym c.piece_of.ensures)
      (subst (λ o. IsReading c.args.bytes.now c.loop-next.stand.state c.loop-next.stand.last
      (maybe_fault c.loop-next.stand.best) c.loop-next.draft
      (listed o (listed c.loop-next.behind (tokens_in c.loop-next.lexer)))) c.in-Some.is
      c.loop-next.invariant.reading));
}

-- the turn's answer is that of the text
pub returns-in-Over : goal.returns-in-Over
returns-in-Over c =
    turned_over c.in_ok-turn.turn c.in-Over.fault c.error.result c.in-Over.is c.error.ensures c.in_ok-turn.ensures
    (piece_listed c.loop-next.behind (listed c.loop-next.behind (tokens_in c.loop-next.lexer))
    (tokens_in c.loop-next.lexer) refl ∙ sym c.piece_of.ensures)
    (subst (λ o. IsReading c.args.bytes.now c.loop-next.stand.state c.loop-next.stand.last
    (maybe_fault c.loop-next.stand.best) c.loop-next.draft
    (listed o (listed c.loop-next.behind (tokens_in c.loop-next.lexer)))) c.in-Some.is
    c.loop-next.invariant.reading)

-- a run out of memory is permitted
pub returns-in_err-turn : goal.returns-in_err-turn
returns-in_err-turn c =
    let p = err_from_is_err_and c.from_residual.result c.from_residual.ensures.1 in
    subst (λ r. Says (verdict c.args.bytes.now) r) (sym (p.1 ∙ ap Err p.2)) (memory_said (verdict c.args.bytes.now))

-- the answer at the end of the text
pub returns : goal.returns
returns c =
    c.end.ensures.each c.args.bytes.now refl
    (subst (λ o. IsReading c.args.bytes.now c.loop-next.stand.state c.loop-next.stand.last
    (maybe_fault c.loop-next.stand.best) c.loop-next.draft
    (listed o (listed c.loop-next.behind (tokens_in c.loop-next.lexer)))) c.in_default.is
    c.loop-next.invariant.reading)
