use Rattle.std.proofs.Common.{◌<◌, [], Err, refl, sym, subst}
use Rattle.text_core.specs.Readers.{onto}
use Rattle.text_core.specs.Reading.{answer}
use Rattle.text_grammar.specs.declared.token.Refusal.TheVariants.{Refuses}
use Rattle.text_grammar.specs.Texts.{Text, reader}
use Rattle.text_grammar.specs.Marks.{token_of, refusal_of, fault_of}
use Rattle.text_grammar.specs.Following.{Says}
use Rattle.text_grammar.specs.Tabled.{IsTableOf}
use Rattle.text_grammar.proofs.ReadingLaws.{decides_next, decides_settled}
use Rattle.text_grammar.proofs.reading.read.Goals as goal

pub returns-in-Some-settled : goal.returns-in-Some-settled
returns-in-Some-settled g c =
    let x = g.X.Text.text_of c.args.text in
    subst (λ a. Says g.X.Text.Makes a (Err (Refuses c.in-Some-settled.fault)))
    (sym (decides_settled x c.requires.lawful c.args.len _ _ (fault_of c.loop-token.best) (refusal_of c.in-Some-settled.fault) (onto c.loop-token.expected.items []) (token_of c.in-Some.token) (g.L.Tokens.left c.pull.new.self) (g.L.Tokens.left c.loop-token.tokens)
    c.loop-token.invariant.decides c.in-Some.ensures c.in-Some-settled.ensures.0
    (λ es k. subst (λ (v : Text _ _ _). c.in-Some-settled.fault.at < v.floor es c.in-Some.token.at) c.loop-token.invariant.same (c.in-Some-settled.ensures.1 es k))))
    refl

pub loop-token-preserved : goal.loop-token-preserved
loop-token-preserved g c =
    let next = decides_next (g.X.Text.text_of c.args.text) (g.X.Text.text_of c.loop-token.text) (g.X.Text.text_of c.follow.new.text) c.args.len
    (answer (reader (g.X.Text.text_of c.args.text)) c.args.len (g.L.Tokens.left c.args.tokens)) (g.X.Text.Knows c.loop-token.text) (g.X.Text.Knows c.follow.new.text) (fault_of c.loop-token.best) (fault_of c.first_of_two-best.result)
    (onto c.loop-token.expected.items []) (onto c.follow.new.expected.items []) (token_of c.in-Some.token) (g.L.Tokens.left c.pull.new.self) (g.L.Tokens.left c.loop-token.tokens) c.in_ok-shown.field-0 c.in-Accepted.shown
    c.loop-token.invariant.decides c.loop-token.invariant.same c.in_ok-shown.ensures.same c.in-Some.ensures c.in_ok-shown.ensures.follows c.in-Accepted.is c.first_of_two-best.ensures in
    record {
      same = next.0;
      tabled = subst (λ (v : Text _ _ _). IsTableOf c.follow.new.tables v.grammar) c.loop-token.invariant.same c.in_ok-shown.ensures.tabled;
      decides = next.1;
    }
