use Rattle.std.proofs.Common.{arith, inl, refl}
use Rattle.text_grammar.proofs.tables.Tables.new.Goals as goal

pub returns : goal.returns
returns c = record {
  of_rules = c.in_ok-rules.ensures;
  of_classes = refl;
  of_rounds = refl;
  sound = record {
    counted = let n = c.loop.invariant.counted in let m = c.loop-test.false in let k = c.loop.auto.counter-end in omega (arith, n, m, k);
    entries = λ k n. inl (c.loop.invariant.empty k n);
  };
}
