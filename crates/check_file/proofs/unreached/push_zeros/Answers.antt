use Rattle.std.proofs.Common.{List, sym, subst, arith}
use Rattle.model.specs.Facts as plain
use Rattle.cert_types.specs.Views.{fact_of}
use Rattle.check_file.specs.Zeros.{AddsZeros}
use Rattle.cert_context.proofs.Cuts.{done-more, done-all}
use Rattle.check_file.proofs.ZeroRules.{adds-both}
use Rattle.check_file.proofs.unreached.push_zeros.Goals as goal

pub loop-fact-preserved : goal.loop-fact-preserved
loop-fact-preserved c =
    subst (λ (fs : List plain.Fact). AddsZeros c.args.cut.now.items fs c.push_zero.new.cut.items)
    (sym (done-more fact_of c.args.facts.now c.loop-fact.fact-index c.fact-item.result c.loop-fact-test.true c.fact-item.is))
    (adds-both _ _ _ _ _ c.loop-fact.invariant (c.in_ok-push_zero.ensures {u = tt}))

pub returns : goal.returns
returns c =
    subst (λ (fs : List plain.Fact). AddsZeros c.args.cut.now.items fs c.loop-fact.cut.items)
    (done-all fact_of c.args.facts.now c.loop-fact.fact-index (omega (arith, c.loop-fact-test.false))) c.loop-fact.invariant
