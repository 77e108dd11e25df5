use Rattle.std.proofs.Common.{List, [], sym, subst, arith}
use Rattle.std.proofs.lemmas.List.{take_all}
use Rattle.model.specs.Facts as plain
use Rattle.cert_context.specs.Statements.{joined_by}
use Rattle.check_file.specs.Zeros.{AddsZeros}
use Rattle.cert_context.specs.declared.stated_facts.PremiseFacts.{PremiseFacts}
use Rattle.cert_context.proofs.JoinedFacts.{joined-more}
use Rattle.check_file.proofs.ZeroRules.{adds-both, zeros-from}
use Rattle.check_file.proofs.unreached.zero_rules.Goals as goal

pub loop-used-preserved : goal.loop-used-preserved
loop-used-preserved c = record {
  added = subst (λ (fs : List plain.Fact). AddsZeros [] fs c.push_used.new.cut.items)
      (sym (joined-more c.args.kept.now c.args.uses.now c.loop-used.used-index c.used-item.result c.loop-used-test.true c.used-item.is))
      (adds-both _ _ _ _ _ c.loop-used.invariant.added c.in_ok-push_used.ensures.added);
  looked = c.in_ok-push_used.ensures.looked;
}

pub returns : goal.returns
returns c =
    zeros-from c.loop-used.cut.items _
    (subst (λ (us : List PremiseFacts). AddsZeros [] (joined_by c.args.kept.now us) c.loop-used.cut.items)
    (take_all c.loop-used.used-index c.args.uses.now (omega (arith, c.loop-used-test.false))) c.loop-used.invariant.added)
