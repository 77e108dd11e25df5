use Rattle.std.proofs.Common.{◌≡◌, ◌∙◌, List, sym, ap, subst, take, arith}
use Rattle.std.proofs.lemmas.List.{take_all}
use Rattle.cert_types.specs.cert_rules.Known.{table_of}
use Rattle.cert_context.specs.Lookups.{facts_at}
use Rattle.cert_context.specs.Statements.{joined_by, facts_by}
use Rattle.cert_context.specs.declared.stated_facts.PremiseFacts.{PremiseFacts}
use Rattle.cert_context.proofs.JoinedFacts.{joined-more}
use Rattle.cert_context.proofs.JoinedTables.{joined-same}
use Rattle.cert_context.proofs.joining.joined.Goals as goal

pub loop-used-preserved : goal.loop-used-preserved
loop-used-preserved c = record {
  joined = c.in_ok-push_used.ensures.joined.same
      ∙ (joined-same (facts_at c.loop-used.all.items) (joined_by c.args.kept.now (take c.loop-used.used-index c.args.uses.now))
      (facts_by c.args.kept.now c.used-item.result) c.loop-used.invariant.joined
      ∙ ap table_of (sym (joined-more c.args.kept.now c.args.uses.now c.loop-used.used-index c.used-item.result
      c.loop-used-test.true c.used-item.is)));
  result_is = c.in_ok-push_used.ensures.result_is;
}

pub returns : goal.returns
returns c =
    subst (λ (us : List PremiseFacts). table_of (facts_at c.loop-used.all.items) ≡ table_of (joined_by c.args.kept.now us))
    (take_all c.loop-used.used-index c.args.uses.now (omega (arith, c.loop-used-test.false))) c.loop-used.invariant.joined
