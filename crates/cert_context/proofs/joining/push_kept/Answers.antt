use Rattle.std.proofs.Common.{◌∙◌, ◌++◌, List, sym, ap}
use Rattle.model.specs.Facts as plain
use Rattle.cert_types.specs.cert_rules.Known.{table_of}
use Rattle.cert_context.specs.Lookups.{facts_at}
use Rattle.cert_context.proofs.JoinedTables.{all_at-more}
use Rattle.cert_context.proofs.joining.push_kept.Goals as goal

pub returns-then-contains-clause-joined : goal.returns-then-contains-clause-joined
returns-then-contains-clause-joined c = record {
  same = sym (c.requires.each c.args.position (sym c.contains.ensures ∙ c.if-contains.true));
}

pub returns-clause-joined : goal.returns-clause-joined
returns-clause-joined c = record {
  same = ap table_of (c.in_ok-push_facts.ensures {u = tt}
      ∙ ap (λ (fs : List plain.Fact). facts_at c.args.all.now.items ++ fs) c.facts_at.ensures);
}

pub returns-clause-result_is : goal.returns-clause-result_is
returns-clause-result_is c =
    all_at-more c.args.kept.now c.args.seen.now c.insert.new.self (facts_at c.args.all.now.items)
    (facts_at c.push_facts.new.all.items) c.args.position c.requires
    (c.in_ok-push_facts.ensures {u = tt}
    ∙ ap (λ (fs : List plain.Fact). facts_at c.args.all.now.items ++ fs) c.facts_at.ensures)
    c.in_ok-insert.ensures.updates.0
