use Rattle.std.proofs.Common.{Bool, false, List, [], length, map, ap, sym, ◌∙◌, subst, arith}
use Rattle.std.proofs.lemmas.List.{length-replicate, take_all}
use Rattle.potential_nodes.specs.Facts as plain
use Rattle.potential_types.specs.declared.facts.SignedFact.{SignedFact}
use Rattle.potential_types.specs.Views.{fact_view}
use Rattle.never_rules.specs.Never.{TellNever}
use Rattle.never_rules.proofs.NeverLaws.{none-marked, facts-more}
use Rattle.never_rules.proofs.flags.never_flags.Goals as goal

pub loop-fact-init : goal.loop-fact-init
loop-fact-init c = record {
  counted = ap length c.in_ok-never.ensures ∙ length-replicate c.args.count false;
  tell = subst (λ (flags : List Bool). TellNever [] flags) (sym c.in_ok-never.ensures) (none-marked c.args.count);
}

pub loop-fact-preserved : goal.loop-fact-preserved
loop-fact-preserved c = record {
  counted = c.mark_never.ensures.length ∙ c.loop-fact.invariant.counted;
  tell = subst (λ (fs : List plain.SignedFact). TellNever fs c.mark_never.new.never.items)
      (sym (facts-more c.args.facts.now c.loop-fact.fact-index c.fact-item.result c.loop-fact-test.true c.fact-item.is))
      (c.mark_never.ensures.tell _ c.loop-fact.invariant.tell);
}

pub returns-clause-tell : goal.returns-clause-tell
returns-clause-tell c =
    subst (λ (fs : List SignedFact). TellNever (map fact_view fs) c.loop-fact.never.items)
    (take_all c.loop-fact.fact-index c.args.facts.now (omega arith)) c.loop-fact.invariant.tell
