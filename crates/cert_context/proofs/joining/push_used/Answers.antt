use Rattle.std.proofs.Common.{◌∙◌, ◌++◌, List, sym, ap, subst}
use Rattle.std.proofs.lemmas.Result.{on_ok_weaker}
use Rattle.model.specs.Facts as plain
use Rattle.cert_types.specs.Views.{facts_of}
use Rattle.cert_types.specs.cert_rules.Known.{table_of}
use Rattle.cert_context.specs.Lookups.{facts_at}
use Rattle.cert_context.specs.Joining.{StatesAlso}
use Rattle.cert_context.specs.Statements.{facts_by}
use Rattle.cert_context.proofs.JoinedTables.{all_at-still}
use Rattle.cert_context.proofs.joining.push_used.Goals as goal

pub returns-in-StatedFacts-clause-joined : goal.returns-in-StatedFacts-clause-joined
returns-in-StatedFacts-clause-joined c =
    on_ok_weaker c.push_kept.result
    (λ h. subst (λ (fs : List plain.Fact). StatesAlso (facts_at c.args.all.now.items) fs (facts_at c.push_kept.new.all.items))
    (sym (ap (facts_by c.args.kept.now) c.in-StatedFacts.is)) h)
    c.push_kept.ensures.joined

pub returns-in-Own-clause-joined : goal.returns-in-Own-clause-joined
returns-in-Own-clause-joined c =
    on_ok_weaker c.push_facts.result
    (λ h. record {
      same = ap table_of (h ∙ ap (λ (fs : List plain.Fact). facts_at c.args.all.now.items ++ fs)
          (ap facts_of c.deref.ensures.value ∙ sym (ap (facts_by c.args.kept.now) c.in-Own.is)));
    })
    c.push_facts.ensures

pub returns-in-Own-clause-result_is : goal.returns-in-Own-clause-result_is
returns-in-Own-clause-result_is c =
    on_ok_weaker c.push_facts.result
    (λ h. all_at-still c.args.kept.now c.args.seen.now (facts_at c.args.all.now.items) (facts_of c.deref.result.now)
    (facts_at c.push_facts.new.all.items) c.requires h)
    c.push_facts.ensures
