use Rattle.std.proofs.Common.{List, sym, ap, subst, ◌∙◌}
use Rattle.std.proofs.lemmas.Result.{on_ok_weaker}
use Rattle.model.specs.Facts as plain
use Rattle.cert_context.specs.Statements.{facts_by}
use Rattle.cert_types.specs.Views.{facts_of}
use Rattle.check_file.specs.Zeros.{AddsZeros}
use Rattle.check_file.proofs.SeenZeros.{zeros-stay}
use Rattle.check_file.proofs.unreached.push_used.Goals as goal

pub returns-in-StatedFacts-clause-added : goal.returns-in-StatedFacts-clause-added
returns-in-StatedFacts-clause-added c =
    on_ok_weaker c.push_kept.result
    (λ h. subst (λ (fs : List plain.Fact). AddsZeros c.args.cut.now.items fs c.push_kept.new.cut.items)
    (sym (ap (facts_by c.args.kept.now) c.in-StatedFacts.is)) h)
    c.push_kept.ensures.added

pub returns-in-Own-clause-added : goal.returns-in-Own-clause-added
returns-in-Own-clause-added c =
    on_ok_weaker c.push_zeros.result
    (λ h. subst (λ (fs : List plain.Fact). AddsZeros c.args.cut.now.items fs c.push_zeros.new.cut.items)
    (ap facts_of c.deref.ensures.value ∙ sym (ap (facts_by c.args.kept.now) c.in-Own.is)) h)
    c.push_zeros.ensures

pub returns-in-Own-clause-looked : goal.returns-in-Own-clause-looked
returns-in-Own-clause-looked c =
    on_ok_weaker c.push_zeros.result
    (λ h. zeros-stay c.args.kept.now c.args.seen.now c.args.cut.now.items c.push_zeros.new.cut.items
    (facts_of c.deref.result.now) c.requires h)
    c.push_zeros.ensures
