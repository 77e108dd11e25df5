use Rattle.std.proofs.Common.{List, sym, subst, ◌∙◌}
use Rattle.model.specs.Facts as plain
use Rattle.check_file.specs.Zeros.{AddsZeros}
use Rattle.check_file.proofs.SeenZeros.{added-again, zeros-more}
use Rattle.check_file.proofs.unreached.push_kept.Goals as goal

pub returns-then-contains-clause-added : goal.returns-then-contains-clause-added
returns-then-contains-clause-added c =
    added-again c.args.kept.now c.args.seen.now c.args.cut.now.items c.args.position c.requires
    (sym c.contains.ensures ∙ c.if-contains.true)

pub returns-clause-added : goal.returns-clause-added
returns-clause-added c =
    subst (λ (fs : List plain.Fact). AddsZeros c.args.cut.now.items fs c.push_zeros.new.cut.items) c.facts_at.ensures
    (c.in_ok-push_zeros.ensures {u = tt})

pub returns-clause-looked : goal.returns-clause-looked
returns-clause-looked c =
    zeros-more c.args.kept.now c.args.seen.now c.insert.new.self c.args.cut.now.items c.push_zeros.new.cut.items
    c.args.position c.requires
    (subst (λ (fs : List plain.Fact). AddsZeros c.args.cut.now.items fs c.push_zeros.new.cut.items) c.facts_at.ensures
    (c.in_ok-push_zeros.ensures {u = tt}))
    c.in_ok-insert.ensures.updates.0
