use Rattle.std.proofs.Common.{◌+◌, Option, ap, sym, ◌∙◌, drop}
use Rattle.std.specs.Prelude.{ℤ}
use Rattle.location_facts.specs.Strengthening.{greatest_least}
use Rattle.location_facts.proofs.AtomLists.{best-next}
use Rattle.location_facts.proofs.strengthening.greatest_least.Goals as goal

pub loop-fact-preserved : goal.loop-fact-preserved
loop-fact-preserved c =
    ap (λ (best : Option ℤ). greatest_least c.args.plus c.args.minus best
    (drop (c.loop-fact.fact-index + 1) c.args.facts.now)) c.better-best.ensures
    ∙ (sym (best-next c.args.facts.now c.args.plus c.args.minus c.loop-fact.best c.loop-fact.fact-index _
    c.loop-fact-test.true) ∙ c.loop-fact.invariant)
