use Rattle.std.proofs.Common.{◌≡◌, drop, None}
use Rattle.location_facts.specs.Strengthening.{greatest_least}
use Rattle.location_facts.proofs.strengthening.greatest_least.Given as goal

-- the best of the remaining facts and of the best so far is the best of all
abbrev pub invariant-loop-fact : goal.invariant-loop-fact
invariant-loop-fact l =
    greatest_least l.plus l.minus l.best (drop l.fact-index l.facts) ≡ greatest_least l.plus l.minus None l.facts
