use Rattle.std.proofs.Common.{◌≡◌, take, filter}
use Rattle.std.specs.Prelude.{nat_eq}
use Rattle.location_facts.proofs.strengthening.facts_at.Given as goal

-- the facts are those of the symbol among those so far
abbrev pub invariant-loop-fact : goal.invariant-loop-fact
invariant-loop-fact l = l.found.items ≡ filter (λ f. nat_eq f.symbol l.symbol) (take l.fact-index l.kept)
