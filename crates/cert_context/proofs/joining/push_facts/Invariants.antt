use Rattle.std.proofs.Common.{◌≡◌, ◌++◌, drop}
use Rattle.cert_types.specs.Views.{facts_of}
use Rattle.cert_context.specs.Lookups.{facts_at}
use Rattle.cert_context.proofs.joining.push_facts.Given as goal

-- the facts pushed and those still to be pushed are all facts
abbrev pub invariant-loop-fact : goal.invariant-loop-fact
invariant-loop-fact l =
    facts_at l.all.items ++ facts_of (drop l.fact-index l.facts) ≡ facts_at l.initial.all.items ++ facts_of l.facts
