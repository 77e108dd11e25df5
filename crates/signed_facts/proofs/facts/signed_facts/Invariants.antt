use Rattle.std.proofs.Common.{◌≡◌, take, map}
use Rattle.its_model.specs.Views.{program_of}
use Rattle.cert_types.specs.Views.{facts_of}
use Rattle.potential_nodes.specs.PlainFacts.{signed_fact}
use Rattle.potential_types.specs.Views.{fact_view}
use Rattle.signed_facts.proofs.facts.signed_facts.Given as goal

-- the signed facts of the facts passed are found
abbrev pub invariant-loop-fact : goal.invariant-loop-fact
invariant-loop-fact l =
    map fact_view l.found.items ≡ map (signed_fact (program_of l.p)) (facts_of (take l.fact-index l.facts))
