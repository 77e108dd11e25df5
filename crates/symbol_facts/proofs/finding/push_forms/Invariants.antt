use Rattle.std.proofs.Common.{◌≡◌, ◌++◌, drop, map}
use Rattle.symbol_facts.specs.Common.{fact_at}
use Rattle.symbol_facts.specs.Views.{fact_of, forms_of}
use Rattle.symbol_facts.proofs.finding.push_forms.Given as goal

-- the facts appended, and those to come, are all
abbrev pub invariant-loop-fact : goal.invariant-loop-fact
invariant-loop-fact l =
    map fact_of l.facts.items ++ map (fact_at l.symbol) (forms_of (drop l.fact-index l.known))
    ≡ map fact_of l.fn.facts.items ++ map (fact_at l.symbol) (forms_of l.known)
