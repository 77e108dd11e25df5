use Rattle.std.proofs.Common.{◌≡◌, length}
use Rattle.facts_section.proofs.section.lists_for_facts.Given as goal

-- each fact passed has a list
abbrev pub invariant-loop-fact : goal.invariant-loop-fact
invariant-loop-fact l = length l.found.items ≡ l.fact-index
