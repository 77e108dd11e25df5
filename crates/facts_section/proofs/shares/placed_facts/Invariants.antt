use Rattle.std.proofs.Common.{◌≡◌, length}
use Rattle.facts_section.proofs.shares.placed_facts.Given as goal

-- each fact passed has its position
abbrev pub invariant-loop-fact : goal.invariant-loop-fact
invariant-loop-fact l = length l.found.items ≡ l.fact-index
