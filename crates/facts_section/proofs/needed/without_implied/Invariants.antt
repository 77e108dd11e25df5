use Rattle.std.proofs.Common.{◌≡◌, [], length}
use Rattle.facts_section.specs.Needed.{without_implied}
use Rattle.facts_section.proofs.needed.without_implied.Given as goal

-- the facts that are left of those passed decide which ones of the rest are left
abbrev pub invariant-loop-fact : goal.invariant-loop-fact
invariant-loop-fact l = without_implied l.left.items l.rest ≡ without_implied [] l.facts

abbrev pub decreases-loop-fact : goal.decreases-loop-fact
decreases-loop-fact l = length l.rest
