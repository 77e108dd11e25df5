use Rattle.std.proofs.Common.{◌≡◌, drop}
use Rattle.rank_search.specs.RankAnswers.{first_limit_hit}
use Rattle.rank_search.proofs.gap.first_hit_limit.Given as goal

-- the first limit hit of the remaining rules is that of all
abbrev pub invariant-loop-rule : goal.invariant-loop-rule
invariant-loop-rule l = first_limit_hit l.empties (drop l.rule-index l.set) ≡ first_limit_hit l.empties l.set
