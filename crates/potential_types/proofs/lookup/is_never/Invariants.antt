use Rattle.std.proofs.Common.{◌≡◌, drop, map}
use Rattle.potential_nodes.specs.Facts.{is_never}
use Rattle.potential_types.specs.Views.{fact_view}
use Rattle.potential_types.proofs.lookup.is_never.Given as goal

-- whether some fact says that the rule never occurs depends on the facts left
abbrev pub invariant-loop-fact : goal.invariant-loop-fact
invariant-loop-fact l =
    is_never (map fact_view (drop l.fact-index l.facts)) l.rule ≡ is_never (map fact_view l.facts) l.rule
