use Rattle.std.proofs.Common.{ℕ, ◌+◌, ap}
use Rattle.gap_checks.proofs.TouchLists.{group-found}
use Rattle.gap_checks.proofs.touching.group_at.Goals as goal

pub returns-clause-group : goal.returns-clause-group
returns-clause-group c =
    group-found c.args.touches.now c.args.start c.touches_below-end.result (c.from.result + 1) _ c.requires.ordered
    c.requires.inside c.requires.first c.touches_below-end.ensures.bound (ap (λ (n : ℕ). n + 1) c.from.ensures)
    c.touches_below-end.ensures.below c.touches_below-end.ensures.behind
