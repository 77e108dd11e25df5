use Rattle.std.proofs.Common.{◌≡◌, drop, map}
use Rattle.signed_bounds.specs.Views.{signed_of}
use Rattle.potential_types.specs.Views.{fact_view, sized_of}
use Rattle.check_potentials.specs.Stages.{size_bounded}
use Rattle.check_potentials.specs.Refusals.{all_hold}
use Rattle.check_potentials.proofs.sized.are_sizes_within.Given as goal

-- what is left decides
abbrev pub invariant-loop-before : goal.invariant-loop-before
invariant-loop-before l =
    all_hold (map (size_bounded (map fact_view l.facts) (sized_of l.node) (signed_of l.bound))
    (drop l.before-index l.befores)) ≡ all_hold (map
    (size_bounded (map fact_view l.facts) (sized_of l.node) (signed_of l.bound)) l.befores)
