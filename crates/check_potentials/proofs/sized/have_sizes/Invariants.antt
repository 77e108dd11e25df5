use Rattle.std.proofs.Common.{◌≡◌, drop, map}
use Rattle.potential_nodes.specs.PlainPeaks.{size_shape}
use Rattle.potential_types.specs.Views.{fact_view, sized_of}
use Rattle.check_potentials.specs.Refusals.{all_hold}
use Rattle.check_potentials.proofs.sized.have_sizes.Given as goal

-- what is left decides
abbrev pub invariant-loop-before : goal.invariant-loop-before
invariant-loop-before l =
    all_hold (map (size_shape (map fact_view l.facts) (sized_of l.node)) (drop l.before-index l.befores)) ≡ all_hold
    (map (size_shape (map fact_view l.facts) (sized_of l.node)) l.befores)
