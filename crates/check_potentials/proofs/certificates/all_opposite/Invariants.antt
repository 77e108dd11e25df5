use Rattle.std.proofs.Common.{◌≡◌, drop}
use Rattle.signed_bounds.specs.Safe.{expands_to_squares}
use Rattle.potential_nodes.specs.Certificates.{all_opposite}
use Rattle.potential_types.specs.Views.{summands_of}
use Rattle.check_potentials.specs.Grounds.{list_terms}
use Rattle.check_potentials.proofs.certificates.all_opposite.Given as goal

-- what is left decides
abbrev pub invariant-loop-summand : goal.invariant-loop-summand
invariant-loop-summand l =
    all_opposite expands_to_squares (list_terms l.rows) (summands_of (drop l.summand-index l.summands))
    ≡ all_opposite expands_to_squares (list_terms l.rows) (summands_of l.summands)
