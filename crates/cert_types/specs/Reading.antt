-- The places that a side bound reads.
use Rattle.std.specs.Prelude.{ℕ, List, filter, Option}
use Rattle.std.specs.List.{range_with_len}
use Rattle.poly_terms.specs.model.Polynomials.{Polynomial}
use Rattle.cert_program.specs.cert_rules.Nodes.{SideBound}
use Rattle.cert_program.specs.cert_rules.ComposedSizes.{reads}

-- the places that a side bound reads, of the first n ones, ascending and numbered from 0
abbrev pub places_read : Option Polynomial → SideBound → ℕ → List ℕ
places_read poly side_bound left = filter (λ j. reads poly side_bound j) (range_with_len 0 left)
