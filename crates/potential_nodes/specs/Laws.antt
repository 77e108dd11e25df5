-- Accepted nodes are sound.
use Rattle.std.specs.Prelude.{◌≡◌, List, None}
use Rattle.potentials.specs.Nodes.{AlwaysPays, AlwaysCovers}
use Rattle.potentials.specs.model.Polynomials.{polynomial_value}
use Rattle.signed_bounds.specs.Bounds.{Signed}
use Rattle.signed_bounds.specs.Safe.{IsSafe}
use Rattle.potential_nodes.specs.Ground.{Ground, IsTrueGround}
use Rattle.potential_nodes.specs.Facts.{SignedFact, SumFact, PeakFact, HoldsSigned, AllSignedHold}
use Rattle.potential_nodes.specs.Checks.{first_refused}
use Rattle.potential_nodes.specs.Tables.{potential_of}
use Rattle.potential_nodes.specs.Falls.{FallNode, goal_of, charges_of, fall_checks}
use Rattle.potential_nodes.specs.Peaks.{PeakNode, peak_checks}

-- if a node that pays for charges is accepted, its potential pays, and its fact holds
abbrev pub FallsAreSound : Type 0
FallsAreSound = (g : Ground) (facts : List SignedFact) (n : FallNode) (b : Signed) → IsTrueGround g → IsSafe g.is_safe
    → AllSignedHold g.program facts → first_refused (fall_checks g facts n b) ≡ None
    → AlwaysPays g.program (potential_of n.potential) n.potential.den (goal_of n)
    × HoldsSigned g.program (SumFact (charges_of n) b)

-- if a node that covers a form is accepted, its potential covers the form, and its fact holds
abbrev pub PeaksAreSound : Type 0
PeaksAreSound = (g : Ground) (facts : List SignedFact) (n : PeakNode) (b : Signed) → IsTrueGround g → IsSafe g.is_safe
    → AllSignedHold g.program facts → first_refused (peak_checks g facts n b) ≡ None
    → AlwaysCovers g.program (potential_of n.potential) n.potential.den n.rule (λ env. polynomial_value n.form env)
    × HoldsSigned g.program (PeakFact n.rule n.form b)
