-- Levels that a bound has to be high enough for, as checks.
use Rattle.std.proofs.Common.{◌≡◌, List, refl, ap}
use Rattle.std.specs.Prelude.{Bool, ◌&&◌}
use Rattle.signed_bounds.specs.Bounds.{Signed, SignedParts, NoParts, Part}
use Rattle.signed_bounds.specs.Safe.{expands_to_squares}
use Rattle.potential_nodes.specs.potentials.model.Programs.{Program}
use Rattle.potential_nodes.specs.Facts.{SignedFact}
use Rattle.potential_nodes.specs.Checks.{LowBound}
use Rattle.potential_nodes.specs.Tables.{PotentialTable}
use Rattle.potential_nodes.specs.Peaks.{head_checks}
use Rattle.potential_ground.specs.RowTerms.{ground_of}
use Rattle.check_potentials.specs.Refusals.{all_hold}
use Rattle.check_potentials.specs.Stages.{is_level_within, are_levels_within}
use Rattle.check_potentials.proofs.RefusalLaws.{HaveReason}

-- the checks of levels hold where the bound is high enough for each
pub heads-hold : (p : Program) (facts : List SignedFact) (tab : PotentialTable) (b : Signed) (heads : SignedParts)
    → all_hold (head_checks (ground_of p expands_to_squares) facts tab b heads) ≡ are_levels_within facts tab b heads
heads-hold p facts tab b NoParts = refl
heads-hold p facts tab b (Part head heads) =
    ap (λ (v : Bool). is_level_within facts tab b head && v) (heads-hold p facts tab b heads)

-- one that fails says that the bound is too low
pub heads-low : (p : Program) (facts : List SignedFact) (tab : PotentialTable) (b : Signed) (heads : SignedParts)
    → HaveReason LowBound (head_checks (ground_of p expands_to_squares) facts tab b heads)
heads-low p facts tab b NoParts = tt
heads-low p facts tab b (Part head heads) = (refl, heads-low p facts tab b heads)
