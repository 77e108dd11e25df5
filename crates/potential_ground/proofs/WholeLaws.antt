-- If no lemma on a valid program is refused, the facts of all hold.
use Rattle.std.proofs.Common.{List, [], ◌∷◌, map}
use Rattle.std.specs.List.{AllByRecursion}
use Rattle.guard_prep.specs.model.Programs.{Program}
use Rattle.guard_prep.specs.model.Facts.{Fact, Holds}
use Rattle.potential_nodes.specs.signed_bounds.Safe.{SquaresAreSafe, expands_to_squares}
use Rattle.potential_nodes.specs.Facts.{AllSignedHold}
use Rattle.potential_nodes.specs.PlainFacts.{PlainFactsHold, signed_fact}
use Rattle.potential_nodes.specs.Acceptance.{AcceptedLemmasHold}
use Rattle.potential_ground.specs.RowTerms.{RowsAreTrueGround, ground_of}
use Rattle.potential_ground.specs.Whole.{AcceptedPotentialsHold}

-- facts that hold do so as signed facts
all-signed : PlainFactsHold → (p : Program) (facts : List Fact) → AllByRecursion (λ fact. Holds p fact) facts
    → AllSignedHold p (map (signed_fact p) facts)
all-signed plain p [] h = tt
all-signed plain p (fact ∷ facts) (first, others) = (plain p fact first, all-signed plain p facts others)

pub accepted_potentials : RowsAreTrueGround → SquaresAreSafe → PlainFactsHold → AcceptedLemmasHold → AcceptedPotentialsHold
accepted_potentials rows squares plain lemmas_hold p facts lemmas valid hold accepted =
    lemmas_hold (ground_of p expands_to_squares) (map (signed_fact p) facts) 1 lemmas
    (rows.ground p expands_to_squares valid) squares.safe (all-signed plain p facts hold) accepted
