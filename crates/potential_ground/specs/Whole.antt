-- Lemmas on a valid program, checked over its prepared rows, state facts that hold on all runs.
use Rattle.std.specs.Prelude.{◌≡◌, List, None, map}
use Rattle.std.specs.List.{AllByRecursion}
use Rattle.guard_prep.specs.model.Programs.{Program}
use Rattle.guard_prep.specs.model.Facts.{Fact, Holds}
use Rattle.guard_prep.specs.its_model.Valid.{IsValid}
use Rattle.potential_nodes.specs.signed_bounds.Safe.{expands_to_squares}
use Rattle.potential_nodes.specs.Facts.{AllSignedHold}
use Rattle.potential_nodes.specs.PlainFacts.{signed_fact}
use Rattle.potential_nodes.specs.SignedNodes.{SignedLemma}
use Rattle.potential_nodes.specs.Acceptance.{facts_after, first_refusal}
use Rattle.potential_ground.specs.RowTerms.{ground_of}

-- for a valid program and facts over absolute start values that hold of it: if no lemma after these facts is refused
-- over the program's prepared rows, the facts of all lemmas hold, too
abbrev pub AcceptedPotentialsHold : Type 0
AcceptedPotentialsHold = (p : Program) (facts : List Fact) (lemmas : List SignedLemma) → IsValid p
    → AllByRecursion (λ fact. Holds p fact) facts
    → first_refusal (ground_of p expands_to_squares) (map (signed_fact p) facts) 1 lemmas ≡ None
    → AllSignedHold p (facts_after (map (signed_fact p) facts) lemmas)
