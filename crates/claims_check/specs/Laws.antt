-- Evidence by a section and by a program itself, and worked values of the rules below.
use Rattle.std.specs.Prelude.{◌≡◌, [], ◌∷◌, List, Some, None}
use Rattle.model.specs.Programs.{Program}
use Rattle.refinement.specs.Sections.{Section}
use Rattle.potential_nodes.specs.Facts.{SignedFact}
use Rattle.program_claims.specs.Evidence.{by_section, by_itself}
use Rattle.claims_check.specs.Views.{evidence_by}
use Rattle.claims_check.specs.Below.{positions}

-- evidence by a section is that of the program that it spells, and without a section that of the program itself
pub record EvidenceIsBySections : Type 0 where
  pub section : (p : Program) (s : Section) (facts : List SignedFact)
      → evidence_by p (Some s) facts ≡ by_section p s facts
  pub none : (p : Program) (facts : List SignedFact) → evidence_by p None facts ≡ by_itself p facts

-- of five rules that are copies of the rules 2, 1, 2, 3 and 2, those of rule 2 are the first, the third and the fifth;
-- of rule 4 there is none
pub record CopiesAreListed : Type 0 where
  pub some : positions 2 1 (2 ∷ 1 ∷ 2 ∷ 3 ∷ 2 ∷ []) ≡ 1 ∷ 3 ∷ 5 ∷ []
  pub none : positions 4 1 (2 ∷ 1 ∷ 2 ∷ 3 ∷ 2 ∷ []) ≡ []
