-- Certified sections spell programs with the runs of the program.
use Rattle.std.specs.Prelude.{List}
use Rattle.refinement.specs.model.Programs.{Atom, Rule, Program}
use Rattle.refinement.specs.Sections.{Section}
use Rattle.refinement.specs.Obligations.{NoneMeet, IsShown}
use Rattle.refinement.specs.Laws.{SpellsTheRunsOf, FactsOfCopiesHold}
use Rattle.refinement_rows.specs.Certified.{IsRefuted, IsCertified}

-- no values meet atoms that are refuted; so a certified section is shown, the program that it spells has the runs of
-- the program and its bounds carry over, and what follows from the facts of each copy of a symbol holds there
pub record CertifiedSectionsKeepBounds : Type 0 where
  pub unmet : (r : Rule) (atoms : List Atom) → IsRefuted r atoms → NoneMeet r atoms
  pub shown : (p : Program) (section : Section) → IsCertified p section → IsShown p section
  pub runs : (p : Program) (section : Section) → IsCertified p section → SpellsTheRunsOf p section
  pub facts : (p : Program) (section : Section) → IsCertified p section → FactsOfCopiesHold p section
