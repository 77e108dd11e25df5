-- The evidence for claims on a program.
use Rattle.std.specs.Prelude.{List, []}
use Rattle.model.specs.Programs.{Program}
use Rattle.refinement.specs.Simulation.{Projection}
use Rattle.refinement.specs.Sections.{Copy, Section, spelled, projection_of}
use Rattle.refinement.specs.Laws.{same_numbers}
use Rattle.potential_nodes.specs.Facts.{SignedFact}

-- a program, one that simulates it with the projection to it, the copies of its symbols, and the facts that lemmas
-- state about the simulating program
pub record Evidence : Type 0 where
  pub program : Program
  pub above : Program
  pub projection : Projection
  pub copies : List Copy
  pub facts : List SignedFact

-- the evidence by a section: the program that it spells, and lemmas about that
abbrev pub by_section : Program → Section → List SignedFact → Evidence
by_section p s facts = record {
  program = p;
  above = spelled p s;
  projection = projection_of p s;
  copies = s.copies;
  facts = facts;
}

-- the evidence by the program itself, and lemmas about it
abbrev pub by_itself : Program → List SignedFact → Evidence
by_itself p facts = record { program = p; above = p; projection = same_numbers; copies = []; facts = facts }
