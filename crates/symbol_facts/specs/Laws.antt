-- The facts at symbols by an accepted section hold.
use Rattle.std.specs.List.{All}
use Rattle.model.specs.Programs.{Program}
use Rattle.refined_programs.specs.its_model.Valid.{IsValid}
use Rattle.refined_programs.specs.Annotated.{Section}
use Rattle.section_checks.specs.Faults.{IsAccepted}
use Rattle.symbol_facts.specs.Facts.{IsSymbolFact}
use Rattle.symbol_facts.specs.Common.{symbol_facts}

-- if a section is accepted for a valid program, each fact at a symbol by it holds whenever a run of the program itself is
-- at that symbol
pub record SymbolFactsHold : Type 0 where
  pub each : (p : Program) (s : Section) → IsValid p → IsAccepted p s → All (IsSymbolFact p) (symbol_facts p s)
