-- The facts at symbols by an accepted section hold.
use Rattle.std.proofs.Common.{List, Option, Some, None}
use Rattle.std.proofs.lemmas.List.Elements.{All-nil}
use Rattle.std.specs.List.{All}
use Rattle.model.specs.Programs.{Program}
use Rattle.its_model.specs.Valid.{IsValid}
use Rattle.refined_programs.specs.Annotated.{Section}
use Rattle.refined_files.specs.Files.{IsSectionAccepted}
use Rattle.symbol_facts.specs.Facts.{IsSymbolFact}
use Rattle.symbol_facts.specs.Laws.{SymbolFactsHold}
use Rattle.form_verdicts.specs.Verdicts.{facts_of_section}

pub section-facts_hold : SymbolFactsHold → (p : Program) (o : Option Section) → IsValid p → IsSectionAccepted p o
    → All (IsSymbolFact p) (facts_of_section p o)
section-facts_hold laws p None valid accepted = All-nil (IsSymbolFact p)
section-facts_hold laws p (Some s) valid accepted = laws.each p s valid accepted.1
