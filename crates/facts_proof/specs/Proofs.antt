-- Proof files that state what the analyses of a program, with its facts and without them, print.
use Rattle.std.specs.Prelude.{◌≡◌, ℕ, List, map, length, Option, Some, None}
use Rattle.std.specs.List.{All, Contains}
use Rattle.model.specs.Programs.{Program}
use Rattle.refined_programs.specs.declared.section.Section.{Section}
use Rattle.refined_programs.specs.Views.{section_of}
use Rattle.cert_types.specs.Views.{proof_of}
use Rattle.cert_text.specs.OverFirst.{IsOverFirst}
use Rattle.outcome.specs.Reports.{Report}
use Rattle.program_claims.specs.Claims.{AllHoldOf}
use Rattle.claims_check.specs.Views.{stated_of}
use Rattle.refined_types.specs.Views.{file_view, section_view}
use Rattle.refined_files.specs.Files.{program_above}
use Rattle.check_refined.specs.Files.{IsAcceptedWith}
use Rattle.refined_writer.specs.Texts.{refined_text}
use Rattle.location_facts.specs.declared.fact.LocFact.{LocFact}
use Rattle.time_bounds.specs.Analysis.{IsAnalysis}
use Rattle.facts_section.specs.Copies.{IsSectionOfFacts}
use Rattle.facts_report.specs.WithFacts.{IsFoundWithFacts}
use Rattle.facts_proof.specs.Statements.{bound_statements}
use Rattle.facts_proof.specs.declared.proving.FactsProof.{FactsProof}

-- The file has this section and is accepted for the program, and these are the statements of its claims, in order: each
-- of them holds on all runs of the program, from any integers and by any choice of rules. Among them are all bounds of
-- a report. The bounds that the file's lemmas write are over the start arguments.
pub record ProvesReport (p : Program) (used_section : Option Section) (report : Report) (proof : FactsProof) : Type 0 where
  pub section : proof.file.section ≡ used_section
  pub accepted : IsAcceptedWith p (file_view proof.file) (map stated_of proof.stated.items)
  pub hold : AllHoldOf p (map stated_of proof.stated.items)
  pub includes : All (Contains (map stated_of proof.stated.items)) (bound_statements report)
  pub over_first : All (λ lemma. IsOverFirst (length p.start_names) (proof_of lemma)) proof.file.plain.lemmas.items

-- The file is accepted, and states what the analysis of the program with the facts that are kept within this many
-- pivots prints: its section has the facts at each symbol (if these are many, those that imply the others), and its
-- claims are on all bounds of the report. There is one list of kept facts and one report (`ReportsWithFactsAreOne`).
pub record ProvesFacts (p : Program) (pivots : ℕ) (proof : FactsProof) : Type 0 where
  pub kept : List LocFact
  pub report : Report
  pub found : IsFoundWithFacts p pivots kept report
  pub section : Section
  pub of_facts : IsSectionOfFacts p kept (section_of section)
  pub proves : ProvesReport p (Some section) report proof

-- The file is accepted, and states what the analysis of the program itself prints within this many pivots: it has no
-- section, and its claims are on all bounds of the report. There is one report (`AnalysesAreOne`).
pub record ProvesAnalysis (p : Program) (pivots : ℕ) (proof : FactsProof) : Type 0 where
  pub report : Report
  pub found : IsAnalysis p pivots report
  pub proves : ProvesReport p None report proof

-- the text of the file, whose lemmas have the names of the program that its section spells
abbrev pub proof_text : Program → FactsProof → List ℕ
proof_text p proof = refined_text p (program_above p (section_view proof.file.section)) (file_view proof.file)
