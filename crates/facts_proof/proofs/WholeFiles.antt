-- Accepted files whose claims are on facts and bounds state these.
use Rattle.std.proofs.Common.{◌≡◌, ◌<◌, ◌^◌, ℕ, List, map, length, Some, sym, ap, ◌∙◌, subst, arith}
use Rattle.std.specs.Prelude.{Result, Ok, Err, Option, IfOk, IfSome, None}
use Rattle.std.specs.List.{All, Contains}
use Rattle.std.proofs.lemmas.List.{length-map}
use Rattle.its_model.specs.Valid.{IsValid}
use Rattle.its_model.specs.Views.{program_of, rule_of}
use Rattle.its_model.specs.declared.program.Program as code
use Rattle.model.specs.Programs.{Program}
use Rattle.refined_programs.specs.declared.section.Section.{Section}
use Rattle.refined_programs.specs.Views.{section_of}
use Rattle.cert_types.specs.Views.{proof_of}
use Rattle.cert_text.specs.OverFirst.{IsOverFirst}
use Rattle.outcome.specs.Reports.{Report}
use Rattle.program_claims.specs.Claims.{Stated, AllHoldOf}
use Rattle.claims_check.specs.Views.{stated_of}
use Rattle.refined_types.specs.Views.{file_view}
use Rattle.refined_types.specs.declared.file.RefinedFile.{RefinedFile}
use Rattle.refined_programs.specs.Annotated as annotated
use Rattle.refined_files.specs.Files.{evidence_in, program_above}
use Rattle.check_refined.specs.Files.{IsAcceptedWith}
use Rattle.location_facts.specs.declared.fact.LocFact.{LocFact}
use Rattle.facts_section.specs.Copies.{IsSectionOfFacts}
use Rattle.facts_report.specs.WithFacts.{IsFoundWithFacts}
use Rattle.time_bounds.specs.Analysis.{IsAnalysis}
use Rattle.facts_proof.specs.Statements.{bound_statements}
use Rattle.facts_proof.specs.Entries.{claimed}
use Rattle.facts_proof.specs.Parts.{IsPlainPart}
use Rattle.facts_proof.specs.Proofs.{ProvesReport, ProvesFacts, ProvesAnalysis}
use Rattle.facts_proof.specs.declared.proving.FactsProof.{FactsProof}
use Rattle.facts_proof.proofs.Included.{included}

-- a valid program has few rules
pub rules_few : (p : code.Program) → IsValid (program_of p) → length p.rules.items < 2 ^ 32
rules_few p valid = omega (arith, valid.few_rules, length-map p.rules.items rule_of)

-- the program that a section spells has the start arguments of the one below
pub names_kept : (p spelled_program : Program) (section : Option annotated.Section) → spelled_program ≡ program_above p section
    → spelled_program.start_names ≡ p.start_names
names_kept p spelled_program None is = ap (λ (q : Program). q.start_names) is
names_kept p spelled_program (Some s) is = ap (λ (q : Program). q.start_names) is

-- an accepted file states what its claims claim on their own
states-claimed : (p : Program) (file : RefinedFile) (stated : List Stated) → IsAcceptedWith p (file_view file) stated
    → All (Contains stated) (claimed file.claims.items)
states-claimed p file stated h =
    subst (λ (ss : List Stated). All (Contains ss) (claimed file.claims.items)) (sym h.statements)
    (included (evidence_in p (file_view file)) 1 (file_view file).claims h.accepted.claims)

-- an accepted file with claims on bounds, whose plain part is over a program with the same start arguments
pub report_proved : (p spelled_program : Program) (section : Option Section) (report : Report) (file : RefinedFile) (proof : FactsProof)
    → file.section ≡ section → proof.file ≡ file
    → IsAcceptedWith p (file_view file) (map stated_of proof.stated.items)
    → AllHoldOf p (map stated_of proof.stated.items) → claimed file.claims.items ≡ bound_statements report
    → IsPlainPart spelled_program file.plain → spelled_program.start_names ≡ p.start_names → ProvesReport p section report proof
report_proved p spelled_program section report file proof there same accepted hold claims plain names = record {
  section = ap (λ (f : RefinedFile). f.section) same ∙ there;
  accepted = subst (λ (f : RefinedFile). IsAcceptedWith p (file_view f) (map stated_of proof.stated.items)) (sym same) accepted;
  hold = hold;
  includes = subst (λ (ss : List Stated). All (Contains (map stated_of proof.stated.items)) ss) claims
      (states-claimed p file (map stated_of proof.stated.items) accepted);
  over_first = subst (λ (f : RefinedFile). All (λ lemma. IsOverFirst (length p.start_names) (proof_of lemma)) f.plain.lemmas.items)
      (sym same) (subst (λ (n : ℕ). All (λ lemma. IsOverFirst n (proof_of lemma)) file.plain.lemmas.items)
      (ap length names) plain.over_first);
}

-- what holds of a proof, if there is one, where three other properties do
all-three : {E : Type 0} (P Q R S : FactsProof → Type 0) (r : Result (Option FactsProof) E)
    → ((x : FactsProof) → P x → Q x → R x → S x) → IfOk r (λ found. IfSome found P)
    → IfOk r (λ found. IfSome found Q) → IfOk r (λ found. IfSome found R) → IfOk r (λ found. IfSome found S)
all-three P Q R S (Ok None) f p q s = tt
all-three P Q R S (Ok (Some x)) f p q s = f x p q s
all-three P Q R S (Err e) f p q s = tt

-- a file that may be accepted, with claims on bounds, proves a report
pub proved-over : {E : Type 0} (p spelled_program : Program) (section : Option Section) (report : Report) (file : RefinedFile)
    (r : Result (Option FactsProof) E) → IfOk r (λ found. IfSome found (λ proof. proof.file ≡ file))
    → IfOk r (λ found. IfSome found (λ proof. IsAcceptedWith p (file_view file) (map stated_of proof.stated.items)))
    → IfOk r (λ found. IfSome found (λ proof. AllHoldOf p (map stated_of proof.stated.items)))
    → file.section ≡ section → claimed file.claims.items ≡ bound_statements report → IsPlainPart spelled_program file.plain
    → spelled_program.start_names ≡ p.start_names → IfOk r (λ found. IfSome found (ProvesReport p section report))
proved-over p spelled_program section report file r same states holds there claims plain names =
    all-three (λ proof. proof.file ≡ file)
    (λ proof. IsAcceptedWith p (file_view file) (map stated_of proof.stated.items))
    (λ proof. AllHoldOf p (map stated_of proof.stated.items)) (ProvesReport p section report) r
    (λ proof is accepted hold. report_proved p spelled_program section report file proof there is accepted hold claims plain names)
    same states holds

-- a proof of a report that is found with facts, and a section of these, proves what is printed with the facts
pub proved-facts : {E : Type 0} (p : Program) (pivots : ℕ) (kept : List LocFact) (section : Section) (report : Report)
    (r : Result (Option FactsProof) E) → IsFoundWithFacts p pivots kept report
    → IsSectionOfFacts p kept (section_of section) → IfOk r (λ found. IfSome found (ProvesReport p (Some section) report))
    → IfOk r (λ found. IfSome found (ProvesFacts p pivots))
proved-facts p pivots kept section report (Ok None) found of_facts proves = tt
proved-facts p pivots kept section report (Ok (Some proof)) found of_facts proves = record {
  kept = kept;
  report = report;
  found = found;
  section = section;
  of_facts = of_facts;
  proves = proves;
}
proved-facts p pivots kept section report (Err e) found of_facts proves = tt

-- a proof of a report that the analysis of the program itself finds
pub proved_analysis : {E : Type 0} (p : Program) (pivots : ℕ) (report : Report) (r : Result (Option FactsProof) E)
    → IsAnalysis p pivots report → IfOk r (λ found. IfSome found (ProvesReport p None report))
    → IfOk r (λ found. IfSome found (ProvesAnalysis p pivots))
proved_analysis p pivots report (Ok None) found proves = tt
proved_analysis p pivots report (Ok (Some proof)) found proves =
    record { report = report; found = found; proves = proves }
proved_analysis p pivots report (Err e) found proves = tt
