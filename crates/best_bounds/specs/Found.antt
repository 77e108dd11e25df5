-- What is found for a program.
use Rattle.std.specs.Prelude.{◌≤◌, ℕ, List, map, length, Option, IfSome}
use Rattle.std.specs.List.{All, Contains}
use Rattle.its_model.specs.model.Programs.{Program}
use Rattle.cert_types.specs.Views.{proof_of}
use Rattle.refined_writer.specs.cert_text.OverFirst.{IsOverFirst}
use Rattle.program_claims.specs.Claims.{Stated, AllHoldOf}
use Rattle.claims_check.specs.Views.{stated_of}
use Rattle.check_refined.specs.Files.{IsAcceptedWith}
use Rattle.refined_types.specs.Views.{file_view, section_view}
use Rattle.refined_files.specs.Files.{RefinedFile, program_above}
use Rattle.refined_writer.specs.Texts.{refined_text}
use Rattle.facts_proof.specs.Proofs.{ProvesFacts}
use Rattle.facts_proof.specs.declared.proving.FactsProof.{FactsProof}
use Rattle.best_bounds.specs.Subjects.{subject_of, bounds_on_steps}
use Rattle.best_bounds.specs.declared.found_bounds.AcceptedFile.{AcceptedFile}
use Rattle.best_bounds.specs.declared.found_bounds.Found.{Found}

-- The file is accepted for the program; these are the statements of its claims, in order; and each of them holds on all
-- runs of the program, from any integers and by any choice of rules. The bounds that its plain lemmas write are over
-- the start arguments, so that it has a text.
pub record IsAcceptedFileFor (p : Program) (f : AcceptedFile) : Type 0 where
  pub over_start_arguments : All (λ lemma. IsOverFirst (length p.start_names) (proof_of lemma)) f.file.plain.lemmas.items
  pub accepted : IsAcceptedWith p (file_view f.file) (map stated_of f.stated.items)
  pub hold : AllHoldOf p (map stated_of f.stated.items)

-- a proof file that is accepted for the program states it
pub record IsStatedByFile (p : Program) (s : Stated) : Type 0 where
  pub file : RefinedFile
  pub stated : List Stated
  pub accepted : IsAcceptedWith p file stated
  pub states : Contains stated s

-- The best file is accepted for the program. Each of the best statements holds on all runs of the program and is one of an
-- accepted file, which needn't be the best one, and there is one on each subject of the best file's statements.
pub record IsFoundFor (p : Program) (found : Found) : Type 0 where
  pub file_accepted : IsAcceptedFileFor p found.file
  pub hold : AllHoldOf p (map stated_of found.best.items)
  pub by_files : All (λ s. IsStatedByFile p s) (map stated_of found.best.items)
  pub on_each : All (Contains (map subject_of (map stated_of found.best.items)))
      (map subject_of (map stated_of found.file.stated.items))

-- the file has as many bounds on times, costs and totals as that of the analysis with facts, or more
abbrev pub HasNoFewerStepBounds : FactsProof → AcceptedFile → Type 0
HasNoFewerStepBounds proof accepted =
    bounds_on_steps (map stated_of proof.stated.items) ≤ bounds_on_steps (map stated_of accepted.stated.items)

-- The file is accepted for the program. If there is a file of what the analysis prints with the facts that are kept within
-- this many pivots, it has as many bounds on times, costs and totals as that one, or more. No clause says that there is
-- one.
pub record IsCertificateFor (p : Program) (pivots : ℕ) (accepted : AcceptedFile) : Type 0 where
  pub is_accepted : IsAcceptedFileFor p accepted
  pub by_facts : Option FactsProof
  pub proves : IfSome by_facts (λ proof. ProvesFacts p pivots proof)
  pub no_fewer : IfSome by_facts (λ proof. HasNoFewerStepBounds proof accepted)

-- the text of the file, whose lemmas have the names of the program that its section spells
abbrev pub accepted_text : Program → AcceptedFile → List ℕ
accepted_text p accepted = refined_text p (program_above p (section_view accepted.file.section)) (file_view accepted.file)
