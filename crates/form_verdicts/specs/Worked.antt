-- Verdicts on small files, as they were worked out by hand.
use Rattle.std.specs.Prelude.{List, ℕ, [], ◌∷◌, pos, codes, Some}
use Rattle.model.specs.WorkedRuns.{countdown}
use Rattle.section_checks.specs.Faults.{WrongFacts}
use Rattle.cert_types.specs.cert_program.Worked.{three_rules}
use Rattle.refined_files.specs.Files.{RefinedFile}
use Rattle.refined_programs.specs.Annotated.{To, Section}
use Rattle.refined_text.specs.Outcomes.{BadNames, FirstFault}
use Rattle.check_refined.specs.Worked.{empty_file, claiming, citing, off_plain, no_copy, alike, copying, copy_a}
use Rattle.check_refined.specs.Worked.{file_with, nothing}
use Rattle.proof_forms.specs.Texts.{Refined, NotRefined}
use Rattle.form_verdicts.specs.Verdicts.{IsAcceptanceOf, IsRefusalOf}

-- a section of the program that counts down: a copy of each symbol, of which that of the second one says that 1 is at
-- least 0, as multipliers show after each rule
abbrev pub section_with_constant_fact : Section
section_with_constant_fact = record {
  copies =
      record { name = codes "a"; over = 0; facts = [] }
      ∷ record { name = codes "b"; over = 1; facts = record { coefs = pos 0 ∷ pos 0 ∷ []; constant = pos 1 } ∷ [] } ∷ [];
  branches =
      record { source = 0; rule = 1; cases = To 1 ((1 ∷ []) ∷ []) }
      ∷ record { source = 1; rule = 2; cases = To 1 ((0 ∷ 0 ∷ 1 ∷ []) ∷ []) } ∷ [];
}

-- a file of this section alone
abbrev pub file_of_section : RefinedFile
file_of_section = file_with (Some section_with_constant_fact) nothing [] []

-- An empty file is accepted, with nothing after the first line. A file with a section alone has the line of the fact
-- that all copies of the second symbol have. The file with a claim that no lemma supports is refused at that claim, for
-- that reason alone, and isn't accepted with any text. A lemma, a node of the plain part,
-- a fault of the section and the names of its copies are each refused with a text of their own, and come before the
-- claims. A section that isn't accepted says which copy is wrong.
pub record VerdictsAreWorkedOut : Type 0 where
  pub empty : IsAcceptanceOf countdown (Refined empty_file) (codes "accepted\n")
  pub section : IsAcceptanceOf countdown (Refined file_of_section) (codes "accepted\nfact l1: 0 >= -1\n")
  pub no_fact : ¬ (IsAcceptanceOf countdown (Refined file_of_section) (codes "accepted\n"))
  pub claim : IsRefusalOf countdown (Refined claiming) (codes "no claim 1: lemma\n")
  pub other_claim : ¬ (IsRefusalOf countdown (Refined claiming) (codes "no claim 2: lemma\n"))
  pub not_accepted : (text : List ℕ) → ¬ (IsAcceptanceOf countdown (Refined claiming) text)
  pub lemma : IsRefusalOf countdown (Refined citing) (codes "no lemma 1: shape\n")
  pub not_claim : ¬ (IsRefusalOf countdown (Refined citing) (codes "no claim 1: lemma\n"))
  pub node : IsRefusalOf three_rules (Refined off_plain) (codes "no lemma 2 node 1: shape\n")
  pub start : IsRefusalOf countdown (Refined no_copy) (codes "no refinement: start\n")
  pub names : IsRefusalOf countdown (Refined alike) (codes "no refinement: names\n")
  pub no_names : IsRefusalOf countdown (NotRefined (copying (copy_a 0 ∷ [])) BadNames) (codes "no refinement: names\n")
  pub facts : IsRefusalOf countdown (NotRefined (copying (copy_a 0 ∷ [])) (FirstFault (WrongFacts 1)))
      (codes "no refinement: facts a\n")
  pub no_section : (text : List ℕ) → ¬ (IsAcceptanceOf countdown (NotRefined (copying []) BadNames) text)
