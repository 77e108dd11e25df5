-- Outcomes of small files, as they were worked out by hand.
use Rattle.std.specs.Prelude.{◌≡◌, ℕ, ◌^◌, ◌-◌, List, [], ◌∷◌, codes, None}
use Rattle.its_model.specs.model.Programs.{Program}
use Rattle.text_grammar.specs.text_core.Readers.{Fault}
use Rattle.refined_programs.specs.Annotated.{Section}
use Rattle.section_checks.specs.Faults.{WrongStart}
use Rattle.cert_text.specs.cert_lexer.declared.kind.ProofKind.{ProofKind}
use Rattle.cert_text.specs.cert_lexer.declared.kind.ProofKind.TheVariants.{Syntax, BadReference, TooDeep}
use Rattle.cert_text.specs.Worked.{counting}
use Rattle.section_text.specs.declared.kind.SectionKind.TheVariants as section_kinds
use Rattle.potential_text.specs.declared.kind.LineKind.TheVariants as line_kinds
use Rattle.refined_files.specs.Files.{RefinedFile}
use Rattle.refined_text.specs.Kinds.{kind_of_section, kind_of_line, same_kind}
use Rattle.refined_text.specs.Outcomes.{FirstFault, AtText, AtSection, Outcome, Gives, Refuses, in_file}
use Rattle.refined_text.specs.Files.{FileReads}

-- a file whose parts are all empty
abbrev pub nothing : RefinedFile
nothing = record { section = None; plain = record { lemmas = []; gaps = [] }; signed = []; claims = [] }

-- a section whose first copy is of another symbol than the start symbol
abbrev pub other_start : Section
other_start = record { copies = record { name = codes "x"; over = 1; facts = [] } ∷ []; branches = [] }

-- a refusal of a text
abbrev pub refused : ProofKind → ℕ → Outcome RefinedFile
refused kind at = Refuses (AtText (record { kind = kind; at = at }))

pub record OutcomesAreWorkedOut : Type 0 where
  -- the first line differs, or ends too early
  pub blank : (p : Program) → FileReads p (codes "koat-proof 3 \n") (refused Syntax 12)
  pub short : (p : Program) → FileReads p (codes "koat") (refused Syntax 4)
  -- a file with an empty plain part and nothing else
  pub empty : FileReads counting (codes "koat-proof 3\nkoat-proof 1\nend\n") (Gives nothing)
  -- refusals of the plain part and of the claims, at their positions in the file
  pub no_plain : FileReads counting (codes "koat-proof 3\n") (refused Syntax 13)
  pub no_lemma : FileReads counting (codes "koat-proof 3\nkoat-proof 1\nlemma cite 1\nend\n") (refused BadReference 37)
  pub no_claim : FileReads counting (codes "koat-proof 3\nkoat-proof 1\nend\nclaim x") (refused Syntax 36)
  -- a refusal of a section's text, and a section that isn't accepted, come before refusals of later parts
  pub no_symbol : FileReads counting (codes "koat-proof 3\ncopy x of y facts []\nlemma\n") (refused BadReference 23)
  pub no_start : FileReads counting (codes "koat-proof 3\ncopy x of l1 facts []\nlemma\n")
      (Refuses (AtSection other_start (FirstFault WrongStart)))
  -- positions are counted from where a part begins, and the greatest one is 2^64-1; kinds keep their names
  pub behind : in_file kind_of_line 20 (record { kind = line_kinds.TooDeep; at = 5 })
      ≡ record { kind = TooDeep; at = 25 }
  pub first : in_file kind_of_section 13 (record { kind = section_kinds.BadReference; at = 0 })
      ≡ record { kind = BadReference; at = 13 }
  pub greatest : in_file same_kind 13 (record { kind = Syntax; at = 2 ^ 64 - 2 })
      ≡ record { kind = Syntax; at = 2 ^ 64 - 1 }
