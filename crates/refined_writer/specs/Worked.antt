-- The texts of small files, as they were worked out by hand.
use Rattle.std.specs.Prelude.{◌≡◌, List, [], ◌∷◌, Option, Some, None, codes}
use Rattle.its_model.specs.model.Programs.{Program}
use Rattle.refined_programs.specs.Annotated.{Section}
use Rattle.potential_nodes.specs.SignedNodes.{SignedLemma}
use Rattle.program_claims.specs.Claims.{Claim}
use Rattle.potential_writer.specs.Worked.{claims, paying, two_symbols}
use Rattle.refined_types.specs.refined_files.Files.{RefinedFile}
use Rattle.refined_writer.specs.Texts.{refined_text}

-- a file without plain lemmas
abbrev pub file_with : Option Section → List SignedLemma → List Claim → RefinedFile
file_with section signed claims =
    record { section = section; plain = record { lemmas = []; gaps = [] }; signed = signed; claims = claims }

-- one copy of the first symbol
abbrev pub one_copy : Section
one_copy = record { copies = record { name = codes "c"; over = 0; facts = [] } ∷ []; branches = [] }

pub record WorkedTexts : Type 0 where
  pub nothing : (p above : Program) → refined_text p above (file_with None [] []) ≡ codes "koat-proof 3\nkoat-proof 1\nend\n"
  pub section : (above : Program) → refined_text two_symbols above (file_with (Some one_copy) [] [])
      ≡ codes "koat-proof 3\ncopy c of a facts []\nkoat-proof 1\nend\n"
  -- lemmas have the names of the spelled program
  pub lemmas : (p : Program) → refined_text p two_symbols (file_with None (paying ∷ []) [])
      ≡ codes "koat-proof 3\nkoat-proof 1\nend\nsigned fall functions [a [1]] den 1 moves [] pays [1 [1] {} {}] to part [1]\n"
  pub claims : (p above : Program) → refined_text p above (file_with None [] claims)
      ≡ codes "koat-proof 3\nkoat-proof 1\nend\nclaim time 2 by 5\nclaim cost 1 by [0 3] to 4\nclaim total by 3\nclaim above 1.2 by [1] to 2\nclaim below 1.3 by [] to 0\n"
