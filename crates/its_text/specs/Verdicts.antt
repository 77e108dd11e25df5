-- The meaning of the verdict on a text.
use Rattle.std.specs.Prelude.{◌≡◌, ◌↔◌, ℕ, ◌⊎◌, List, length, Some}
use Rattle.expr_text.specs.model.Programs.{Program}
use Rattle.expr_text.specs.text_core.Tokens.{pieces}
use Rattle.expr_text.specs.text_core.Readers.{Fault}
use Rattle.expr_text.specs.text_core.Faults.{FaultAt, IsFirst}
use Rattle.expr_text.specs.text_core.Reading.{Answer, Parsed, Refused}
use Rattle.its_text.specs.Kinds.{Kind}
use Rattle.its_text.specs.Lexing.{tokens_of}
use Rattle.its_text.specs.Written.{Section}
use Rattle.its_text.specs.Numbering.{start_of, rules_of, program_numbered}
use Rattle.its_text.specs.Grammar.{Writes, programs}
use Rattle.its_text.specs.Answers.{whole, verdict}
use Rattle.its_text.specs.Spelling.{Spells, SpellsWithin}

-- the bytes are the text of these sections, and have no fault
pub record IsFaultless (bytes : List ℕ) (written : List Section) : Type 0 where
  pub text : Writes written (pieces (tokens_of bytes))
  pub faultless : (x : Fault Kind) → ¬ FaultAt programs (length bytes) (tokens_of bytes) x

-- The bytes are the text, without a fault, of sections that are this program by numbers.
pub record IsTextOf (bytes : List ℕ) (p : Program) : Type 0 where
  pub written : List Section
  pub stands : IsFaultless bytes written
  pub numbered : program_numbered written ≡ Some p

-- The bytes are the text, without another fault, of sections that lack a required one, or that have no rule whose
-- source is the start symbol.
pub record LacksPart (bytes : List ℕ) (x : Fault Kind) : Type 0 where
  pub written : List Section
  pub stands : IsFaultless bytes written
  pub lacks : whole (length bytes) (tokens_of bytes) written (start_of written) (rules_of written) ≡ Refused x

-- A verdict is right: it is the program of the text, or its first fault, or the missing section or rule if there is no
-- other fault.
abbrev pub IsVerdict : List ℕ → Answer Program Kind → Type 0
IsVerdict bytes (Parsed p) = IsTextOf bytes p
IsVerdict bytes (Refused x) = IsFirst programs (length bytes) (tokens_of bytes) x ⊎ LacksPart bytes x

-- The verdict on each text is right and no other one is, and a text that spells a program is read as that one or has a
-- first fault.
pub record VerdictsAreRight : Type 0 where
  pub each : (bytes : List ℕ) → IsVerdict bytes (verdict bytes)
  pub only : (bytes : List ℕ) (a : Answer Program Kind) → IsVerdict bytes a → a ≡ verdict bytes
  pub spelled : (bytes : List ℕ) (p : Program) → Spells bytes p
      → (verdict bytes ≡ Parsed p) ⊎ ((x : Fault Kind) × IsFirst programs (length bytes) (tokens_of bytes) x
      × (verdict bytes ≡ Refused x))

-- a verdict is right, and no other one is
pub record IsOnlyVerdict (bytes : List ℕ) (a : Answer Program Kind) : Type 0 where
  pub right : IsVerdict bytes a
  pub only : (b : Answer Program Kind) → IsVerdict bytes b → b ≡ a

-- a text is read as a program exactly if it spells that one within the limits
pub record VerdictsAreSpelled : Type 0 where
  pub stands : (bytes : List ℕ) (p : Program) → (verdict bytes ≡ Parsed p) ↔ SpellsWithin bytes p
