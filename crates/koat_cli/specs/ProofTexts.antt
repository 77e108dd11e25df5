-- Proof files of any form as the second file of a request: their limit, and the answers if one is refused.
use Rattle.std.specs.Prelude.{ℕ, ◌^◌, List}
use Rattle.model.specs.Programs.{Program}
use Rattle.check_text.specs.Texts.{proof_too_long_text, proof_refusal_text}
use Rattle.proof_forms.specs.Texts as forms
use Rattle.proof_forms.specs.Texts.{ProofText, IsFirstRefusal}
use Rattle.call_plans.specs.declared.status.Status.TheVariants.{ProofRefused}
use Rattle.call_plans.specs.Kinds.{TextKind}
use Rattle.koat_cli.specs.Statements.{StatesOne}

-- a proof's text has at most 67,108,864 bytes
abbrev pub proof_limit : ℕ
proof_limit = 2 ^ 26

-- the bytes are refused as the text of a proof file of the program, of the form that they begin with, and the text
-- states the first refusal
abbrev pub IsProofRefusedAs : Program → List ℕ → List ℕ → Type 0
IsProofRefusedAs program bytes text = StatesOne (IsFirstRefusal program bytes) proof_refusal_text text

-- texts of proof files of a program: the meaning of bytes is the file within the limits whose text they are, of one of
-- the first two forms or of the third one, or else the section of such a file that isn't accepted, and why
abbrev pub proofs : Program → TextKind ProofText
proofs program = record {
  limit = proof_limit;
  refused = ProofRefused;
  too_long = proof_too_long_text;
  StandsFor = forms.StandsFor program;
  IsRefusedAs = IsProofRefusedAs program;
}
