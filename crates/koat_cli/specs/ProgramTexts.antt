-- Files of programs: their limit, and the answers if one is refused.
use Rattle.std.specs.Prelude.{◌≡◌, ℕ, ◌^◌, List}
use Rattle.model.specs.Programs.{Program}
use Rattle.its_model.specs.text_core.Readers.{Fault}
use Rattle.its_model.specs.text_core.Reading as reading
use Rattle.its_reader.specs.its_text.Kinds.{Kind}
use Rattle.its_reader.specs.its_text.Spelling.{SpellsWithin}
use Rattle.its_reader.specs.its_text.Answers.{verdict}
use Rattle.its_reader.specs.its_text.Verdicts.{IsVerdict}
use Rattle.call_plans.specs.declared.status.Status.TheVariants.{ProgramRefused}
use Rattle.call_plans.specs.Kinds.{TextKind}
use Rattle.koat_cli.specs.Report.{too_long_text, refusal_text}

-- a program's text has at most 4,194,304 bytes
abbrev pub program_limit : ℕ
program_limit = 2 ^ 22

-- the bytes have a fault as the text of a program within the limits, and the text states the first: its kind, and its
-- byte
pub record IsProgramRefusedAs (bytes text : List ℕ) : Type 0 where
  pub fault : Fault Kind
  pub refused : verdict bytes ≡ reading.Refused fault
  pub first : IsVerdict bytes (reading.Refused fault)
  pub result_is : text ≡ refusal_text fault

-- texts of programs: the meaning of bytes is the program that they spell within the limits
abbrev pub programs : TextKind Program
programs = record {
  limit = program_limit;
  refused = ProgramRefused;
  too_long = too_long_text;
  StandsFor = SpellsWithin;
  IsRefusedAs = IsProgramRefusedAs;
}
