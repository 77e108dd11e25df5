-- Files of while programs: their limit, and the answers if one is refused.
use Rattle.std.specs.Prelude.{ℕ, List}
use Rattle.while_answer.specs.Spelled.{IsTextWithin, IsFirstFault}
use Rattle.while_answer.specs.Texts.{refusal_text}
use Rattle.while_answer.specs.while_text.Reading.{Source}
use Rattle.call_plans.specs.declared.status.Status.TheVariants.{ProgramRefused}
use Rattle.call_plans.specs.Kinds.{TextKind}
use Rattle.koat_cli.specs.Statements.{StatesOne}
use Rattle.koat_cli.specs.Report.{too_long_text}
use Rattle.koat_cli.specs.ProgramTexts.{program_limit}

-- the bytes have a fault as the text of a while program within the limits, and the text states the first: its kind, and
-- its byte
abbrev pub IsWhileRefusedAs : List ℕ → List ℕ → Type 0
IsWhileRefusedAs bytes text = StatesOne (IsFirstFault bytes) refusal_text text

-- texts of while programs, within the limits
abbrev pub while_programs : TextKind Source
while_programs = record {
  limit = program_limit;
  refused = ProgramRefused;
  too_long = too_long_text;
  StandsFor = IsTextWithin;
  IsRefusedAs = IsWhileRefusedAs;
}
