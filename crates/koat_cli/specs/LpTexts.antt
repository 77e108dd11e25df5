-- Files of linear programs: their limit, and the answers if one is refused.
use Rattle.std.specs.Prelude.{ℕ, List}
use Rattle.lp_text.specs.Lps.{Lp}
use Rattle.lp_text.specs.Spelled.{IsTextWithin}
use Rattle.lp_text.specs.Decided.{IsFirstFault}
use Rattle.lp_answer.specs.Texts.{refusal_text}
use Rattle.call_plans.specs.declared.status.Status.TheVariants.{ProgramRefused}
use Rattle.call_plans.specs.Kinds.{TextKind}
use Rattle.koat_cli.specs.Statements.{StatesOne}
use Rattle.koat_cli.specs.Report.{too_long_text}
use Rattle.koat_cli.specs.ProgramTexts.{program_limit}

-- the bytes have a fault as the text of a linear program within the limits, and the text states the first: its kind,
-- and its byte
abbrev pub IsLpRefusedAs : List ℕ → List ℕ → Type 0
IsLpRefusedAs bytes text = StatesOne (IsFirstFault bytes) refusal_text text

-- texts of linear programs, within the limits
abbrev pub linear_programs : TextKind Lp
linear_programs = record {
  limit = program_limit;
  refused = ProgramRefused;
  too_long = too_long_text;
  StandsFor = IsTextWithin;
  IsRefusedAs = IsLpRefusedAs;
}
