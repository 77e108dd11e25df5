-- Run files as the second file of a request: their limit, and the answers if one is refused.
use Rattle.std.specs.Prelude.{ℕ, ◌^◌, List, length, ◌++◌, codes, decimal}
use Rattle.model.specs.Programs.{Program}
use Rattle.its_model.specs.Steps.{StepFault, OtherRule, AtomFails, PastRange}
use Rattle.run_replay.specs.text_core.Readers.{Fault}
use Rattle.run_replay.specs.text_core.Faults.{IsFirst}
use Rattle.run_replay.specs.text_grammar.ByteTexts.{tokens}
use Rattle.run_replay.specs.text_grammar.Texts.{reader}
use Rattle.run_replay.specs.declared.kind.RunKind.{RunKind}
use Rattle.run_replay.specs.declared.kind.RunKind.TheVariants.{Syntax, NumberTooLarge, BadReference}
use Rattle.run_replay.specs.declared.kind.RunKind.TheVariants.{ArityDiffers, Limit}
use Rattle.run_replay.specs.Replays.{BadStep}
use Rattle.run_replay.specs.Runs.{Run}
use Rattle.run_replay.specs.Spelled.{IsTextWithin}
use Rattle.run_replay.specs.Texts.{runs_of}
use Rattle.call_plans.specs.declared.status.Status.TheVariants.{RunRefused}
use Rattle.call_plans.specs.Kinds.{TextKind}
use Rattle.koat_cli.specs.Statements.{StatesOne}

-- a run's text has at most 67,108,864 bytes
abbrev pub run_limit : ℕ
run_limit = 2 ^ 26

-- the text if a run's file is too long
abbrev pub run_too_long_text : List ℕ
run_too_long_text = codes "run refused: too long\n"

-- what is wrong with a run's text
abbrev pub run_kind_text : RunKind → List ℕ
run_kind_text Syntax = codes "Syntax"
run_kind_text NumberTooLarge = codes "NumberTooLarge"
run_kind_text BadReference = codes "BadReference"
run_kind_text ArityDiffers = codes "ArityDiffers"
run_kind_text Limit = codes "Limit"

-- the text of a refusal: the byte, from 0, and what is wrong there
abbrev pub run_refusal_line : ℕ → List ℕ → List ℕ
run_refusal_line at kind = codes "run refused at " ++ (decimal at ++ (codes ": " ++ (kind ++ codes "\n")))

abbrev pub run_refusal_text : Fault RunKind → List ℕ
run_refusal_text x = run_refusal_line x.at (run_kind_text x.kind)

-- the bytes have a fault as the text of a run of the program, and the text states the first
abbrev pub IsRunRefusedAs : Program → List ℕ → List ℕ → Type 0
IsRunRefusedAs program bytes text =
    StatesOne (IsFirst (reader (runs_of program)) (length bytes) (tokens bytes)) run_refusal_text text

-- texts of runs of a program, within the limits
abbrev pub runs : Program → TextKind Run
runs program = record {
  limit = run_limit;
  refused = RunRefused;
  too_long = run_too_long_text;
  StandsFor = IsTextWithin program;
  IsRefusedAs = IsRunRefusedAs program;
}

-- the fault of a step
abbrev pub fault_text : StepFault → List ℕ
fault_text OtherRule = codes "wrong rule"
fault_text (AtomFails atom) = codes "atom " ++ decimal atom
fault_text PastRange = codes "value passes 128 bits"

-- the text if steps aren't a run: the number of the first bad step, and its fault
abbrev pub bad_step_line : ℕ → List ℕ → List ℕ
bad_step_line step fault = codes "not a run at step " ++ (decimal step ++ (codes ": " ++ (fault ++ codes "\n")))

abbrev pub bad_step_text : BadStep → List ℕ
bad_step_text bad = bad_step_line bad.number (fault_text bad.fault)
