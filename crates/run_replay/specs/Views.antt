-- The types of the code as plain data, and the meaning of a result.
use Rattle.std.specs.Prelude.{ℕ, List, map, Result, Option, Some, None}
use Rattle.its_model.specs.Views.{step_of}
use Rattle.its_model.specs.model.Programs.{Program}
use Rattle.text_grammar.specs.text_core.Readers.{Fault}
use Rattle.text_grammar.specs.Results.{IsRight, Yields}
use Rattle.run_replay.specs.declared.file.RunFile.{RunFile}
use Rattle.run_replay.specs.declared.text.State as code
use Rattle.run_replay.specs.declared.kind.RunKind.{RunKind}
use Rattle.run_replay.specs.declared.kind.RunKind.TheVariants as kind
use Rattle.run_replay.specs.declared.error.RunTextError.{RunTextError}
use Rattle.run_replay.specs.declared.error.RunTextError.TheVariants.{Syntax, NumberTooLarge, BadReference}
use Rattle.run_replay.specs.declared.error.RunTextError.TheVariants.{ArityDiffers, Limit, Memory}
use Rattle.run_replay.specs.Runs.{Run}
use Rattle.run_replay.specs.Texts.{State, runs_of}
use Rattle.run_replay.specs.Spelled.{IsTextWithin}

-- a run file as plain data
abbrev pub run_of : RunFile → Run
run_of r = record { start = r.start.items; steps = map step_of r.steps.items }

-- The parser state as plain data.
abbrev pub own_of : code.State → State
own_of s = record { run = run_of s.file; rule = s.rule }

-- the refusal that an error contains; running out of memory contains none
abbrev pub refusal_in : RunTextError → Option (Fault RunKind)
refusal_in (Syntax at) = Some (record { kind = kind.Syntax; at = at })
refusal_in (NumberTooLarge at) = Some (record { kind = kind.NumberTooLarge; at = at })
refusal_in (BadReference at) = Some (record { kind = kind.BadReference; at = at })
refusal_in (ArityDiffers at) = Some (record { kind = kind.ArityDiffers; at = at })
refusal_in (Limit at) = Some (record { kind = kind.Limit; at = at })
refusal_in Memory = None

-- a result is right: it is the run within the limits whose text the bytes are, or exactly their first fault, or memory
-- ran out
abbrev pub Answers : Program → List ℕ → Result RunFile RunTextError → Type 0
Answers p bytes result = IsRight run_of refusal_in (runs_of p) (IsTextWithin p bytes) bytes result

-- a result is the run, unless memory ran out
abbrev pub GivesBack : Run → Result RunFile RunTextError → Type 0
GivesBack r result = Yields run_of refusal_in r result
