-- The types of the code as plain data, and what a result of reading means.
use Rattle.std.specs.Prelude.{ℕ, List, map, Result}
use Rattle.its_model.specs.Views.{step_of}
use Rattle.its_model.specs.model.Programs.{Program}
use Rattle.text_grammar.specs.Results.{IsRight, Yields}
use Rattle.run_replay.specs.declared.error.RunTextError.{RunTextError}
use Rattle.run_replay.specs.Views.{refusal_in}
use Rattle.lasso_check.specs.declared.file.Lasso as file
use Rattle.lasso_check.specs.declared.text.State as code
use Rattle.lasso_check.specs.Lassos.{Lasso}
use Rattle.lasso_check.specs.Texts.{State, lassos_of}
use Rattle.lasso_check.specs.Spelled.{IsTextWithin}

-- a lasso as plain data
abbrev pub lasso_of : file.Lasso → Lasso
lasso_of l = record { start = l.start.items; stem = map step_of l.stem.items; turn = map step_of l.turn.items }

-- The parser state as plain data.
abbrev pub own_of : code.State → State
own_of s = record { lasso = lasso_of s.file; rule = s.rule; in_turn = s.in_turn }

-- a result is right: it is the lasso whose text within the limits the bytes are, or exactly their first fault, or
-- memory ran out
abbrev pub Answers : Program → List ℕ → Result file.Lasso RunTextError → Type 0
Answers p bytes result = IsRight lasso_of refusal_in (lassos_of p) (IsTextWithin p bytes) bytes result

-- a result is this lasso, unless memory ran out
abbrev pub GivesBack : Lasso → Result file.Lasso RunTextError → Type 0
GivesBack l result = Yields lasso_of refusal_in l result
