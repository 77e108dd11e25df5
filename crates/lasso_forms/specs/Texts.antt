-- The texts of lasso files of both forms.
use Rattle.std.specs.Prelude.{if◌then◌else◌, ℕ, List, length}
use Rattle.its_model.specs.model.Programs.{Program}
use Rattle.lasso_check.specs.text_grammar.text_core.Readers.{Fault}
use Rattle.lasso_check.specs.text_grammar.text_core.Faults.{IsFirst}
use Rattle.lasso_check.specs.text_grammar.Texts.{reader}
use Rattle.lasso_check.specs.text_grammar.ByteTexts.{tokens}
use Rattle.run_replay.specs.declared.kind.RunKind.{RunKind}
use Rattle.lasso_check.specs.Spelled.{IsTextWithin}
use Rattle.lasso_check.specs.Texts.{lassos_of}
use Rattle.moving_check.specs.Texts.{exchanged, is_moving_form, IsMovingText}
use Rattle.lasso_forms.specs.Files.{LassoFile, FirstForm, SecondForm}

-- a text of the second form with the number of the first one; other texts are unchanged
abbrev pub in_first_form : List ℕ → List ℕ
in_first_form bytes = if is_moving_form bytes then exchanged bytes else bytes

-- the bytes are the text of a lasso file of a program, within the limits
abbrev pub IsFileText : Program → List ℕ → LassoFile → Type 0
IsFileText p bytes (FirstForm l) = IsTextWithin p bytes l
IsFileText p bytes (SecondForm l) = IsMovingText p bytes l

-- the first fault of bytes, read as a text of the first form
abbrev pub IsFirstFaultOfForm : Program → List ℕ → Fault RunKind → Type 0
IsFirstFaultOfForm p bytes x = IsFirst (reader (lassos_of p)) (length bytes) (tokens bytes) x

-- the first fault of bytes, read as the text of a lasso file: both forms have the same faults at the same positions
abbrev pub IsFirstFault : Program → List ℕ → Fault RunKind → Type 0
IsFirstFault p bytes x = IsFirstFaultOfForm p (in_first_form bytes) x
