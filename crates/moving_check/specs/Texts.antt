-- Lasso files of the second form, whose turns are meant to move on.
use Rattle.std.specs.Prelude.{◌≡◌, if◌then◌else◌, ◌==◌, ◌&&◌, nat_lt, Bool, length, ℕ, List, ◌∷◌, ◌++◌, codes, slice_index, slice_set}
use Rattle.lasso_check.specs.text_grammar.ByteTexts.{line_text}
use Rattle.its_model.specs.model.Programs.{Program}
use Rattle.lasso_check.specs.Lassos.{Lasso}
use Rattle.lasso_check.specs.Spelled.{stem_text, IsWithin}

-- the position of the form's number in the first line
abbrev pub form_position : ℕ
form_position = 11

-- the byte of the form's number with 1 and 2 exchanged; other bytes are unchanged
abbrev pub other_form : ℕ → ℕ
other_form b = if b == 49 then 50 else if b == 50 then 49 else b

-- a text with the other form's number: a text of the second form becomes one of the first form
abbrev pub exchanged : List ℕ → List ℕ
exchanged bytes = slice_set bytes form_position (other_form (slice_index bytes form_position))

-- a text has the number of the second form
abbrev pub is_moving_form : List ℕ → Bool
is_moving_form bytes = nat_lt form_position (length bytes) && (slice_index bytes form_position == 50)

-- the text of a lasso in the second form
abbrev pub moving_text : Lasso → List ℕ
moving_text l = codes "koat-lasso 2" ++ 10 ∷ (codes "start" ++ (line_text l.start ++ stem_text l.stem l.turn))

-- the bytes are the text of a lasso of a program in the second form, within the limits
pub record IsMovingText (p : Program) (bytes : List ℕ) (l : Lasso) : Type 0 where
  pub text : moving_text l ≡ bytes
  pub within : IsWithin p l
