-- The one text of a lasso, and which lassos of a program have one that is accepted.
use Rattle.std.specs.Prelude.{◌≡◌, ℕ, ◌≤◌, List, [], ◌∷◌, ◌++◌, codes, length}
use Rattle.std.specs.Fmt.{decimal}
use Rattle.its_model.specs.model.Programs.{Program, arity_of}
use Rattle.its_model.specs.model.Runs.{Step}
use Rattle.text_grammar.specs.ByteTexts.{line_text, AreSmall, AreShort}
use Rattle.run_replay.specs.Runs.{step_limit}
use Rattle.run_replay.specs.Spelled.{steps_text, AreStepsOf, AreShortSteps}
use Rattle.lasso_check.specs.Lassos.{Lasso}
use Rattle.lasso_check.specs.Texts.{steps_in}

-- the text of the stem, one line for each step, then the line `loop`, and then the steps of the turn and the last line,
-- as in the text of a run
abbrev pub stem_text : List Step → List Step → List ℕ
stem_text [] turn = codes "loop" ++ 10 ∷ steps_text turn
stem_text (s ∷ ss) turn = codes "step " ++ (decimal s.rule ++ (line_text s.free ++ stem_text ss turn))

-- the text of a lasso
abbrev pub text_of : Lasso → List ℕ
text_of l = codes "koat-lasso 1" ++ 10 ∷ (codes "start" ++ (line_text l.start ++ stem_text l.stem l.turn))

-- A lasso is one of the program, within the limits: it has a value for each place of the start symbol; its steps are by
-- rules of the program, and the turn has at least one; its values are at most 2^63-1 in absolute value; and both parts
-- have at most 1,000,000 steps.
pub record IsWithin (p : Program) (l : Lasso) : Type 0 where
  pub start : length l.start ≡ arity_of p p.start
  pub values : AreSmall l.start
  pub stem : AreStepsOf p l.stem
  pub turn : AreStepsOf p l.turn
  pub nonempty : 1 ≤ length l.turn
  pub count : steps_in l ≤ step_limit

-- the bytes are the text of a lasso of a program within the limits
pub record IsTextWithin (p : Program) (bytes : List ℕ) (l : Lasso) : Type 0 where
  pub text : text_of l ≡ bytes
  pub within : IsWithin p l

-- the numbers of a lasso have at most 64 digits
pub record IsShort (l : Lasso) : Type 0 where
  pub start : AreShort l.start
  pub stem : AreShortSteps l.stem
  pub turn : AreShortSteps l.turn

-- a text is the text of at most one lasso, whatever the program and the limits, if no number has more than 64 digits;
-- so bytes are the text of at most one lasso within the limits
pub record OneLasso : Type 0 where
  pub each : (a b : Lasso) → IsShort a → IsShort b → text_of a ≡ text_of b → a ≡ b
  pub within : (p : Program) (bytes : List ℕ) (a b : Lasso) → IsTextWithin p bytes a → IsTextWithin p bytes b → a ≡ b
