-- The answer to a linear program: the end of its sequence of tableaux, or why the end isn't reached.
use Rattle.std.specs.Prelude.{◌≡◌, ◌⊎◌, ℕ, List, Some, Ok, Err}
use Rattle.bland_end.specs.simplex_core.linear_forms.LinearProgram.{LinearProgram}
use Rattle.bland_end.specs.simplex_core.declared.problem.Solved.{Solved}
use Rattle.bland_end.specs.declared.whole.WholeError.{WholeError}
use Rattle.bland_end.specs.declared.whole.WholeError.TheVariants.{Range, TooMany}
use Rattle.bland_end.specs.Whole.{IsWholeEnd}
use Rattle.lp_answer.specs.declared.answer.LpAnswer.{LpAnswer}
use Rattle.lp_answer.specs.declared.answer.LpAnswer.TheVariants.{Ended, Stopped}
use Rattle.lp_answer.specs.Texts.{end_text, stop_text}

-- the sequence of tableaux reaches an end
abbrev pub HasEnd : LinearProgram → Type 0
HasEnd p = (s : Solved) × IsWholeEnd p (Ok s)

-- the sequence of tableaux reaches no end: a number is out of range, or there are too many bases
abbrev pub HasNoEnd : LinearProgram → Type 0
HasNoEnd p = ((k : ℕ) × IsWholeEnd p (Err (Range k))) ⊎ IsWholeEnd p (Err TooMany)

-- the text states the end
pub record IsEndText (p : LinearProgram) (text : List ℕ) : Type 0 where
  pub end : Solved
  pub reached : IsWholeEnd p (Ok end)
  pub result_is : text ≡ end_text end

-- the text states why the end isn't reached
pub record IsStopText (p : LinearProgram) (text : List ℕ) : Type 0 where
  pub reason : WholeError
  pub stopped : IsWholeEnd p (Err reason)
  pub result_is : stop_text reason ≡ Some text

-- the answer is the end, or why it isn't reached
abbrev pub IsAnswerTo : LinearProgram → LpAnswer → Type 0
IsAnswerTo p (Ended text) = IsEndText p text.items
IsAnswerTo p (Stopped text) = IsStopText p text.items

-- a linear program has one answer: at most one text of its end, or at most one of why the end isn't reached, but not
-- both; each is given only in its case, and the cases exclude each other
pub record LpAnswersAreOne : Type 0 where
  pub one_end : (p : LinearProgram) (x y : List ℕ) → IsEndText p x → IsEndText p y → x ≡ y
  pub one_stop : (p : LinearProgram) (x y : List ℕ) → IsStopText p x → IsStopText p y → x ≡ y
  pub end_text_only_at_end : (p : LinearProgram) (x : List ℕ) → IsEndText p x → HasEnd p
  pub stop_text_only_without_end : (p : LinearProgram) (x : List ℕ) → IsStopText p x → HasNoEnd p
  pub apart : (p : LinearProgram) → HasEnd p → ¬ HasNoEnd p
