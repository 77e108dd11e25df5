-- Worked values of reading small lasso texts.
use Rattle.std.specs.Prelude.{◌≡◌, ◌≢◌, ◌≤◌, ◌-◌, ◌^◌, ℕ, pos, negsuc, Some, None, List, [], ◌∷◌, ◌++◌, codes, length, map}
use Rattle.its_model.specs.model.Runs.{Step}
use Rattle.text_grammar.specs.text_core.Reading.{Answer, Parsed, Refused, answer}
use Rattle.text_grammar.specs.Texts.{reader}
use Rattle.text_grammar.specs.ByteTexts.{tokens}
use Rattle.run_replay.specs.declared.kind.RunKind.{RunKind}
use Rattle.run_replay.specs.declared.kind.RunKind.TheVariants.{Syntax, NumberTooLarge, BadReference, ArityDiffers}
use Rattle.run_replay.specs.declared.kind.RunKind.TheVariants.{Limit}
use Rattle.run_replay.specs.Worked.{small_program}
use Rattle.lasso_check.specs.Lassos.{Lasso}
use Rattle.lasso_check.specs.Texts.{State, steps_in, lasso_bytes, lassos_of}
use Rattle.lasso_check.specs.Spelled.{text_of, IsShort}

-- The answer to a text, for a program whose start symbol has two places, with three rules, of which the second has one
-- free variable and the third has two; and the answer to a text after the lines `koat-lasso 1` and `start 1 -2` (24
-- bytes).
abbrev pub answer_to : List ℕ → Answer Lasso RunKind
answer_to bytes = answer (reader (lassos_of small_program)) (length bytes) (tokens bytes)

abbrev pub answer_behind : List ℕ → Answer Lasso RunKind
answer_behind bytes = answer_to (codes "koat-lasso 1\nstart 1 -2\n" ++ bytes)

-- a refusal of this kind at this position, and the lasso with this stem and this turn
abbrev pub refused : RunKind → ℕ → Answer Lasso RunKind
refused kind at = Refused (record { kind = kind; at = at })

abbrev pub lasso : List Step → List Step → Answer Lasso RunKind
lasso stem turn = Parsed (record { start = pos 1 ∷ negsuc 1 ∷ []; stem = stem; turn = turn })

-- a text, and the answer to it
pub record Row : Type 0 where
  pub text : List ℕ
  pub comes : Answer Lasso RunKind

abbrev pub row : List ℕ → Answer Lasso RunKind → Row
row text comes = record { text = text; comes = comes }

-- a step by rule 1
abbrev pub one : Step
one = record { rule = 1; free = [] }

-- texts of stems and turns, and their answers
abbrev pub rows : List Row
rows =
    -- a turn without a stem, and a stem with a turn, which the line `loop` separates
    row (codes "loop\nstep 1\nend\n") (lasso [] (one ∷ []))
    ∷ row (codes "step 1\nloop\nstep 2 10\nstep 1\nend\n")
    (lasso (one ∷ []) (record { rule = 2; free = pos 10 ∷ [] } ∷ one ∷ []))
    ∷ row (codes "step 1\nstep 3 4 -5\nloop\nstep 1\nend\n")
    (lasso (one ∷ record { rule = 3; free = pos 4 ∷ negsuc 4 ∷ [] } ∷ []) (one ∷ []))
    -- `loop` is missing, and the turn is empty: the first byte of `end`
    ∷ row (codes "end\n") (refused Syntax 24)
    ∷ row (codes "step 1\nend\n") (refused Syntax 31)
    ∷ row (codes "loop\nend\n") (refused Syntax 29)
    ∷ row (codes "step 1\nloop\nend\n") (refused Syntax 36)
    -- a second `loop`, a `loop` with a value, and a text that ends too early
    ∷ row (codes "loop\nloop\nstep 1\nend\n") (refused Syntax 29)
    ∷ row (codes "loop\nstep 1\nloop\n") (refused Syntax 36)
    ∷ row (codes "loop 1\n") (refused Syntax 28)
    ∷ row (codes "loop\nstep 1\n") (refused Syntax 36)
    -- the same in the turn as in the stem: a rule that isn't in the program, too few values, and a value that is too
    -- large
    ∷ row (codes "step 4\n") (refused BadReference 29)
    ∷ row (codes "loop\nstep 0\n") (refused BadReference 34)
    ∷ row (codes "step 2\n") (refused ArityDiffers 30)
    ∷ row (codes "loop\nstep 2\n") (refused ArityDiffers 35)
    ∷ row (codes "loop\nstep 2 9223372036854775808\n") (refused NumberTooLarge 36)
    ∷ []

-- each row's text has the row's answer
pub record LassosAreWorkedOut : Type 0 where
  pub worked : map (λ r. answer_behind r.text) rows ≡ map (λ r. r.comes) rows
  -- the empty text ends too early, at 0; a missing start value is a fault at byte 20; a run file isn't a lasso file
  pub empty : answer_to [] ≡ refused Syntax 0
  pub start_too_few : answer_to (codes "koat-lasso 1\nstart 1\n") ≡ refused ArityDiffers 20
  pub run_file : answer_to (codes "koat-run 1\nstart 1 -2\nend\n") ≡ refused Syntax 5
  -- the byte `s` at the beginning of a line is over the limit after 1,000,000 or more steps in both parts, and isn't
  -- after fewer; no other byte has this fault
  pub limit : (s : State) → 1000000 ≤ steps_in s.lasso → (lasso_bytes small_program).fault_of_byte s 115 ≡ Some Limit
  pub within : (s : State) → steps_in s.lasso ≤ 999999 → (lasso_bytes small_program).fault_of_byte s 115 ≡ None
  pub other_byte : (s : State) (b : ℕ) → b ≢ 115 → (lasso_bytes small_program).fault_of_byte s b ≡ None
  pub both_parts : steps_in (record { start = []; stem = one ∷ one ∷ []; turn = one ∷ [] }) ≡ 3
  -- each number of a lasso may have 64 digits, and none 65, in the turn as well
  pub short : IsShort (record { start = []; stem = []; turn = record { rule = 10 ^ 64 - 1; free = [] } ∷ [] })
  pub long_rule : ¬ IsShort (record { start = []; stem = []; turn = record { rule = 10 ^ 64; free = [] } ∷ [] })
  pub long_stem : ¬ IsShort (record { start = []; stem = record { rule = 10 ^ 64; free = [] } ∷ []; turn = [] })
  -- the text of a lasso
  pub spelled : text_of (record {
    start = pos 1 ∷ negsuc 1 ∷ [];
    stem = one ∷ [];
    turn = record { rule = 3; free = pos 10 ∷ negsuc 0 ∷ [] } ∷ one ∷ [];
  }) ≡ codes "koat-lasso 1\nstart 1 -2\nstep 1\nloop\nstep 3 10 -1\nstep 1\nend\n"
