-- The texts of lassos of a program: the parser state, and the faults of bytes and numbers.
use Rattle.std.specs.Prelude.{ℕ, ◌+◌, ◌-◌, ◌^◌, min, Bool, true, false, not, ◌==◌, if◌then◌else◌, ℤ}
use Rattle.std.specs.Prelude.{List, [], ◌∷◌, ◌++◌, length, Option, Some, None}
use Rattle.its_model.specs.model.Programs.{Program}
use Rattle.its_model.specs.model.Runs.{Step}
use Rattle.text_grammar.specs.text_core.Choices.{when}
use Rattle.text_grammar.specs.Grammars.{rules_of}
use Rattle.text_grammar.specs.Texts.{Text}
use Rattle.text_grammar.specs.ByteTexts.{ByteText, texts_of}
use Rattle.run_replay.specs.declared.kind.RunKind.{RunKind}
use Rattle.run_replay.specs.declared.kind.RunKind.TheVariants.{Syntax, NumberTooLarge, BadReference, ArityDiffers}
use Rattle.run_replay.specs.declared.kind.RunKind.TheVariants.{Limit}
use Rattle.run_replay.specs.Texts.{number_of, is_no_rule, is_full, wanted}
use Rattle.lasso_check.specs.declared.grammar.TheConstants.{LETTERS, LASSO_GRAMMAR, ROUNDS}
use Rattle.lasso_check.specs.Lassos.{Lasso}

-- the lasso so far; the number of the last line's rule, 0 (the virtual entry) before the first step; and whether the
-- line `loop` has been read
pub record State : Type 0 where
  pub lasso : Lasso
  pub rule : ℕ
  pub in_turn : Bool

-- a lasso with one more step in its turn (true) or its stem (false)
abbrev pub with_step : Bool → Step → Lasso → Lasso
with_step true s l = record { start = l.start; stem = l.stem; turn = l.turn ++ s ∷ [] }
with_step false s l = record { start = l.start; stem = l.stem ++ s ∷ []; turn = l.turn }

-- a line of values: the start values before the first step, else the free values of a step
abbrev pub with_line : List ℤ → State → State
with_line vs s =
    if s.rule == 0 then record s { lasso = record { start = vs; stem = s.lasso.stem; turn = s.lasso.turn } }
    else record s { lasso = with_step s.in_turn (record { rule = min s.rule (2 ^ 32 - 1); free = vs }) s.lasso }

-- the number of steps in both parts
abbrev pub steps_in : Lasso → ℕ
steps_in l = length l.stem + length l.turn

-- Lasso files as texts in bytes. A number is a fault if no rule has it, a line if it has another number of values than
-- it needs, and an `s` if it begins a step too many. Signed numbers occur only in lines of values; the text's only mark
-- of its own is after the line `loop`.
abbrev pub lasso_bytes : Program → ByteText State Lasso RunKind
lasso_bytes p = record {
  letters = LETTERS;
  rules = rules_of LASSO_GRAMMAR;
  rounds = ROUNDS;
  begun = record { lasso = record { start = []; stem = []; turn = [] }; rule = 0; in_turn = false };
  natural = λ n s. record s { rule = n };
  signed = λ z s. s;
  line = with_line;
  done = λ m s. record s { in_turn = true };
  fault_of_natural = λ s n. when (is_no_rule p n) BadReference;
  fault_of_signed = λ s z. Some Syntax;
  fault_of_line = λ s n. when (not (n == wanted p s.rule)) ArityDiffers;
  fault_of_byte = λ s b. if b == 115 then when (is_full (steps_in s.lasso)) Limit else None;
  tree = λ s. s.lasso;
  number = number_of;
  syntax = Syntax;
  too_large = NumberTooLarge;
}

-- the texts of lassos of a program
abbrev pub lassos_of : Program → Text ℕ Lasso RunKind
lassos_of p = texts_of (lasso_bytes p)
