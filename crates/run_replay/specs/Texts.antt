-- The texts of runs of a program: the state of the parser, and the faults of tokens.
use Rattle.std.specs.Prelude.{ℕ, ◌-◌, ◌^◌, min, Bool, ◌||◌, not, ◌==◌, nat_lt, nat_le, if◌then◌else◌, ℤ}
use Rattle.std.specs.Prelude.{List, [], ◌∷◌, ◌++◌, length, Option, Some, None}
use Rattle.its_model.specs.model.Programs.{Program, Rule, rule_at, arity_of}
use Rattle.text_grammar.specs.text_core.Choices.{when}
use Rattle.text_grammar.specs.Grammars.{rules_of}
use Rattle.text_grammar.specs.Texts.{Text}
use Rattle.text_grammar.specs.ByteTexts.{ByteText, texts_of}
use Rattle.run_replay.specs.declared.kind.RunKind.{RunKind}
use Rattle.run_replay.specs.declared.kind.RunKind.TheVariants.{Syntax, NumberTooLarge, BadReference, ArityDiffers}
use Rattle.run_replay.specs.declared.kind.RunKind.TheVariants.{Limit}
use Rattle.run_replay.specs.declared.grammar.TheConstants.{LETTERS, RUN_GRAMMAR, ROUNDS}
use Rattle.run_replay.specs.Runs.{Run, step_limit}

-- the part of the run that has been read, and the number of the rule of its last line (0, that of the virtual entry,
-- before any step)
pub record State : Type 0 where
  pub run : Run
  pub rule : ℕ

-- The number of a kind of refusal.
abbrev pub number_of : RunKind → ℕ
number_of Syntax = 1
number_of NumberTooLarge = 2
number_of BadReference = 3
number_of ArityDiffers = 4
number_of Limit = 5

-- whether no rule has this number; a step can only name rules up to 2^32-1
abbrev pub is_no_rule : Program → ℕ → Bool
is_no_rule p n = (n == 0) || nat_lt (min (length p.rules) (2 ^ 32 - 1)) n

-- whether no step may follow this many
abbrev pub is_full : ℕ → Bool
is_full n = nat_le step_limit n

-- the number of a rule's free variables, or another number if there is no rule
abbrev pub free_or : ℕ → Option Rule → ℕ
free_or n None = n
free_or n (Some r) = r.free

-- the number of values that a line must have: one for each free variable of its rule, or one for each start place if
-- the line names no rule
abbrev pub wanted : Program → ℕ → ℕ
wanted p rule = free_or (arity_of p p.start) (rule_at p rule)

-- a line of values is that of the start values before any step, and else that of a step
abbrev pub with_line : List ℤ → State → State
with_line vs s =
    if s.rule == 0 then record { run = record { start = vs; steps = s.run.steps }; rule = s.rule }
    else record {
      run = record {
        start = s.run.start;
        steps = s.run.steps ++ record { rule = min s.rule (2 ^ 32 - 1); free = vs } ∷ [];
      };
      rule = s.rule;
    }

-- Run files as texts in bytes. A number has a fault if no rule has it, a line if it has a wrong number of values, and
-- an `s` if it begins one step too many. Signed numbers only occur in lines of values.
abbrev pub run_bytes : Program → ByteText State Run RunKind
run_bytes p = record {
  letters = LETTERS;
  rules = rules_of RUN_GRAMMAR;
  rounds = ROUNDS;
  begun = record { run = record { start = []; steps = [] }; rule = 0 };
  natural = λ n s. record s { rule = n };
  signed = λ z s. s;
  line = with_line;
  done = λ m s. s;
  fault_of_natural = λ s n. when (is_no_rule p n) BadReference;
  fault_of_signed = λ s z. Some Syntax;
  fault_of_line = λ s n. when (not (n == wanted p s.rule)) ArityDiffers;
  fault_of_byte = λ s b. if b == 115 then when (is_full (length s.run.steps)) Limit else None;
  tree = λ s. s.run;
  number = number_of;
  syntax = Syntax;
  too_large = NumberTooLarge;
}

-- the texts of runs of a program
abbrev pub runs_of : Program → Text ℕ Run RunKind
runs_of p = texts_of (run_bytes p)
