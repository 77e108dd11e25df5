-- Worked values of reading small run texts.
use Rattle.std.specs.Prelude.{◌≡◌, ◌≢◌, ◌≤◌, ◌-◌, ◌^◌, ℕ, pos, negsuc, Some, None, true, false, List, [], ◌∷◌}
use Rattle.std.specs.Prelude.{◌++◌, codes, length, map}
use Rattle.its_model.specs.model.Programs.{Program, Rule}
use Rattle.its_model.specs.model.Runs.{Step}
use Rattle.text_grammar.specs.text_core.Reading.{Answer, Parsed, Refused, answer}
use Rattle.text_grammar.specs.Texts.{reader}
use Rattle.text_grammar.specs.ByteTexts.{tokens}
use Rattle.run_replay.specs.declared.kind.RunKind.{RunKind}
use Rattle.run_replay.specs.declared.kind.RunKind.TheVariants.{Syntax, NumberTooLarge, BadReference, ArityDiffers}
use Rattle.run_replay.specs.declared.kind.RunKind.TheVariants.{Limit}
use Rattle.run_replay.specs.Runs.{Run}
use Rattle.run_replay.specs.Texts.{State, number_of, is_no_rule, run_bytes, runs_of, is_full}
use Rattle.run_replay.specs.Spelled.{text_of, IsShort}

-- a rule with this many free variables
abbrev pub rule_with : ℕ → Rule
rule_with free = record {
  source = 0;
  target = 0;
  left = 2;
  free = free;
  names = [];
  updates = [];
  guard = [];
  cost = None;
}

-- a program whose start symbol has two places, with three rules; the second one has a free variable and the third one
-- two
abbrev pub small_program : Program
small_program = record {
  symbols = record { name = []; arity = 2 } ∷ [];
  start = 0;
  start_names = [];
  rules = rule_with 0 ∷ rule_with 1 ∷ rule_with 2 ∷ [];
}

-- the answer for a text, and for a text of steps after the lines `koat-run 1` and `start 1 -2` (22 bytes)
abbrev pub answer_to : List ℕ → Answer Run RunKind
answer_to bytes = answer (reader (runs_of small_program)) (length bytes) (tokens bytes)

abbrev pub answer_behind : List ℕ → Answer Run RunKind
answer_behind bytes = answer_to (codes "koat-run 1\nstart 1 -2\n" ++ bytes)

-- a program with one rule whose start symbol has no places, and the answer for a text of it
abbrev pub placeless_program : Program
placeless_program = record {
  symbols = record { name = []; arity = 0 } ∷ [];
  start = 0;
  start_names = [];
  rules = record (rule_with 0) { left = 0 } ∷ [];
}

abbrev pub placeless_answer : List ℕ → Answer Run RunKind
placeless_answer bytes = answer (reader (runs_of placeless_program)) (length bytes) (tokens bytes)

-- the refusal of a kind at a position, and the run with these steps
abbrev pub refused : RunKind → ℕ → Answer Run RunKind
refused kind at = Refused (record { kind = kind; at = at })

abbrev pub runs : List Step → Answer Run RunKind
runs steps = Parsed (record { start = pos 1 ∷ negsuc 1 ∷ []; steps = steps })

-- a text, and the answer for it
pub record Row : Type 0 where
  pub text : List ℕ
  pub comes : Answer Run RunKind

abbrev pub row : List ℕ → Answer Run RunKind → Row
row text comes = record { text = text; comes = comes }

-- texts of steps, and the answers for them
abbrev pub rows : List Row
rows =
    -- no step, and two steps; free values are in order, and may be as small as -(2^63-1)
    row (codes "end\n") (runs [])
    ∷ row (codes "step 1\nstep 2 10\nend\n")
    (runs (record { rule = 1; free = [] } ∷ record { rule = 2; free = pos 10 ∷ [] } ∷ []))
    ∷ row (codes "step 3 4 -5\nend\n") (runs (record { rule = 3; free = pos 4 ∷ negsuc 4 ∷ [] } ∷ []))
    ∷ row (codes "step 2 -9223372036854775807\nend\n")
    (runs (record { rule = 2; free = negsuc 9223372036854775806 ∷ [] } ∷ []))
    -- there are no rules 0, 4 and 2^32 + 1; the first digit of `01` is refused, as no rule has the number 0; and the
    -- number of a rule has no `-`
    ∷ row (codes "step 0\n") (refused BadReference 27)
    ∷ row (codes "step 4\n") (refused BadReference 27)
    ∷ row (codes "step 4294967297\n") (refused BadReference 27)
    ∷ row (codes "step 01\n") (refused BadReference 27)
    ∷ row (codes "step -1\n") (refused Syntax 27)
    -- no blank, and two blanks; too few values and too many; a line feed with another byte before it
    ∷ row (codes "step1\n") (refused Syntax 26)
    ∷ row (codes "step 2  1\n") (refused Syntax 29)
    ∷ row (codes "step 2\n") (refused ArityDiffers 28)
    ∷ row (codes "step 1 5\n") (refused ArityDiffers 30)
    ∷ row (codes "step 1\r\n") (refused Syntax 28)
    -- values of 2^63 and less than -(2^63-1), also as a surplus value; a leading zero, a `-` before 0, and `-` twice
    ∷ row (codes "step 2 9223372036854775808\n") (refused NumberTooLarge 29)
    ∷ row (codes "step 2 -9223372036854775808\n") (refused NumberTooLarge 29)
    ∷ row (codes "step 1 9223372036854775808\n") (refused NumberTooLarge 29)
    ∷ row (codes "step 2 -0\n") (refused Syntax 30)
    ∷ row (codes "step 2 01\n") (refused Syntax 30)
    ∷ row (codes "step 2 --1\n") (refused Syntax 30)
    -- if a rule doesn't exist and a later byte can't follow, the first fault counts
    ∷ row (codes "step 4\nstop\n") (refused BadReference 27)
    ∷ []

-- each row has the answer for its text
pub record RunsAreWorkedOut : Type 0 where
  pub worked : map (λ r. answer_behind r.text) rows ≡ map (λ r. r.comes) rows
  -- the empty text ends too early at 0; and a start value is missing at byte 18
  pub empty : answer_to [] ≡ refused Syntax 0
  pub start_too_few : answer_to (codes "koat-run 1\nstart 1\n") ≡ refused ArityDiffers 18
  -- the numbers of the kinds of refusals, in this order
  pub kinds : map number_of (Syntax ∷ NumberTooLarge ∷ BadReference ∷ ArityDiffers ∷ Limit ∷ [])
      ≡ 1 ∷ 2 ∷ 3 ∷ 4 ∷ 5 ∷ []
  -- of 2^32 rules a step can name rule 2^32-1, and not the last one
  pub held : (p : Program) → length p.rules ≡ 2 ^ 32 → is_no_rule p (2 ^ 32 - 1) ≡ false
  pub not_held : (p : Program) → length p.rules ≡ 2 ^ 32 → is_no_rule p (2 ^ 32) ≡ true
  -- a step after 1,000,000 is one too many, and a step after 999,999 isn't
  pub full : is_full 1000000 ≡ true
  pub room : is_full 999999 ≡ false
  -- an `s` that begins the line of a step is refused after 1,000,000 steps or more, and not after fewer; no other byte
  -- is refused by this limit
  pub limit : (s : State) → 1000000 ≤ length s.run.steps → (run_bytes small_program).fault_of_byte s 115 ≡ Some Limit
  pub within : (s : State) → length s.run.steps ≤ 999999 → (run_bytes small_program).fault_of_byte s 115 ≡ None
  pub other_byte : (s : State) (b : ℕ) → b ≢ 115 → (run_bytes small_program).fault_of_byte s b ≡ None
  -- for a program without start places, the second line is `start`: if a blank follows, a value has to follow it, and
  -- with a value the line has a wrong number of values
  pub no_places : placeless_answer (codes "koat-run 1\nstart\nstep 1\nend\n")
      ≡ Parsed (record { start = []; steps = record { rule = 1; free = [] } ∷ [] })
  pub blank_alone : placeless_answer (codes "koat-run 1\nstart \nend\n") ≡ refused Syntax 17
  pub surplus_start : placeless_answer (codes "koat-run 1\nstart 1\nend\n") ≡ refused ArityDiffers 18
  -- the numbers of a run are short if they have 64 digits each; a start value, the number of a rule, or a value of a
  -- step with 65 digits isn't short
  pub short : IsShort (record {
    start = pos (10 ^ 64 - 1) ∷ [];
    steps = record { rule = 10 ^ 64 - 1; free = negsuc (10 ^ 64 - 2) ∷ [] } ∷ [];
  })
  pub long_start : ¬ IsShort (record { start = pos 1 ∷ pos (10 ^ 64) ∷ []; steps = [] })
  pub long_rule : ¬ IsShort (record {
    start = [];
    steps = record { rule = 1; free = [] } ∷ record { rule = 10 ^ 64; free = [] } ∷ [];
  })
  pub long_value : ¬ IsShort (record {
    start = [];
    steps = record { rule = 1; free = pos 1 ∷ negsuc (10 ^ 64 - 1) ∷ [] } ∷ [];
  })
  -- the text of a run
  pub spelled : text_of (record {
    start = pos 1 ∷ negsuc 1 ∷ [];
    steps = record { rule = 1; free = [] } ∷ record { rule = 3; free = pos 10 ∷ negsuc 0 ∷ [] } ∷ [];
  }) ≡ codes "koat-run 1\nstart 1 -2\nstep 1\nstep 3 10 -1\nend\n"
