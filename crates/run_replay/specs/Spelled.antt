-- The text of a run, and which runs of a program are within the limits.
use Rattle.std.specs.Prelude.{◌≡◌, ℕ, ◌^◌, ◌<◌, ◌≤◌, List, [], ◌∷◌, ◌++◌, codes, length, Some, ⊤}
use Rattle.std.specs.Fmt.{decimal}
use Rattle.its_model.specs.model.Programs.{Program, Rule, rule_at, arity_of}
use Rattle.its_model.specs.model.Runs.{Step}
use Rattle.text_grammar.specs.ByteTexts.{line_text, AreSmall, AreShort}
use Rattle.run_replay.specs.Runs.{Run, step_limit}

-- the text of steps: a line for each, with its rule and the values of its free variables, and the last line
abbrev pub steps_text : List Step → List ℕ
steps_text [] = codes "end" ++ 10 ∷ []
steps_text (s ∷ ss) = codes "step " ++ (decimal s.rule ++ (line_text s.free ++ steps_text ss))

-- the text of a run
abbrev pub text_of : Run → List ℕ
text_of r = codes "koat-run 1" ++ 10 ∷ (codes "start" ++ (line_text r.start ++ steps_text r.steps))

-- a step's number is that of a rule and fits its type, and the step has a value for each free variable of the rule
pub record IsStepOf (p : Program) (s : Step) : Type 0 where
  pub rule : Rule
  pub numbered : rule_at p s.rule ≡ Some rule
  pub held : s.rule < 2 ^ 32
  pub free : length s.free ≡ rule.free
  pub small : AreSmall s.free

-- each step is one of the program
abbrev pub AreStepsOf : Program → List Step → Type 0
AreStepsOf p [] = ⊤
AreStepsOf p (s ∷ ss) = IsStepOf p s × AreStepsOf p ss

-- a run is one of a program, within the limits: it has a value for each start place, steps by existing rules, values of
-- at most 2^63-1 in absolute value, and at most 1,000,000 steps
pub record IsWithin (p : Program) (r : Run) : Type 0 where
  pub start : length r.start ≡ arity_of p p.start
  pub values : AreSmall r.start
  pub steps : AreStepsOf p r.steps
  pub count : length r.steps ≤ step_limit

-- the bytes are the text of a run of a program within the limits
pub record IsTextWithin (p : Program) (bytes : List ℕ) (r : Run) : Type 0 where
  pub text : text_of r ≡ bytes
  pub within : IsWithin p r

-- in each step the number of the rule and the values have at most 64 digits each
abbrev pub AreShortSteps : List Step → Type 0
AreShortSteps [] = ⊤
AreShortSteps (s ∷ ss) = (s.rule < 10 ^ 64) × AreShort s.free × AreShortSteps ss

-- all numbers of a run have at most 64 digits
pub record IsShort (r : Run) : Type 0 where
  pub start : AreShort r.start
  pub steps : AreShortSteps r.steps

-- a text is that of at most one run, whatever the program and the limits, if no number has more than 64 digits; so
-- bytes are the text of at most one run within the limits
pub record OneRun : Type 0 where
  pub each : (a b : Run) → IsShort a → IsShort b → text_of a ≡ text_of b → a ≡ b
  pub within : (p : Program) (bytes : List ℕ) (a b : Run) → IsTextWithin p bytes a → IsTextWithin p bytes b → a ≡ b
