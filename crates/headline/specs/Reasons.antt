-- The lines of a report that give reasons, as far as they have to be read beside its bounds.
use Rattle.std.specs.Prelude.{◌≡◌, ◌⊎◌, ℕ, Bool, not, ◌==◌, List, [], ◌∷◌, ◌++◌, map, codes, IsTrue}
use Rattle.std.specs.List.{list_all, AllByRecursion}
use Rattle.model.specs.Programs.{Program}
use Rattle.text_core.specs.Names.{IsName}
use Rattle.outcome.specs.Reports.{Report}
use Rattle.report_text.specs.Reports.{bounds_text, text_of_report}

-- the text of lines: each is followed by a line feed
abbrev pub text_of_lines : List (List ℕ) → List ℕ
text_of_lines [] = []
text_of_lines (line ∷ lines) = line ++ (codes "\n" ++ text_of_lines lines)

-- the line begins with these bytes
abbrev pub BeginsWith : List ℕ → List ℕ → Type 0
BeginsWith first line = (rest : List ℕ) × (line ≡ first ++ rest)

-- the byte isn't the line feed
abbrev pub is_within_line : ℕ → Bool
is_within_line b = not (b == 10)

-- a line that gives a reason begins with `why `; or, where it continues the line above it, with two blanks. Neither is
-- the beginning of a line with a bound
pub record IsReasonLine (line : List ℕ) : Type 0 where
  pub begins : BeginsWith (codes "why ") line ⊎ BeginsWith (codes "  ") line
  pub one_line : IsTrue (list_all is_within_line line)

-- the text consists of lines that give reasons
pub record GivesReasons (text : List ℕ) : Type 0 where
  pub lines : List (List ℕ)
  pub is_text : text ≡ text_of_lines lines
  pub each : AllByRecursion IsReasonLine lines

-- the text of a report on a program whose symbols have names is that of its bounds, and then one that gives reasons
pub record EndsInReasons (p : Program) (r : Report) : Type 0 where
  pub reasons : List ℕ
  pub are_reasons : GivesReasons reasons
  pub whole : text_of_report p r ≡ bounds_text p.start_names r ++ reasons

pub record ReportsEndInReasons : Type 0 where
  pub each : (p : Program) (r : Report) → AllByRecursion IsName (map (λ s. s.name) p.symbols) → EndsInReasons p r
