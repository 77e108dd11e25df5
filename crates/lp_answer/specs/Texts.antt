-- The texts of answers to a linear program.
use Rattle.std.specs.Prelude.{ℕ, ◌+◌, ℤ, pos, if◌then◌else◌, List, [], ◌∷◌, ◌++◌, codes, Option, Some, None}
use Rattle.std.specs.Fmt.{decimal, signed_decimal}
use Rattle.std.specs.Ordering.{int_eq}
use Rattle.bland_end.specs.simplex_core.declared.problem.Solved.{Solved}
use Rattle.bland_end.specs.simplex_core.declared.problem.Solved.TheVariants.{Optimal, Infeasible}
use Rattle.bland_end.specs.declared.whole.WholeError.{WholeError}
use Rattle.bland_end.specs.declared.whole.WholeError.TheVariants.{Range, Wide, TooMany, Memory}
use Rattle.frac128.specs.declared.frac.Frac.{Frac}
use Rattle.lp_text.specs.text_core.Readers.{Fault}
use Rattle.lp_text.specs.declared.kind.LpKind.{LpKind}
use Rattle.lp_text.specs.declared.kind.LpKind.TheVariants.{Syntax, NumberTooLarge, Limit}

-- a fraction: its numerator and, unless the denominator is 1, a `/` and the denominator
abbrev pub fraction_text : ℤ → ℤ → List ℕ
fraction_text n d = signed_decimal n ++ (if int_eq d (pos 1) then [] else codes "/" ++ signed_decimal d)

-- the line of an unknown or of a row: its letter, its number from 0, and its value
abbrev pub value_line : List ℕ → ℕ → Frac → List ℕ
value_line letter i value =
    letter ++ (decimal i ++ (codes " = " ++ (fraction_text value.num value.den ++ codes "\n")))

-- the lines of values, numbered from i on
abbrev pub value_lines : List ℕ → ℕ → List Frac → List ℕ
value_lines letter i [] = []
value_lines letter i (value ∷ values) = value_line letter i value ++ value_lines letter (i + 1) values

-- the first line of an end: its word, and the number of pivots
abbrev pub end_line : List ℕ → ℕ → List ℕ
end_line word pivots = word ++ (codes " after " ++ (decimal pivots ++ codes " pivots\n"))

-- the end of the sequence of tableaux: a solution of least cost as `x`, column by column, or a dual as `y`, row by row
abbrev pub end_text : Solved → List ℕ
end_text (Optimal at basis pivots) = end_line (codes "optimal") pivots ++ value_lines (codes "x") 0 at.items
end_text (Infeasible dual pivots) = end_line (codes "infeasible") pivots ++ value_lines (codes "y") 0 dual.items

-- the text of why the end isn't reached, for a linear program from a file: the table of such a program isn't too wide,
-- and running out of memory has no text
abbrev pub stop_text : WholeError → Option (List ℕ)
stop_text (Range pivot) = Some (codes "range at pivot " ++ (decimal pivot ++ codes "\n"))
stop_text (Wide entries) = None
stop_text TooMany = Some (codes "too many bases\n")
stop_text Memory = None

-- the kind of a fault in the text of a linear program
abbrev pub kind_text : LpKind → List ℕ
kind_text Syntax = codes "Syntax"
kind_text NumberTooLarge = codes "NumberTooLarge"
kind_text Limit = codes "Limit"

-- a refusal: the byte, counted from 0, and the kind of the fault there
abbrev pub refusal_line : ℕ → List ℕ → List ℕ
refusal_line at kind = codes "program refused at " ++ (decimal at ++ (codes ": " ++ (kind ++ codes "\n")))

abbrev pub refusal_text : Fault LpKind → List ℕ
refusal_text x = refusal_line x.at (kind_text x.kind)
