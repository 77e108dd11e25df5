-- Facts as text: for each symbol and each two places with kept facts the line of the strongest one; followed by a
-- report.
use Rattle.std.specs.Prelude.{ℕ, zero, suc, List, [], ◌∷◌, ◌++◌, Option, Some, None, ℤ, codes, decimal}
use Rattle.std.specs.Fmt.{signed_decimal}
use Rattle.std.specs.List.{range_with_len}
use Rattle.model.specs.Programs.{Name, Symbol, Program}
use Rattle.outcome.specs.Reports.{Report}
use Rattle.report_text.specs.Pieces.{numbered_lines}
use Rattle.report_text.specs.Reports.{text_of_report}
use Rattle.location_facts.specs.declared.fact.LocFact.{LocFact}
use Rattle.location_facts.specs.Rows.{facts_at}
use Rattle.location_facts.specs.Strengthening.{greatest_least}

-- the value at a place
abbrev pub value_text : ℕ → List ℕ
value_text place = codes "x" ++ decimal place

-- the difference of the values at two places; place 0 stands for the number 0
abbrev pub difference_text : ℕ → ℕ → List ℕ
difference_text zero zero = codes "0"
difference_text zero (suc j) = codes "-" ++ value_text (suc j)
difference_text (suc i) zero = value_text (suc i)
difference_text (suc i) (suc j) = value_text (suc i) ++ (codes " - " ++ value_text (suc j))

-- the line of a fact of a symbol with this name: the text before the difference, and the text after it
abbrev pub fact_head : Name → List ℕ
fact_head name = codes "fact " ++ (name ++ codes ": ")

abbrev pub fact_end : ℤ → List ℕ
fact_end least = codes " >= " ++ (signed_decimal least ++ codes "\n")

abbrev pub location_line : Name → ℕ → ℕ → ℤ → List ℕ
location_line name i j least = fact_head name ++ (difference_text i j ++ fact_end least)

-- the line of the strongest fact on two places, if there is one: that with the greatest least difference
abbrev pub line_of_strongest : Name → ℕ → ℕ → Option ℤ → List ℕ
line_of_strongest name i j None = []
line_of_strongest name i j (Some least) = location_line name i j least

-- the lines of each of these numbers, in order
abbrev pub lines_of_each : (ℕ → List ℕ) → List ℕ → List ℕ
lines_of_each lines [] = []
lines_of_each lines (n ∷ ns) = lines n ++ lines_of_each lines ns

-- the lines of a symbol's facts on the differences of this place and another, in the order of the other
abbrev pub lines_with_plus : Name → List LocFact → ℕ → List ℕ
lines_with_plus name facts i =
    lines_of_each (λ j. line_of_strongest name i j (greatest_least i j None facts)) (range_with_len 0 9)

-- the lines of a symbol's facts, in the order of their first places, and then of their second ones
abbrev pub lines_of_facts : Name → List LocFact → List ℕ
lines_of_facts name facts = lines_of_each (lines_with_plus name facts) (range_with_len 0 9)

-- the lines of the facts at the symbol with this number
abbrev pub symbol_lines : List LocFact → ℕ → Symbol → List ℕ
symbol_lines kept s symbol = lines_of_facts symbol.name (facts_at s kept)

-- the lines of facts at all symbols of a program, in order
abbrev pub location_lines : Program → List LocFact → List ℕ
location_lines p kept = numbered_lines (symbol_lines kept) 0 p.symbols

-- the text of an analysis with facts: the lines of the facts, and then the report
unfoldable pub text_with_facts : Program → List LocFact → Report → List ℕ
text_with_facts p kept r = location_lines p kept ++ text_of_report p r
