-- The figures of a report as text.
use Rattle.std.specs.Prelude.{ℕ, Bool, true, false, List, ◌++◌, length, sum_by, count_by, codes, decimal}
use Rattle.model.specs.Programs.{Program}
use Rattle.outcome.specs.Reports.{Size, Sized, Unsized, Report, is_timed}
use Rattle.report_text.specs.Reports.{total_line}

-- whether a place has a size
abbrev pub is_sized : Size → Bool
is_sized (Sized b) = true
is_sized (Unsized w) = false

-- the end of a line: a number, or a part of a whole, as in `2 of 3`
abbrev pub number_end : ℕ → List ℕ
number_end n = decimal n ++ codes "\n"

abbrev pub part_end : ℕ → ℕ → List ℕ
part_end part whole = decimal part ++ (codes " of " ++ (decimal whole ++ codes "\n"))

-- the lines of the figures: the number of rules, of rules with a time, of places with a size, and of lemmas
abbrev pub rules_line : Program → List ℕ
rules_line p = codes "rules " ++ number_end (length p.rules)

abbrev pub times_line : Report → List ℕ
times_line r = codes "times " ++ part_end (count_by is_timed r.times) (length r.times)

abbrev pub sizes_line : Report → List ℕ
sizes_line r = codes "sizes "
    ++ part_end (sum_by (λ row. count_by is_sized row) r.sizes) (sum_by (λ row. length row) r.sizes)

abbrev pub lemmas_line : ℕ → List ℕ
lemmas_line lemmas = codes "lemmas " ++ number_end lemmas

-- the figures of a report on a program, except for the lemmas
abbrev pub head_of_figures : Program → Report → List ℕ
head_of_figures p r = rules_line p ++ (times_line r ++ (sizes_line r ++ total_line p.start_names r.total))

-- the figures of a report on a program with this many lemmas
abbrev pub text_of_figures : Program → Report → ℕ → List ℕ
text_of_figures p r lemmas = head_of_figures p r ++ lemmas_line lemmas
