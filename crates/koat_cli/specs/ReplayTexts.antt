-- The tally of a run beside the bounds of a report, as text.
use Rattle.std.specs.Prelude.{ℕ, suc, nat_lt, cond, List, [], ◌∷◌, ◌++◌, codes, decimal, Option, Some, None}
use Rattle.model.specs.Bounds.{Bound}
use Rattle.bound_expr.specs.Capped.{capped_val}
use Rattle.bound_expr.specs.Limits.{cap}
use Rattle.outcome.specs.Reports.{Time, Timed, Untimed, RuleCost, Costed, Uncosted, Size, Sized, Unsized, Report}
use Rattle.report_text.specs.Pieces.{place_text}
use Rattle.run_replay.specs.Replays.{Sums}
use Rattle.koat_cli.specs.Figures.{number_end}

-- a value up to 2^127, which is also the text of every greater one
abbrev pub value_text : ℕ → List ℕ
value_text n = cond (nat_lt n cap) (decimal n) (codes "2^127 or more")

-- the value of a bound at these inputs, if there is one
abbrev pub bound_value : List ℕ → Option Bound → List ℕ
bound_value at None = codes "unknown"
bound_value at (Some b) = value_text (capped_val b at)

-- the value of a time, of a cost, and of a size
abbrev pub time_value : List ℕ → Time → List ℕ
time_value at (Timed b) = bound_value at (Some b)
time_value at (Untimed why) = bound_value at None

abbrev pub cost_value : List ℕ → RuleCost → List ℕ
cost_value at (Costed b) = bound_value at (Some b)
cost_value at (Uncosted why) = bound_value at None

abbrev pub size_value : List ℕ → Size → List ℕ
size_value at (Sized b) = bound_value at (Some b)
size_value at (Unsized why) = bound_value at None

-- a number beside a value, at the end of a line; what steps cost together is itself printed up to 2^127
abbrev pub beside_end : ℕ → List ℕ → List ℕ
beside_end n value = decimal n ++ (codes " of " ++ (value ++ codes "\n"))

abbrev pub spent_end : ℕ → List ℕ → List ℕ
spent_end n value = value_text n ++ (codes " of " ++ (value ++ codes "\n"))

-- how many steps the run has
abbrev pub steps_line : ℕ → List ℕ
steps_line n = codes "steps " ++ number_end n

-- how often a rule occurs, beside the value of its time
abbrev pub count_line : ℕ → ℕ → List ℕ → List ℕ
count_line rule n value = codes "time " ++ (decimal rule ++ (codes ": " ++ beside_end n value))

-- what the steps by a rule cost together, beside the value of the bound on it; a rule without a cost has no such line
abbrev pub spent_line : List ℕ → ℕ → ℕ → Option RuleCost → List ℕ
spent_line at rule n None = []
spent_line at rule n (Some c) = codes "cost " ++ (decimal rule ++ (codes ": " ++ spent_end n (cost_value at c)))

-- what all steps cost together, beside the value of the total
abbrev pub total_beside : ℕ → List ℕ → List ℕ
total_beside n value = codes "total: " ++ spent_end n value

-- the greatest absolute value at a place after a rule, beside the value of its size
abbrev pub greatest_line : ℕ → ℕ → ℕ → List ℕ → List ℕ
greatest_line rule place n value =
    codes "size " ++ (place_text rule place ++ (codes ": " ++ beside_end n value))

-- the lines of two lists beside each other, by their numbers, counted up from the first one's, as far as both go
abbrev pub lines_beside : {X Y : Type 0} → (ℕ → X → Y → List ℕ) → ℕ → List X → List Y → List ℕ
lines_beside line n [] ys = []
lines_beside line n (x ∷ xs) [] = []
lines_beside line n (x ∷ xs) (y ∷ ys) = line n x y ++ lines_beside line (suc n) xs ys

-- how often the rules occur
abbrev pub count_lines : List ℕ → List ℕ → List Time → List ℕ
count_lines at counts times = lines_beside (λ rule n t. count_line rule n (time_value at t)) 1 counts times

-- what the steps by each rule cost together
abbrev pub spent_lines : List ℕ → List ℕ → List (Option RuleCost) → List ℕ
spent_lines at spent costs = lines_beside (spent_line at) 1 spent costs

-- the greatest absolute values at the places after a rule, and those after all rules
abbrev pub greatest_lines : List ℕ → ℕ → List ℕ → List Size → List ℕ
greatest_lines at rule numbers sizes =
    lines_beside (λ place n s. greatest_line rule place n (size_value at s)) 1 numbers sizes

abbrev pub all_greatest_lines : List ℕ → List (List ℕ) → List (List Size) → List ℕ
all_greatest_lines at rows sizes = lines_beside (greatest_lines at) 1 rows sizes

-- the tally of a run that starts with these absolute values, beside the bounds of a report
abbrev pub text_of_replay : List ℕ → Sums → Report → List ℕ
text_of_replay at tally r =
    steps_line tally.steps
    ++ (count_lines at tally.counts r.times
    ++ (spent_lines at tally.costs r.costs
    ++ (total_beside tally.spent (bound_value at r.total) ++ all_greatest_lines at tally.greatest r.sizes)))
