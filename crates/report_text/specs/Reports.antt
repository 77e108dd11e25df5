-- The text of a report: the headline, a line for each time, a line for each cost, the total, a line for each size, and
-- then why each missing time, each missing cost and each missing size is missing.
use Rattle.std.specs.Prelude.{ℕ, cond, List, [], ◌++◌, Option, Some, None, codes, decimal}
use Rattle.model.specs.Programs.{Name, Symbol, Program}
use Rattle.model.specs.Bounds.{Bound}
use Rattle.bound_text.specs.Texts.{text_of}
use Rattle.outcome.specs.Reports.{Time, Timed, Untimed, RuleCost, Costed, Uncosted, Size, Sized, Unsized, Report}
use Rattle.outcome.specs.Reports.{is_bounded}
use Rattle.report_text.specs.Pieces.{place_text, numbered_lines}
use Rattle.report_text.specs.Reasons.{no_time_text, no_size_text}

-- the first line says whether every rule has a time, and every rule with a cost a bound on it
abbrev pub headline : Report → List ℕ
headline r = cond (is_bounded r) (codes "bounded\n") (codes "unknown\n")

-- the end of a line with a bound, and of one where there is none
abbrev pub bound_end : List Name → Bound → List ℕ
bound_end names b = text_of names b ++ codes "\n"

abbrev pub none_end : List ℕ
none_end = codes "unknown\n"

-- the line of a rule
abbrev pub time_end : List Name → Time → List ℕ
time_end names (Timed b) = bound_end names b
time_end names (Untimed w) = none_end

abbrev pub time_line : List Name → ℕ → Time → List ℕ
time_line names rule t = codes "time " ++ (decimal rule ++ (codes ": " ++ time_end names t))

-- the line of what a rule costs; a rule without a cost has no such line
abbrev pub cost_end : List Name → RuleCost → List ℕ
cost_end names (Costed b) = bound_end names b
cost_end names (Uncosted w) = none_end

abbrev pub cost_line : List Name → ℕ → Option RuleCost → List ℕ
cost_line names rule None = []
cost_line names rule (Some c) = codes "cost " ++ (decimal rule ++ (codes ": " ++ cost_end names c))

-- the line of the total
abbrev pub total_end : List Name → Option Bound → List ℕ
total_end names (Some b) = bound_end names b
total_end names None = none_end

abbrev pub total_line : List Name → Option Bound → List ℕ
total_line names total = codes "total: " ++ total_end names total

-- the line of a place, and those of a rule's places
abbrev pub size_end : List Name → Size → List ℕ
size_end names (Sized b) = bound_end names b
size_end names (Unsized w) = none_end

abbrev pub size_line : List Name → ℕ → ℕ → Size → List ℕ
size_line names rule place s = codes "size " ++ (place_text rule place ++ (codes ": " ++ size_end names s))

abbrev pub size_lines : List Name → ℕ → List Size → List ℕ
size_lines names rule sizes = numbered_lines (size_line names rule) 1 sizes

-- why the time of a rule is missing, if it is
abbrev pub why_time : List Symbol → ℕ → Time → List ℕ
why_time symbols rule (Timed b) = []
why_time symbols rule (Untimed w) = codes "why time " ++ (decimal rule ++ (codes ": " ++ no_time_text symbols w))

-- why the bound on a rule's cost is missing, if it has a cost and no bound on it
abbrev pub why_cost : ℕ → Option RuleCost → List ℕ
why_cost rule None = []
why_cost rule (Some (Costed b)) = []
why_cost rule (Some (Uncosted w)) = codes "why cost " ++ (decimal rule ++ (codes ": " ++ no_size_text w))

-- why the size of a place is missing, if it is; and the same for all places of a rule
abbrev pub why_size : ℕ → ℕ → Size → List ℕ
why_size rule place (Sized b) = []
why_size rule place (Unsized w) = codes "why size " ++ (place_text rule place ++ (codes ": " ++ no_size_text w))

abbrev pub why_sizes : ℕ → List Size → List ℕ
why_sizes rule sizes = numbered_lines (why_size rule) 1 sizes

-- the headline and the lines of the bounds
abbrev pub bounds_text : List Name → Report → List ℕ
bounds_text names r =
    headline r
    ++ (numbered_lines (time_line names) 1 r.times ++ (numbered_lines (cost_line names) 1 r.costs
    ++ (total_line names r.total ++ numbered_lines (size_lines names) 1 r.sizes)))

-- why bounds are missing
abbrev pub reasons_text : List Symbol → Report → List ℕ
reasons_text symbols r =
    numbered_lines (why_time symbols) 1 r.times
    ++ (numbered_lines why_cost 1 r.costs ++ numbered_lines why_sizes 1 r.sizes)

-- the whole text, with the names of a program
unfoldable pub text_of_report : Program → Report → List ℕ
text_of_report p r = bounds_text p.start_names r ++ reasons_text p.symbols r
