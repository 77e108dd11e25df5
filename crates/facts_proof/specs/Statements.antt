-- The statements that say what a report does.
use Rattle.std.specs.Prelude.{ℕ, suc, List, [], ◌∷◌, ◌++◌, Option, Some, None}
use Rattle.model.specs.Bounds.{Bound}
use Rattle.signed_bounds.specs.Inputs.{signed_of_bound}
use Rattle.outcome.specs.Reports.{Timed, Untimed, Sized, Unsized, RuleCost, Costed, Uncosted, Report}
use Rattle.outcome.specs.Reports as entries
use Rattle.program_claims.specs.Claims.{Stated, Time, Cost, Total, Above, Below}

-- what a function gives for each element of a list together with its number, where the first has number k, in order
abbrev pub each_numbered : {A B : Type 0} → (ℕ → A → List B) → ℕ → List A → List B
each_numbered f k [] = []
each_numbered f k (x ∷ xs) = f k x ++ each_numbered f (suc k) xs

-- the time of a rule, where it has one
abbrev pub time_statements : ℕ → entries.Time → List Stated
time_statements t (Timed b) = Time t (signed_of_bound b) ∷ []
time_statements t (Untimed why) = []

-- the bound on what the steps of a rule cost, where it has one
abbrev pub cost_statements : ℕ → Option RuleCost → List Stated
cost_statements t None = []
cost_statements t (Some (Costed b)) = Cost t (signed_of_bound b) ∷ []
cost_statements t (Some (Uncosted why)) = []

-- the total, where there is one
abbrev pub total_statements : Option Bound → List Stated
total_statements None = []
total_statements (Some b) = Total (signed_of_bound b) ∷ []

-- the size of a place after a rule, where it has one: it bounds the value from above, and the opposite of the value
abbrev pub size_statements : ℕ → ℕ → entries.Size → List Stated
size_statements t i (Sized b) = Above t i (signed_of_bound b) ∷ Below t i (signed_of_bound b) ∷ []
size_statements t i (Unsized why) = []

abbrev pub place_statements : ℕ → List entries.Size → List Stated
place_statements t sizes = each_numbered (size_statements t) 1 sizes

-- the bounds of a report, as bounds over start values: its times, costs, total and sizes
abbrev pub bound_statements : Report → List Stated
bound_statements r =
    each_numbered time_statements 1 r.times
    ++ (each_numbered cost_statements 1 r.costs
    ++ (total_statements r.total ++ each_numbered place_statements 1 r.sizes))
