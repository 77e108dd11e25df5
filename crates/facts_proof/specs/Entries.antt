-- The statements of the entries of an outcome, and those that claims make if they are accepted.
use Rattle.std.specs.Prelude.{ℕ, List, [], ◌∷◌, Option, Some, None, Vec}
use Rattle.std.specs.List.{flat_map}
use Rattle.std.specs.declared.alloc.Global.{Global}
use Rattle.bound_expr.specs.Views.{bound_of}
use Rattle.bound_expr.specs.declared.bound.Bound.{Bound}
use Rattle.signed_bounds.specs.Inputs.{signed_of_bound}
use Rattle.outcome.specs.declared.entry.TimeEntry.{TimeEntry}
use Rattle.outcome.specs.declared.entry.TimeEntry.TheVariants as times
use Rattle.outcome.specs.declared.entry.CostEntry.{CostEntry}
use Rattle.outcome.specs.declared.entry.CostEntry.TheVariants as costs
use Rattle.outcome.specs.declared.entry.SizeEntry.{SizeEntry}
use Rattle.outcome.specs.declared.entry.SizeEntry.TheVariants as sizes
use Rattle.program_claims.specs.Claims.{Claim, ByOne, ByEach, OnTime, OnCost, OnTotal, OnAbove, OnBelow, OnSymbol}
use Rattle.program_claims.specs.Claims.{Stated, Time, Cost, Total, Above, Below, AtSymbol}
use Rattle.claim_types.specs.declared.claim.Claim as code
use Rattle.claim_types.specs.Views.{claims_of}
use Rattle.facts_proof.specs.Statements.{each_numbered}

-- what a claim states with a bound of its own, or on a symbol, if it is accepted
abbrev pub own_statements : Claim → List Stated
own_statements (OnTime t (ByOne n)) = []
own_statements (OnTime t (ByEach ns b)) = Time t b ∷ []
own_statements (OnCost t (ByOne n)) = []
own_statements (OnCost t (ByEach ns b)) = Cost t b ∷ []
own_statements (OnTotal (ByOne n)) = []
own_statements (OnTotal (ByEach ns b)) = Total b ∷ []
own_statements (OnAbove t i ns b) = Above t i b ∷ []
own_statements (OnBelow t i ns b) = Below t i b ∷ []
own_statements (OnSymbol s f) = AtSymbol s f ∷ []

-- the same of all claims, in order
abbrev pub claimed : List code.Claim → List Stated
claimed cs = flat_map own_statements (claims_of cs)

-- the statements of the entries of an outcome
abbrev pub time_entry : ℕ → TimeEntry → List Stated
time_entry t (times.Known s) = Time t (signed_of_bound (bound_of s.bound)) ∷ []
time_entry t (times.Gap n) = []
time_entry t (times.OutOfLimits x) = []
time_entry t (times.Large n) = []

abbrev pub cost_entry_of : ℕ → CostEntry → List Stated
cost_entry_of t (costs.Known s) = Cost t (signed_of_bound (bound_of s.bound)) ∷ []
cost_entry_of t (costs.UnboundedSide l) = []
cost_entry_of t (costs.OutOfLimits x) = []
cost_entry_of t (costs.Missing s) = []
cost_entry_of t (costs.Untimed n) = []
cost_entry_of t (costs.Large n) = []

abbrev pub cost_entry : ℕ → Option CostEntry → List Stated
cost_entry t None = []
cost_entry t (Some entry) = cost_entry_of t entry

abbrev pub total_entry : Option Bound → List Stated
total_entry None = []
total_entry (Some b) = Total (signed_of_bound (bound_of b)) ∷ []

abbrev pub size_entry : ℕ → ℕ → SizeEntry → List Stated
size_entry t i (sizes.Known s) =
    Above t i (signed_of_bound (bound_of s.bound)) ∷ Below t i (signed_of_bound (bound_of s.bound)) ∷ []
size_entry t i (sizes.UnboundedSide l) = []
size_entry t i (sizes.OutOfLimits x) = []
size_entry t i (sizes.Missing s) = []
size_entry t i (sizes.Nonlinear s) = []
size_entry t i (sizes.Untimed n) = []
size_entry t i (sizes.Large n) = []

abbrev pub place_entries : ℕ → Vec SizeEntry Global → List Stated
place_entries t entries = each_numbered (size_entry t) 1 entries.items
