-- An outcome as a report, plain data.
use Rattle.std.specs.Prelude.{ℕ, zero, suc, Bool, true, false, List, [], ◌∷◌, map}
use Rattle.std.specs.Option.{option_map}
use Rattle.bound_expr.specs.Views.{bound_of}
use Rattle.cert_types.specs.cert_rules.Gaps.{Gap}
use Rattle.cert_types.specs.Views.{result_variable_of}
use Rattle.cert_types.specs.AnswerViews.{scaled_of, gap_of}
use Rattle.cert_types.specs.declared.gap.Gap as code
use Rattle.outcome.specs.declared.unbounded_side.UnboundedSide.{UnboundedSide}
use Rattle.outcome.specs.declared.entry.TimeEntry.{TimeEntry}
use Rattle.outcome.specs.declared.entry.TimeEntry.TheVariants as times
use Rattle.outcome.specs.declared.entry.CostEntry.{CostEntry}
use Rattle.outcome.specs.declared.entry.CostEntry.TheVariants as costs
use Rattle.outcome.specs.declared.entry.SizeEntry.{SizeEntry}
use Rattle.outcome.specs.declared.entry.SizeEntry.TheVariants as sizes
use Rattle.outcome.specs.declared.outcome_of.Outcome.{Outcome}
use Rattle.outcome.specs.Reports.{NoFunction, TimeHitLimit, TimeLarge}
use Rattle.outcome.specs.Reports.{Time, Timed, Untimed}
use Rattle.cert_types.specs.cert_rules.AcceptsSizes.{Side, Up, Low}
use Rattle.outcome.specs.Reports.{NoSize, SizeUnbounded, SizeHitLimit, SizeMissing, SizeNonlinear, SizeUntimed, SizeLarge}
use Rattle.outcome.specs.Reports.{Size, Sized, Unsized, RuleCost, Costed, Uncosted, Report}

-- the gap without points, over no rule
abbrev pub no_gap : Gap
no_gap = record { rule = 0; set = []; shut = []; moves = []; floor = record { parts = []; den = 0 }; kept = [] }

-- the gap of this number, from 1
abbrev pub numbered_gap : List code.Gap → ℕ → Gap
numbered_gap gaps zero = no_gap
numbered_gap [] (suc n) = no_gap
numbered_gap (g ∷ gaps) (suc zero) = gap_of g
numbered_gap (g ∷ gaps) (suc (suc n)) = numbered_gap gaps (suc n)

-- a time, or why there is none, as plain data
abbrev pub time_of : List code.Gap → TimeEntry → Time
time_of gaps (times.Known s) = Timed (bound_of s.bound)
time_of gaps (times.Gap n) = Untimed (NoFunction (numbered_gap gaps n))
time_of gaps (times.OutOfLimits t) = Untimed (TimeHitLimit t)
time_of gaps (times.Large n) = Untimed (TimeLarge n)

-- the side that a flag names
abbrev pub side_by : Bool → Side
side_by true = Up
side_by false = Low

-- the reason that an unbounded side gives for a missing size of a place, or for a missing bound on a cost
abbrev pub unbounded_of : UnboundedSide → NoSize
unbounded_of l = SizeUnbounded (side_by l.up) l.ray.items (scaled_of l.kept)

-- a size, or why there is none, as plain data
abbrev pub size_of : SizeEntry → Size
size_of (sizes.Known s) = Sized (bound_of s.bound)
size_of (sizes.UnboundedSide l) = Unsized (unbounded_of l)
size_of (sizes.OutOfLimits t) = Unsized (SizeHitLimit t)
size_of (sizes.Missing s) = Unsized (SizeMissing (result_variable_of s))
size_of (sizes.Nonlinear s) = Unsized (SizeNonlinear (result_variable_of s))
size_of (sizes.Untimed t) = Unsized (SizeUntimed t)
size_of (sizes.Large n) = Unsized (SizeLarge n)

-- the bound of a cost, or why there is none, as plain data
abbrev pub cost_of : CostEntry → RuleCost
cost_of (costs.Known s) = Costed (bound_of s.bound)
cost_of (costs.UnboundedSide l) = Uncosted (unbounded_of l)
cost_of (costs.OutOfLimits t) = Uncosted (SizeHitLimit t)
cost_of (costs.Missing s) = Uncosted (SizeMissing (result_variable_of s))
cost_of (costs.Untimed t) = Uncosted (SizeUntimed t)
cost_of (costs.Large n) = Uncosted (SizeLarge n)

-- the report of an outcome
abbrev pub report_of : Outcome → Report
report_of o = record {
  times = map (time_of o.gaps.items) o.times.items;
  costs = map (option_map cost_of) o.costs.items;
  total = option_map bound_of o.total;
  sizes = map (λ places. map size_of places.items) o.sizes.items;
}
