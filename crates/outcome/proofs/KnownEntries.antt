-- Entries lack a bound exactly where the report does.
use Rattle.std.proofs.Common.{◌≡◌, ◌&&◌, Bool, true, false, List, [], ◌∷◌, map, Option, Some, None, refl, sym, ◌∙◌, ap}
use Rattle.std.specs.List.{list_all}
use Rattle.std.specs.Option.{option_map}
use Rattle.cert_types.specs.declared.gap.Gap.{Gap}
use Rattle.outcome.specs.declared.entry.TimeEntry.{TimeEntry}
use Rattle.outcome.specs.declared.entry.TimeEntry.TheVariants as times
use Rattle.outcome.specs.declared.entry.CostEntry.{CostEntry}
use Rattle.outcome.specs.declared.entry.CostEntry.TheVariants as costs
use Rattle.outcome.specs.declared.outcome_of.Outcome.{Outcome}
use Rattle.outcome.specs.Reports.{is_timed, is_costed, is_bounded}
use Rattle.outcome.specs.Views.{time_of, cost_of, report_of}
use Rattle.outcome.specs.Entries.{is_known, is_known_cost}

-- an entry is known exactly where its time is one
pub known_is_timed : (gaps : List Gap) (e : TimeEntry) → is_known e ≡ is_timed (time_of gaps e)
known_is_timed gaps (times.Known s) = refl
known_is_timed gaps (times.Gap g) = refl
known_is_timed gaps (times.OutOfLimits t) = refl
known_is_timed gaps (times.Large nodes) = refl

-- all entries are known exactly if all times are
pub all_known : (gaps : List Gap) (es : List TimeEntry) → list_all is_known es ≡ list_all is_timed (map (time_of gaps) es)
all_known gaps [] = refl
all_known gaps (e ∷ es) = cc (known_is_timed gaps e, all_known gaps es)

-- an entry lacks no bound on a cost exactly where the rule's cost lacks none
pub known_is_costed : (e : Option CostEntry) → is_known_cost e ≡ is_costed (option_map cost_of e)
known_is_costed None = refl
known_is_costed (Some (costs.Known s)) = refl
known_is_costed (Some (costs.UnboundedSide l)) = refl
known_is_costed (Some (costs.OutOfLimits t)) = refl
known_is_costed (Some (costs.Missing s)) = refl
known_is_costed (Some (costs.Untimed t)) = refl
known_is_costed (Some (costs.Large nodes)) = refl

-- no entry lacks a bound on a cost exactly if no rule's cost lacks one
pub all_costs_known : (es : List (Option CostEntry))
    → list_all is_known_cost es ≡ list_all is_costed (map (option_map cost_of) es)
all_costs_known [] = refl
all_costs_known (e ∷ es) = cc (known_is_costed e, all_costs_known es)

-- an outcome is bounded exactly if its entries lack no bound
pub bounded_by_entries : (o : Outcome)
    → (list_all is_known o.times.items && list_all is_known_cost o.costs.items) ≡ is_bounded (report_of o)
bounded_by_entries o = λ i. all_known o.gaps.items o.times.items i && all_costs_known o.costs.items i

-- if all entries of times are known, those of costs decide whether the outcome is bounded; if one isn't known, it isn't
-- bounded
pub bounded_where_timed : (o : Outcome) (timed costed : Bool) → timed ≡ list_all is_known o.times.items
    → costed ≡ list_all is_known_cost o.costs.items → timed ≡ true → costed ≡ is_bounded (report_of o)
bounded_where_timed o timed costed et ec all =
    ec
    ∙ (ap (λ (b : Bool). b && list_all is_known_cost o.costs.items) (sym (sym et ∙ all)) ∙ bounded_by_entries o)

pub bounded_where_untimed : (o : Outcome) (timed : Bool) → timed ≡ list_all is_known o.times.items → timed ≡ false
    → timed ≡ is_bounded (report_of o)
bounded_where_untimed o timed et some =
    some
    ∙ (ap (λ (b : Bool). b && list_all is_known_cost o.costs.items) (sym (sym et ∙ some)) ∙ bounded_by_entries o)
