-- A report on a program in which every rule has a time, and every rule with a cost a bound on it, has a total.
use Rattle.std.proofs.Common.{◌≡◌, true, List, [], ◌∷◌, Option, Some, None, is_some, IsSome, refl}
use Rattle.std.proofs.lemmas.Bool.{and_parts, false≢true}
use Rattle.std.specs.List.{list_all}
use Rattle.model.specs.Programs.{Program}
use Rattle.outcome.specs.Holding.{IsReportOn}
use Rattle.outcome.specs.Reports.{Time, Timed, Untimed, RuleCost, Costed, Uncosted, Report}
use Rattle.outcome.specs.Reports.{is_timed, is_costed, is_bounded, spendings}

-- what each rule spends has a bound
all_spent : (times : List Time) (costs : List (Option RuleCost)) → list_all is_timed times ≡ true
    → list_all is_costed costs ≡ true → list_all is_some (spendings times costs) ≡ true
all_spent [] costs timed costed = refl
all_spent (t ∷ times) [] timed costed = refl
all_spent (Timed b ∷ times) (None ∷ costs) timed costed = all_spent times costs timed costed
all_spent (Timed b ∷ times) (Some (Costed c) ∷ costs) timed costed = all_spent times costs timed costed
all_spent (Timed b ∷ times) (Some (Uncosted why) ∷ costs) timed costed = absurd (false≢true costed)
all_spent (Untimed why ∷ times) (c ∷ costs) timed costed = absurd (false≢true timed)

-- a report on a program that is bounded has a total
pub total_where_bounded : (p : Program) (r : Report) → IsReportOn p r → is_bounded r ≡ true → IsSome r.total
total_where_bounded p r on bounded =
    let parts = and_parts (list_all is_timed r.times) (list_all is_costed r.costs) bounded in
    on.total.0 (all_spent r.times r.costs parts.0 parts.1)
