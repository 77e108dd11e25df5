-- What reasons of missing times say of small programs.
use Rattle.std.proofs.Common.{◌≡◌, inl, inr, ℕ, zero, suc, ◌<◌, ◌≤◌, List, [], ◌∷◌, Some, refl, subst, arith}
use Rattle.model.proofs.Cases.{none_some}
use Rattle.its_model.specs.Valid.{IsValid, IsValidRule}
use Rattle.its_model.specs.linear_forms.declared.limit_cause.LimitCause.{LimitCause}
use Rattle.its_model.specs.linear_forms.declared.limit_cause.LimitCause.TheVariants as causes
use Rattle.guard_prep.specs.Tightening.{divisor_of}
use Rattle.outcome.specs.Holding.{numbered_entry, place_entry}
use Rattle.outcome.specs.Reports.{NoTime, NoFunction, Untimed, NoSize, Unsized, Uncosted}
use Rattle.cert_types.specs.cert_rules.AcceptsRank.{rank_time}
use Rattle.cert_types.specs.cert_rules.GapChecks.{GapHolds, balance}
use Rattle.cert_types.specs.cert_rules.WorkedGaps.{one}
use Rattle.cert_types.proofs.cert_rules.GapsInLine.{tested-holds, fault-refutes}
use Rattle.cert_types.specs.cert_program.RankedSets.{forms_at}
use Rattle.cert_types.specs.cert_program.Setting.{setting_of}
use Rattle.cert_types.specs.cert_program.WorkedGaps.{looping_rule, looping, gap_alone}
use Rattle.cert_types.proofs.cert_program.RankedSets.{gap-excludes_all}
use Rattle.cert_types.proofs.cert_program.WorkedGaps.{gaps_of_programs}
use Rattle.bound_fixpoint.specs.Keys.{over}
use Rattle.bound_fixpoint.proofs.Cases.{either}
use Rattle.time_bounds.specs.CostWhys.{HasNoCost}
use Rattle.time_bounds.specs.SizeWhys.{HasNoSize}
use Rattle.time_bounds.specs.TimeWhys.{FirstHitsLimitSo, RankHitsLimitSo, HasNoTime}
use Rattle.time_bounds.specs.WorkedReports.{staying_gap, staying_report, staying_said}
use Rattle.time_bounds.specs.WorkedTimeWhys.{twice, pair_gap, EachHasItsOwn, GapsSaySo, own_limit_hit, LimitsSaySo}
use Rattle.time_bounds.specs.WorkedTimeWhys.{MissingTimesAreWorkedOut}
use Rattle.time_bounds.proofs.LargeNodes.{large_many}
use Rattle.time_bounds.proofs.SoughtSets.{sets}
use Rattle.time_bounds.proofs.StayingRule.{staying_so}

own : EachHasItsOwn
own = record { first_time = refl; second_time = refl; first_size = refl; second_size = refl; no_third = refl }

-- the gaps over both rules and over the first one alone hold
pair_holds : GapHolds twice (forms_at twice) pair_gap
unfolding divisor_of
pair_holds = tested-holds _ _ _ refl

alone_holds : GapHolds twice (forms_at twice) staying_gap
unfolding divisor_of
alone_holds = tested-holds _ _ _ refl

-- a floor with a denominator doesn't balance the constant
unbalanced : GapHolds looping (forms_at looping) (gap_alone 1 one one one) → ⊥
unfolding divisor_of
unbalanced = fault-refutes looping (forms_at looping) (gap_alone 1 one one one) _ refl

-- the program is valid, as the one with one of its rules is
valid : IsValid twice
valid = record {
  symbols = gaps_of_programs.valid.symbols;
  distinct = gaps_of_programs.valid.distinct;
  few_rules = omega arith;
  rules = (first, (first, tt));
  start = omega arith;
  start_is_source = refl;
  start_places = refl;
  start_names = gaps_of_programs.valid.start_names;
  start_distinct = gaps_of_programs.valid.start_distinct;
}
  where
    first : IsValidRule twice looping_rule
    first = record {
      source = omega arith;
      target = omega arith;
      left = refl;
      places = refl;
      named = refl;
      names = ((refl, refl), tt);
      distinct = (refl, tt);
      few_variables = omega arith;
      few_atoms = omega arith;
      updates = (record { variables = omega arith; expands = refl }, tt);
      guard = tt;
      cost = tt;
    }

gaps : GapsSaySo
gaps = record {
  alone = record { rule = refl; sought = sets.alone; none = gap-excludes_all twice valid staying_gap alone_holds; shown = alone_holds };
  other_set = λ h. sets.not_both h.sought;
  other_shut = λ h. sets.not_open h.sought;
  both = record { rule = refl; sought = sets.both; none = gap-excludes_all twice valid pair_gap pair_holds; shown = pair_holds };
  smaller_set = λ h. sets.not_alone h.sought;
  other_rule = λ h. let e : ◌≡◌ {A = ℕ} 1 2 = h.rule in omega (arith, e);
  not_balanced = λ h. unbalanced h.shown;
}

-- the limit hit of a rank question isn't one of a rule's feasibility question
never_first : (cause : LimitCause) (ts : List ℕ) → FirstHitsLimitSo looping 10 ts (own_limit_hit cause) → ⊥
never_first cause [] h = h
never_first cause (t ∷ ts) (inl h) = let e = h.hits_limit.0 in (let none : ⊥ = cc in none)
never_first cause (t ∷ ts) (inr h) = never_first cause ts h.1

other_budget : RankHitsLimitSo looping 10 staying_said 1 (own_limit_hit (causes.Budget 9)) → ⊥
other_budget h =
    either h.hits_limit (λ own. let e : ◌≡◌ {A = ℕ} 9 10 = own.hits_limit.1 in omega (arith, e))
    (λ points. never_first (causes.Budget 9) h.set points.first)

not_wide : RankHitsLimitSo looping 10 staying_said 1 (own_limit_hit (causes.Wide 5)) → ⊥
not_wide h =
    either h.hits_limit (λ own. wide _ own.hits_limit.0 own.hits_limit.1) (λ points. never_first (causes.Wide 5) h.set points.first)
  where
    wide : (n : ℕ) → 40000000000 < n → 5 ≡ n → ⊥
    wide n l e = omega (arith, l, e)

limits : LimitsSaySo
limits = record {
  other_budget = other_budget;
  not_wide = not_wide;
  small = λ p pivots b t n few h. few_nodes n _ few h.nodes
      (large_many (setting_of p).rewrite (rank_time (setting_of p) h.node (over b)) h.large);
}
  where
    few_nodes : (n k : ℕ) → n ≤ 200 → n ≡ k → 200 < k → ⊥
    few_nodes n k few e l = omega (arith, few, e, l)

-- the whole report of the rule that stays
whole_times : (t : ℕ) (why : NoTime) → numbered_entry staying_report.times t ≡ Some (Untimed why)
    → HasNoTime looping 10 staying_said t why
whole_times zero why e = absurd (none_some (Untimed why) e)
whole_times (suc zero) why e =
    let same : NoFunction staying_gap ≡ why = cc in
    subst (λ (w : NoTime). HasNoTime looping 10 staying_said 1 w) same staying_so
whole_times (suc (suc k)) why e = absurd (none_some (Untimed why) e)

whole_sizes : (t i : ℕ) (why : NoSize) → place_entry (numbered_entry staying_report.sizes t) i ≡ Some (Unsized why)
    → HasNoSize looping 10 staying_said t i why
whole_sizes zero i why e = absurd (none_some (Unsized why) e)
whole_sizes (suc zero) zero why e = absurd (none_some (Unsized why) e)
whole_sizes (suc zero) (suc zero) why e = absurd (let none : ⊥ = cc in none)
whole_sizes (suc zero) (suc (suc j)) why e = absurd (none_some (Unsized why) e)
whole_sizes (suc (suc k)) i why e = absurd (none_some (Unsized why) e)

whole_costs : (t : ℕ) (why : NoSize) → numbered_entry staying_report.costs t ≡ Some (Some (Uncosted why))
    → HasNoCost looping 10 staying_said t why
whole_costs zero why e = absurd (none_some (Some (Uncosted why)) e)
whole_costs (suc zero) why e = absurd (let none : ⊥ = cc in none)
whole_costs (suc (suc k)) why e = absurd (none_some (Some (Uncosted why)) e)

pub missing_times : MissingTimesAreWorkedOut
missing_times = record {
  own = own;
  sets = sets;
  gaps = gaps;
  limits = limits;
  whole = record { times = whole_times; costs = whole_costs; sizes = whole_sizes };
  wrong = λ h. unbalanced (h.times 1 (NoFunction (gap_alone 1 one one one)) refl).shown;
}
