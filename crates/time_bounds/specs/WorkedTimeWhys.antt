-- What reasons of missing times say of small programs, worked out by hand: of two rules k(A) -> k(A), and of one alone.
use Rattle.std.specs.Prelude.{◌≡◌, ℕ, ◌≤◌, [], ◌∷◌, Some, None}
use Rattle.model.specs.Bounds.{Constant, Input}
use Rattle.model.specs.Programs.{Program}
use Rattle.outcome.specs.Reports.{NoFunction, TimeHitLimit, TimeLarge, Timed, Untimed, SizeMissing, Sized, Unsized}
use Rattle.outcome.specs.Reports.{Report}
use Rattle.its_model.specs.linear_forms.declared.limit_cause.LimitCause.{LimitCause}
use Rattle.its_model.specs.linear_forms.declared.limit_cause.LimitCause.TheVariants as causes
use Rattle.cert_types.specs.declared.answer.Question.TheVariants as asked
use Rattle.cert_types.specs.declared.answer.LimitHit.{LimitHit}
use Rattle.cert_types.specs.cert_rules.Gaps.{Gap}
use Rattle.cert_types.specs.cert_rules.WorkedGaps.{one, nowhere, gap_with}
use Rattle.cert_types.specs.cert_program.WorkedGaps.{first_place, looping_rule, looping, gap_alone}
use Rattle.bound_fixpoint.specs.Keys.{Bounds, key}
use Rattle.time_bounds.specs.SaidBounds.{bounds_said}
use Rattle.time_bounds.specs.TimeWhys.{IsSought, HasNoTime}
use Rattle.time_bounds.specs.Whys.{ReasonsAreTrue}
use Rattle.time_bounds.specs.WorkedReports.{staying_gap, staying_report, staying_said}

-- k(A) -> k(A), twice
abbrev pub twice : Program
twice = record {
  symbols = looping.symbols;
  start = 0;
  start_names = looping.start_names;
  rules = looping_rule ∷ looping_rule ∷ [];
}

-- a gap of the first rule over both, where the second doesn't move
abbrev pub pair_gap : Gap
pair_gap = gap_with 1 (1 ∷ 2 ∷ []) [] (one ∷ nowhere ∷ []) nowhere (one ∷ one ∷ [])

-- a report where the second rule has a time, and the argument after it a size
abbrev pub second_report : Report
second_report = record {
  times = Untimed (NoFunction staying_gap) ∷ Timed (Constant 1) ∷ [];
  costs = None ∷ None ∷ [];
  total = None;
  sizes = (Unsized (SizeMissing (key 2 1)) ∷ []) ∷ (Sized (Input 0) ∷ []) ∷ [];
}

-- a report where the second rule has a time, and the argument after it no size
abbrev pub unsized_report : Report
unsized_report = record {
  times = Untimed (NoFunction staying_gap) ∷ Timed (Constant 1) ∷ [];
  costs = None ∷ None ∷ [];
  total = None;
  sizes = (Sized (Input 0) ∷ []) ∷ (Unsized (SizeMissing (key 1 1)) ∷ []) ∷ [];
}

-- a report where neither rule has a time, and both places have sizes
abbrev pub both_report : Report
both_report = record {
  times = Untimed (NoFunction pair_gap) ∷ Untimed (NoFunction pair_gap) ∷ [];
  costs = None ∷ None ∷ [];
  total = None;
  sizes = (Sized (Input 0) ∷ []) ∷ (Sized (Input 0) ∷ []) ∷ [];
}

abbrev pub second_said : Bounds
second_said = bounds_said twice second_report

abbrev pub unsized_said : Bounds
unsized_said = bounds_said twice unsized_report

abbrev pub both_said : Bounds
both_said = bounds_said twice both_report

-- for each rule and place the report has its own bound
pub record EachHasItsOwn : Type 0 where
  pub first_time : second_said 1 0 ≡ None
  pub second_time : second_said 2 0 ≡ Some (Constant 1)
  pub first_size : second_said 1 1 ≡ None
  pub second_size : second_said 2 1 ≡ Some (Input 0)
  pub no_third : second_said 3 0 ≡ None

-- if the second rule has a time, the set of the first is the first alone, and else both. In the first case the second
-- rule is an entry of the set: if the place after it has no size, this place is shut, and else it isn't
pub record SetsAreSought : Type 0 where
  pub alone : IsSought twice second_said 1 (1 ∷ []) []
  pub not_both : ¬ (IsSought twice second_said 1 (1 ∷ 2 ∷ []) [])
  pub not_shut : ¬ (IsSought twice second_said 1 (1 ∷ []) (first_place ∷ []))
  pub shut : IsSought twice unsized_said 1 (1 ∷ []) (first_place ∷ [])
  pub not_open : ¬ (IsSought twice unsized_said 1 (1 ∷ []) [])
  pub both : IsSought twice both_said 1 (1 ∷ 2 ∷ []) []
  pub not_alone : ¬ (IsSought twice both_said 1 (1 ∷ []) [])

-- no function ranks the first rule, as the gap of its own set shows, and no other: the gap of another set or of other
-- shut places shows nothing of it, that of the first rule nothing of the second, and a gap that doesn't hold shows
-- nothing
pub record GapsSaySo : Type 0 where
  pub alone : HasNoTime twice 10 second_said 1 (NoFunction staying_gap)
  pub other_set : ¬ (HasNoTime twice 10 second_said 1 (NoFunction pair_gap))
  pub other_shut : ¬ (HasNoTime twice 10 unsized_said 1 (NoFunction staying_gap))
  pub both : HasNoTime twice 10 both_said 1 (NoFunction pair_gap)
  pub smaller_set : ¬ (HasNoTime twice 10 both_said 1 (NoFunction staying_gap))
  pub other_rule : ¬ (HasNoTime twice 10 both_said 2 (NoFunction pair_gap))
  pub not_balanced : ¬ (HasNoTime looping 10 staying_said 1 (NoFunction (gap_alone 1 one one one)))

-- the rank question of the rule passed this limit
abbrev pub own_limit_hit : LimitCause → LimitHit
own_limit_hit cause = record { question = asked.Rank 1; cause = cause }

-- with 10 pivots the limit of 9 isn't passed, and no table of 5 numbers is too wide; and no time is large that has 200
-- nodes or fewer
pub record LimitsSaySo : Type 0 where
  pub other_budget : ¬ (HasNoTime looping 10 staying_said 1 (TimeHitLimit (own_limit_hit (causes.Budget 9))))
  pub not_wide : ¬ (HasNoTime looping 10 staying_said 1 (TimeHitLimit (own_limit_hit (causes.Wide 5))))
  pub small : (p : Program) (pivots : ℕ) (b : Bounds) (t n : ℕ) → n ≤ 200 → ¬ (HasNoTime p pivots b t (TimeLarge n))

-- a report with another gap than the one that holds
abbrev pub wrong_report : Report
wrong_report = record {
  times = Untimed (NoFunction (gap_alone 1 one one one)) ∷ [];
  costs = None ∷ [];
  total = None;
  sizes = (Sized (Input 0) ∷ []) ∷ [];
}

-- all worked values of missing times; and the reasons in a whole report are true, and with another gap aren't
pub record MissingTimesAreWorkedOut : Type 0 where
  pub own : EachHasItsOwn
  pub sets : SetsAreSought
  pub gaps : GapsSaySo
  pub limits : LimitsSaySo
  pub whole : ReasonsAreTrue looping 10 staying_report
  pub wrong : ¬ (ReasonsAreTrue looping 10 wrong_report)
