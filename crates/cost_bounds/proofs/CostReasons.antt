-- Each reason why a cost isn't bounded is true of the program.
use Rattle.std.proofs.Common.{◌≡◌, ◌⊎◌, inl, inr, ℕ, suc, ◌-◌, ◌≤◌, ◌==◌, Bool, true, false, List, [], ◌∷◌, filter}
use Rattle.std.proofs.Common.{length, Option}
use Rattle.std.proofs.Common.{Some, None, refl, sym, ap, subst, arith}
use Rattle.std.specs.List.{AllByRecursion, range_with_len}
use Rattle.std.specs.Prelude.{ℤ}
use Rattle.std.proofs.lemmas.Bool.{or_left, or_right}
use Rattle.model.specs.Bounds.{Bound}
use Rattle.model.specs.Costs.{HasCost, cost_rule}
use Rattle.model.specs.Entries.{is_in}
use Rattle.model.specs.Paths.{pre}
use Rattle.model.specs.Programs.{Program}
use Rattle.model.proofs.Cases.{none_some, some_same}
use Rattle.model.proofs.Membership.{filter-in, same_number}
use Rattle.its_model.specs.Valid.{IsValid}
use Rattle.its_model.specs.linear_forms.Causes.{cause_of}
use Rattle.cert_types.specs.cert_program.Setting.{setting_of}
use Rattle.cert_types.specs.cert_rules.AcceptsCosts.{cost_result_variable}
use Rattle.cert_types.specs.cert_rules.AcceptsSizes.{Side, Up, Low, left_of}
use Rattle.cert_types.specs.cert_rules.Checks.{large_nodes, needed_at_cost, result_variables_after}
use Rattle.cert_types.specs.cert_rules.ComposedSizes.{reads}
use Rattle.cert_types.specs.cert_rules.Gaps.{ScaledPoint}
use Rattle.cert_types.specs.cert_rules.Known.{Table}
use Rattle.cert_types.specs.cert_rules.Nodes.{ResultVariable, SideBound, LocalBound, CostBy, EmptyCost, NeverCost}
use Rattle.cert_types.specs.cert_rules.Nodes.{SideBoundCost}
use Rattle.cert_types.specs.declared.answer.GuardFeasibility.{GuardFeasibility}
use Rattle.cert_types.specs.declared.answer.GuardFeasibility.TheVariants as feasible
use Rattle.cert_types.specs.declared.answer.LimitHit.{LimitHit}
use Rattle.cert_types.specs.declared.answer.Question.TheVariants as questions
use Rattle.cert_types.specs.AnswerViews.{scaled_of}
use Rattle.cert_types.proofs.cert_rules.CheckLists.{each-append, each-map, in-each}
use Rattle.rank_search.specs.rule_questions.EmptyAnswers.{IsEmptyAnswer}
use Rattle.outcome.specs.Reports.{NoSize, SizeUnbounded, SizeHitLimit, SizeMissing, SizeUntimed, SizeLarge}
use Rattle.local_size.specs.LocalAnswers.{Local, HasBound, IsUnboundedOn, HasHitLimit, IsLocal, PassesNone}
use Rattle.local_size.specs.LocalAnswers.{SideHasResult}
use Rattle.local_size.specs.Sides.{LimitPassed}
use Rattle.local_size.proofs.UnboundedAnswers.{kept-point, none-affine, ray-limits, ray-of_side}
use Rattle.size_nodes.specs.Needs.{first_missing, this_or}
use Rattle.cost_bounds.specs.CostOutcomes.{BoundedBy, NotBounded, IsCostOf, FeasibleTo, RunsTo, SizedTo, StepTo}
use Rattle.cost_bounds.specs.CostOutcomes.{TimedTo}
use Rattle.cost_bounds.specs.CostOutcomes.{composed_bound, is_zero_time, question, sizes_read}
use Rattle.cost_bounds.specs.CostReasons.{prepared_cost, ExceedsFirst, HasNoCostBound, IsStepBound, StepExceeds}
use Rattle.cost_bounds.specs.CostReasons.{StepIsUnbounded}
use Rattle.cost_bounds.specs.Laws.{CostReasonsAreTrue}
use Rattle.cost_bounds.proofs.CostPrograms.{program-of-cost, program-of-cost-valid, program-of-cost-place}
use Rattle.cost_bounds.proofs.CostPrograms.{only_place_of}

-- the first place without a size has no size, and each property of all places in the list
first-is : (tab : Table) (P : ResultVariable → Type 0) (ms : List ResultVariable) (m : ResultVariable)
    → AllByRecursion P ms
    → first_missing tab ms ≡ Some m → P m × (tab.size m.rule m.place ≡ None)
first-is tab P [] m all e = absurd (none_some m e)
first-is tab P (k ∷ ms) m all e = go (tab.size k.rule k.place) refl e (first-is tab P ms m all.1)
  where
    go : (o : Option Bound) → tab.size k.rule k.place ≡ o → this_or o k (first_missing tab ms) ≡ Some m
        → (first_missing tab ms ≡ Some m → P m × (tab.size m.rule m.place ≡ None))
        → P m × (tab.size m.rule m.place ≡ None)
    go None h f later =
        subst (λ (x : ResultVariable). P x × (tab.size x.rule x.place ≡ None)) (some_same k m f) (all.0, h)
    go (Some b) h f later = later f

module _ (p : Program) (t : ℕ) (side_bound : SideBound) where
  -- a place is read after a rule that can come before
  pub record IsRead (m : ResultVariable) : Type 0 where
    pub place : 1 ≤ m.place
    pub before : is_in m.rule (pre p t) ≡ true
    pub reads : reads ((setting_of p).cost_poly t) side_bound (m.place - 1) ≡ true

  -- the places that a side bound reads are read
  are-read : (es : List ℕ) → ((e : ℕ) → is_in e es ≡ true → is_in e (pre p t) ≡ true)
      → AllByRecursion IsRead (needed_at_cost (setting_of p) t side_bound es)
  are-read [] inside = tt
  are-read (e ∷ es) inside =
      each-append IsRead
      (result_variables_after e
      (filter (reads ((setting_of p).cost_poly t) side_bound) (range_with_len 0 (left_of p t))))
      (needed_at_cost (setting_of p) t side_bound es)
      (each-map IsRead (λ j. record { rule = e; place = suc j })
      (filter (reads ((setting_of p).cost_poly t) side_bound) (range_with_len 0 (left_of p t)))
      (in-each (λ j. IsRead (record { rule = e; place = suc j }))
      (filter (reads ((setting_of p).cost_poly t) side_bound) (range_with_len 0 (left_of p t))) here))
      (are-read es (λ x m. inside x (or_right (x == e) (is_in x es) m)))
    where
      here : (j : ℕ) → is_in j (filter (reads ((setting_of p).cost_poly t) side_bound) (range_with_len 0 (left_of p t)))
          ≡ true
          → IsRead (record { rule = e; place = suc j })
      here j m = record {
        place = omega arith;
        before = inside e (or_left (e == e) (is_in e es) (same_number e));
        reads = subst (λ (k : ℕ). reads ((setting_of p).cost_poly t) side_bound k ≡ true)
            (let same : j ≡ suc j - 1 = omega arith in same)
            (filter-in (reads ((setting_of p).cost_poly t) side_bound) (range_with_len 0 (left_of p t)) j m).1;
      }

module _ (p : Program) (pivots : ℕ) (tab : Table) (t : ℕ) (why : NoSize) (v : IsValid p)
    (h : IsCostOf p pivots tab t (NotBounded why)) where
  abbrev costs : HasCost p t
  costs = h.costs

  -- the answer on the cost of one step
  abbrev IsStep : GuardFeasibility → Local → Type 0
  IsStep e step = IsLocal (prepared_cost costs) (cost_result_variable t) pivots e step

  -- what a reason says of the program, if the outcome is equal to one with this reason
  because : (other : NoSize) → NotBounded why ≡ NotBounded other → HasNoCostBound p pivots tab t other
      → HasNoCostBound p pivots tab t why
  because other e k = subst (HasNoCostBound p pivots tab t) (sym (inner e)) k
    where
      inner : NotBounded why ≡ NotBounded other → why ≡ other
      inner f = cc

  -- a bound isn't a reason
  bounded : (by : CostBy) → NotBounded why ≡ BoundedBy by → ⊥
  bounded by e = cc

  -- the upper bound of an answer is that of one step
  step-bound : (e : GuardFeasibility) (l : LocalBound) → IsStep e (HasBound l) → IsStepBound p pivots t l.up
  step-bound e l is = record { costs = costs; local = l; up = refl; bounds = is }

  timed : (e : GuardFeasibility) (l : LocalBound) → IsStep e (HasBound l)
      → first_missing tab (sizes_read (question p tab t) l.up) ≡ None → (o : Option Bound) → tab.time t ≡ o
      → TimedTo (question p tab t) l.up o (NotBounded why) → HasNoCostBound p pivots tab t why
  timed e l is sized None eq k = because (SizeUntimed t) k (record {
    side_bound = l.up;
    bound = step-bound e l is;
    sized = sized;
    own = refl;
    missing = eq;
  })
  timed e l is sized (Some b) eq (inl (small, k)) = absurd (bounded (SideBoundCost l.up) k)
  timed e l is sized (Some b) eq (inr (large, k)) =
      because (SizeLarge (large_nodes (setting_of p).rewrite (composed_bound (question p tab t) l.up))) k (record {
        side_bound = l.up;
        bound = step-bound e l is;
        sized = sized;
        large = large;
        nodes = refl;
      })

  sized : (e : GuardFeasibility) (l : LocalBound) → IsStep e (HasBound l) → (o : Option ResultVariable)
      → first_missing tab (sizes_read (question p tab t) l.up) ≡ o
      → SizedTo (question p tab t) l.up o (NotBounded why) → HasNoCostBound p pivots tab t why
  sized e l is (Some m) eq k =
      let read = first-is tab (IsRead p t l.up) (sizes_read (question p tab t) l.up) m
      (are-read p t l.up (pre p t) (λ x f. f)) eq in
      because (SizeMissing m) k (record {
        side_bound = l.up;
        bound = step-bound e l is;
        place = read.0.place;
        before = read.0.before;
        reads = read.0.reads;
        missing = read.1;
        first = eq;
      })
  sized e l is None eq k = timed e l is eq (tab.time t) refl k

  -- the cost of one step is unbounded
  unbounded : (e : GuardFeasibility) → IsEmptyAnswer (prepared_cost costs) t pivots e → (side : Side) (ray : List ℤ)
      (kept : ScaledPoint) → IsStep e (IsUnboundedOn side ray kept) → StepIsUnbounded p t side ray kept
  unbounded (feasible.Empty n) answered side ray kept is = absurd (none_some kept is.point)
  unbounded (feasible.OutOfLimits x) answered side ray kept is = absurd (none_some kept is.point)
  unbounded (feasible.Point z) answered side ray kept is = record {
    costs = costs;
    not_polynomial = is.asked;
    ray_length = (ray-limits (program-of-cost p t costs v) (cost_rule costs.rule costs.cost) only_place_of pivots
        (program-of-cost-valid p t costs v)
        (program-of-cost-place p t costs v) (feasible.Point z) side ray kept is).0;
    point_length = subst (λ (k : ScaledPoint). length k.parts ≡ (prepared_cost costs).unknowns)
        (some_same (scaled_of z) kept is.point) answered.0.long;
    from = kept-point (prepared_cost costs) t pivots (feasible.Point z) kept answered is.point;
    along = ray-of_side (program-of-cost p t costs v) (cost_rule costs.rule costs.cost) only_place_of pivots
        (program-of-cost-valid p t costs v)
        (program-of-cost-place p t costs v) (feasible.Point z) side ray kept is;
    none = none-affine (program-of-cost p t costs v) (cost_rule costs.rule costs.cost) only_place_of pivots
        (program-of-cost-valid p t costs v)
        (program-of-cost-place p t costs v) (feasible.Point z) side ray kept is answered;
  }

  -- a linear program exceeds a limit
  exceeds : (e : GuardFeasibility) → IsEmptyAnswer (prepared_cost costs) t pivots e → (x : LimitHit)
      → IsStep e (HasHitLimit x)
      → StepExceeds p pivots t (record { question = questions.Cost t; cause = x.cause })
  exceeds e answered x (inl own) = record {
    costs = costs;
    question = refl;
    not_polynomial = own.asked;
    exceeds = go own.first;
  }
    where
      go : SideHasResult (prepared_cost costs) 1 pivots Up (LimitPassed (cause_of x.cause))
          ⊎ (PassesNone (prepared_cost costs) 1 pivots Up × SideHasResult (prepared_cost costs) 1 pivots Low
          (LimitPassed (cause_of x.cause)))
          → ExceedsFirst (prepared_cost costs) t pivots (record { question = questions.Cost t; cause = x.cause })
      go (inl up) = inl up
      go (inr low) = inr (inl low)
  exceeds (feasible.Empty n) answered x (inr point) = absurd (none_some x point.limit_hit)
  exceeds (feasible.Point z) answered x (inr point) = absurd (none_some x point.limit_hit)
  exceeds (feasible.OutOfLimits y) answered x (inr point) = record {
    costs = costs;
    question = refl;
    not_polynomial = point.asked;
    exceeds = inr (inr (point.lacks, (y, answered, ap (λ (z : LimitHit). z.cause) (some_same y x point.limit_hit))));
  }

  stepped : (e : GuardFeasibility) → IsEmptyAnswer (prepared_cost costs) t pivots e → (step : Local) → IsStep e step
      → StepTo (question p tab t) step (NotBounded why) → HasNoCostBound p pivots tab t why
  stepped e answered (HasBound l) is k = sized e l is (first_missing tab (sizes_read (question p tab t) l.up)) refl k
  stepped e answered (IsUnboundedOn side ray kept) is k =
      because (SizeUnbounded side ray kept) k (unbounded e answered side ray kept is)
  stepped e answered (HasHitLimit x) is k =
      because (SizeHitLimit (record { question = questions.Cost t; cause = x.cause })) k (exceeds e answered x is)

  runs : (e : GuardFeasibility) → IsEmptyAnswer (prepared_cost costs) t pivots e → (w : Bool)
      → RunsTo (question p tab t) (IsStep e) w (NotBounded why) → HasNoCostBound p pivots tab t why
  runs e answered true k = absurd (bounded NeverCost k)
  runs e answered false (step, is, k) = stepped e answered step is k

  go : (e : GuardFeasibility) → IsEmptyAnswer (prepared_cost costs) t pivots e
      → FeasibleTo (question p tab t) (IsStep e) e (NotBounded why) → HasNoCostBound p pivots tab t why
  go (feasible.Empty node) answered k = absurd (bounded (EmptyCost node.multipliers.items) k)
  go (feasible.Point z) answered k = runs (feasible.Point z) answered (is_zero_time (tab.time t)) k
  go (feasible.OutOfLimits x) answered k = runs (feasible.OutOfLimits x) answered (is_zero_time (tab.time t)) k

  -- the reason is true
  pub reason-true : HasNoCostBound p pivots tab t why
  reason-true = go h.feasibility h.answered h.first

pub reasons-true : CostReasonsAreTrue
reasons-true = record { each = λ p pivots tab t why v h. reason-true p pivots tab t why v h }
