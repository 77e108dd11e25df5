-- The node on a cost that is bounded is accepted over the table, and over each table with the same bounds wherever the
-- node reads.
use Rattle.std.proofs.Common.{◌≡◌, inl, inr, ℕ, suc, ◌<◌, Bool, true, false, List, [], ◌∷◌, filter, Option, Some, None}
use Rattle.std.proofs.Common.{length, refl, sym, ap, ◌∙◌, subst}
use Rattle.std.specs.List.{range_with_len}
use Rattle.model.specs.Bounds.{Bound, MaximumOf, ProductOf, Parts}
use Rattle.model.specs.Costs.{HasCost}
use Rattle.model.specs.Entries.{is_in}
use Rattle.model.specs.Paths.{pre}
use Rattle.model.specs.Programs.{Program, Rule}
use Rattle.model.proofs.Membership.{is_in-cases, is_in-filter, is_in-numbers, no_is_not_yes}
use Rattle.its_model.specs.Valid.{IsValid}
use Rattle.its_model.specs.linear_forms.Certificates.{Implies, minus_one}
use Rattle.cert_types.specs.cert_program.Setting.{rows_in, setting_of}
use Rattle.cert_types.specs.cert_rules.AcceptsCosts.{AcceptsCost, AcceptsCostSideBound, HasCostNumbers}
use Rattle.cert_types.specs.cert_rules.AcceptsCosts.{cost_result_variable, node_cost}
use Rattle.cert_types.specs.cert_rules.AcceptsCosts.{side_bound_cost, step_cost_of}
use Rattle.cert_types.specs.cert_rules.AcceptsPlain.{AreMultipliers}
use Rattle.cert_types.specs.cert_rules.AcceptsSizes.{Up, left_of}
use Rattle.cert_types.specs.cert_rules.Checks.{check_size, check_small, cost_checks_by, needed_at_cost}
use Rattle.cert_types.specs.cert_rules.Checks.{result_variables_after}
use Rattle.cert_types.specs.cert_rules.Composed.{both_parts, sizes_after}
use Rattle.cert_types.specs.cert_rules.ComposedSizes.{composed_side_bound, reads}
use Rattle.cert_types.specs.cert_rules.Known.{IsKnown, Table, is_zero_bound, known}
use Rattle.cert_types.specs.cert_rules.Limits.{IsSmallComposed}
use Rattle.cert_types.specs.cert_rules.Nodes.{ResultVariable, SideBound, LocalBound, CostBy, EmptyCost, NeverCost}
use Rattle.cert_types.specs.cert_rules.Nodes.{SideBoundCost}
use Rattle.cert_types.specs.cert_rules.Reasons.{AllPass}
use Rattle.cert_types.specs.cert_rules.Setting.{costs_of}
use Rattle.cert_types.specs.declared.answer.GuardFeasibility.{GuardFeasibility}
use Rattle.cert_types.specs.declared.answer.GuardFeasibility.TheVariants as feasible
use Rattle.cert_types.proofs.cert_rules.CheckLists.{passes_each}
use Rattle.cert_types.proofs.cert_rules.CostReasons.{passes-cost}
use Rattle.cert_types.proofs.cert_rules.SizeReasons.{reads-left}
use Rattle.rank_search.specs.rule_questions.EmptyAnswers.{IsEmptyAnswer}
use Rattle.local_size.specs.LocalAnswers.{Local, HasBound, IsUnboundedOn, HasHitLimit, IsLocal}
use Rattle.outcome.specs.Reports.{NoSize}
use Rattle.size_nodes.specs.Needs.{first_missing}
use Rattle.size_nodes.proofs.FirstMissing.{all-known}
use Rattle.bound_fixpoint.specs.Keys.{has_key, time_key}
use Rattle.bound_fixpoint.proofs.Cases.{either}
use Rattle.bound_fixpoint.proofs.Keys.{has_key-first, has_key-later, has_key-left, has_key-right}
use Rattle.bound_fixpoint.proofs.SameSizes.{side_bound-same, still_known}
use Rattle.bound_fixpoint.proofs.SameTimes.{parts_for-same}
use Rattle.cost_nodes.proofs.CostRules.{cost-rule-is}
use Rattle.cost_bounds.specs.CostLemmas.{cost_node, cost_premises}
use Rattle.cost_bounds.specs.CostOutcomes.{BoundedBy, NotBounded, IsCostOf, FeasibleTo, RunsTo, SizedTo, StepTo}
use Rattle.cost_bounds.specs.CostOutcomes.{TimedTo}
use Rattle.cost_bounds.specs.CostOutcomes.{composed_bound, is_zero_time, question, sizes_read}
use Rattle.cost_bounds.specs.CostReasons.{prepared_cost}
use Rattle.cost_bounds.proofs.CostPrograms.{up-accepts, up-shaped}

-- a time that is known to be 0 is known
pub zero_known : (o : Option Bound) → is_zero_time o ≡ true → IsKnown o
zero_known None e = absurd (no e)
  where
    no : false ≡ true → ⊥
    no k = cc
zero_known (Some b) e = (b, refl)

-- a time that passes the test for 0 is 0
pub zero_is : (o : Option Bound) → is_zero_time o ≡ true → is_zero_bound (known o) ≡ true
zero_is None e = refl
zero_is (Some b) e = e

-- the places after a rule are keys after it
after-listed : (e : ℕ) (js : List ℕ) (j : ℕ) → is_in j js ≡ true
    → has_key (result_variables_after e js) e (suc j) ≡ true
after-listed e [] j m = absurd (no_is_not_yes false refl m)
after-listed e (k ∷ js) j m =
    either (is_in-cases j k js m)
    (λ same. subst (λ (i : ℕ). has_key (result_variables_after e (k ∷ js)) e (suc i) ≡ true) (sym same)
    (has_key-first (record { rule = e; place = suc k }) (result_variables_after e js)))
    (λ later. has_key-later (record { rule = e; place = suc k }) (result_variables_after e js) e (suc j)
    (after-listed e js j later))

module _ (p : Program) (pivots : ℕ) (tab : Table) (t : ℕ) where
  -- the cost rows have no point, as these multipliers certify
  pub record IsEmptyCost (multipliers : List ℕ) : Type 0 where
    pub numbers : AreMultipliers (costs_of (setting_of p)) t multipliers
    pub shows : Implies ((setting_of p).cost_rows t) multipliers minus_one

  -- a side bound of one step is found, its time and sizes are known, and the composed bound is small
  pub record IsStepCost (costs : HasCost p t) (side_bound : SideBound) : Type 0 where
    pub feasibility : GuardFeasibility
    pub local : LocalBound
    pub found : IsLocal (prepared_cost costs) (cost_result_variable t) pivots feasibility (HasBound local)
    pub up : local.up ≡ side_bound
    pub sized : first_missing tab (sizes_read (question p tab t) side_bound) ≡ None
    pub timed : IsKnown (tab.time t)
    pub small : IsSmallComposed (setting_of p).rewrite (composed_bound (question p tab t) side_bound)

  -- the property that an outcome with a bound shows of its certificate
  abbrev pub Certifies : HasCost p t → CostBy → Type 0
  Certifies costs (EmptyCost multipliers) = IsEmptyCost multipliers
  Certifies costs NeverCost = is_zero_time (tab.time t) ≡ true
  Certifies costs (SideBoundCost side_bound) = IsStepCost costs side_bound

  -- a certificate that is equal to the one of an outcome has this property
  same-by : (costs : HasCost p t) (x y : CostBy) → BoundedBy x ≡ BoundedBy y → Certifies costs y → Certifies costs x
  same-by costs x y e h = subst (Certifies costs) (sym (inner e)) h
    where
      inner : BoundedBy x ≡ BoundedBy y → x ≡ y
      inner k = cc

  -- the certificate of the outcome of a bound has this property
  pub certified : (h : (by : CostBy) × IsCostOf p pivots tab t (BoundedBy by)) → Certifies h.1.costs h.0
  certified (by, h) = go h.feasibility h.answered h.first
    where
      costs : HasCost p t
      costs = h.costs

      apart : {why : NoSize} → BoundedBy by ≡ NotBounded why → ⊥
      apart f = cc

      IsStep : GuardFeasibility → Local → Type 0
      IsStep e = IsLocal (prepared_cost costs) (cost_result_variable t) pivots e

      timed : (e : GuardFeasibility) (l : LocalBound) → IsStep e (HasBound l)
          → first_missing tab (sizes_read (question p tab t) l.up) ≡ None → (o : Option Bound) → tab.time t ≡ o
          → TimedTo (question p tab t) l.up o (BoundedBy by) → Certifies costs by
      timed e l found sized None eq k = absurd (apart k)
      timed e l found sized (Some b) eq (inl (small, k)) =
          same-by costs by (SideBoundCost l.up) k (record {
            feasibility = e;
            local = l;
            found = found;
            up = refl;
            sized = sized;
            timed = (b, eq);
            small = small;
          })
      timed e l found sized (Some b) eq (inr (large, k)) = absurd (apart k)

      sized : (e : GuardFeasibility) (l : LocalBound) → IsStep e (HasBound l) → (o : Option ResultVariable)
          → first_missing tab (sizes_read (question p tab t) l.up) ≡ o
          → SizedTo (question p tab t) l.up o (BoundedBy by) → Certifies costs by
      sized e l found (Some m) eq k = absurd (apart k)
      sized e l found None eq k = timed e l found eq (tab.time t) refl k

      stepped : (e : GuardFeasibility) (step : Local) → IsStep e step → StepTo (question p tab t) step (BoundedBy by)
          → Certifies costs by
      stepped e (HasBound l) found k = sized e l found (first_missing tab (sizes_read (question p tab t) l.up)) refl k
      stepped e (IsUnboundedOn side ray kept) found k = absurd (apart k)
      stepped e (HasHitLimit x) found k = absurd (apart k)

      runs : (e : GuardFeasibility) (v : Bool) → is_zero_time (tab.time t) ≡ v
          → RunsTo (question p tab t) (IsStep e) v (BoundedBy by) → Certifies costs by
      runs e true eq k = same-by costs by NeverCost k eq
      runs e false eq (step, found, k) = stepped e step found k

      go : (e : GuardFeasibility) → IsEmptyAnswer (prepared_cost costs) t pivots e
          → FeasibleTo (question p tab t) (IsStep e) e (BoundedBy by) → Certifies costs by
      go (feasible.Empty node) answered k =
          same-by costs by (EmptyCost node.multipliers.items) k (record {
            numbers = record {
              long = answered.0.shows.long ∙ sym
                  (ap (λ (o : Option Rule). length (rows_in o)) (cost-rule-is p t costs));
              limit = answered.0.limit;
            };
            shows = subst (λ (o : Option Rule). Implies (rows_in o) node.multipliers.items minus_one)
                (sym (cost-rule-is p t costs)) answered.0.shows;
          })
      go (feasible.Point z) answered k = runs (feasible.Point z) (is_zero_time (tab.time t)) refl k
      go (feasible.OutOfLimits x) answered k = runs (feasible.OutOfLimits x) (is_zero_time (tab.time t)) refl k

  -- the numbers of a certificate are right
  pub cost-numbers : (v : IsValid p) (costs : HasCost p t) (by : CostBy) → Certifies costs by
      → HasCostNumbers (setting_of p) t by
  cost-numbers v costs (EmptyCost multipliers) h = h.numbers
  cost-numbers v costs NeverCost h = tt
  cost-numbers v costs (SideBoundCost side_bound) h = subst
      (λ (x : SideBound). HasCostNumbers (setting_of p) t (SideBoundCost x)) h.up
      (up-shaped p t costs v pivots h.feasibility h.local h.found)

  module _ (v : IsValid p) (costs : HasCost p t) (other : Table) where
    -- a bound on one step
    module _ (side_bound : SideBound) (h : IsStepCost costs side_bound)
        (time : other.time t ≡ tab.time t)
        (sizes : (e i : ℕ) → has_key (sizes_read (question p tab t) side_bound) e i ≡ true
        → other.size e i ≡ tab.size e i) where
      -- the side bound of one step is accepted
      accepted : AcceptsCostSideBound (setting_of p) t side_bound
      accepted = subst (λ (x : SideBound). AcceptsCostSideBound (setting_of p) t x) h.up
          (up-accepts p t costs v pivots h.feasibility h.local h.found)

      -- each place that the side bound reads after a rule that can come before is among its premises
      listed : (es : List ℕ) (e : ℕ) → is_in e es ≡ true → (j : ℕ) → j < left_of p t
          → reads ((setting_of p).cost_poly t) side_bound j ≡ true
          → has_key (needed_at_cost (setting_of p) t side_bound es) e (suc j) ≡ true
      listed [] e m j l r = absurd (no_is_not_yes false refl m)
      listed (x ∷ es) e m j l r =
          either (is_in-cases e x es m)
          (λ same. has_key-left (result_variables_after x
          (filter (reads ((setting_of p).cost_poly t) side_bound) (range_with_len 0 (left_of p t))))
          (needed_at_cost (setting_of p) t side_bound es) e (suc j)
          (subst (λ (y : ℕ). has_key
          (result_variables_after y
          (filter (reads ((setting_of p).cost_poly t) side_bound) (range_with_len 0 (left_of p t)))) e (suc j)
          ≡ true)
          same
          (after-listed e (filter (reads ((setting_of p).cost_poly t) side_bound) (range_with_len 0 (left_of p t))) j
          (is_in-filter (reads ((setting_of p).cost_poly t) side_bound) (range_with_len 0 (left_of p t)) j
          (is_in-numbers (left_of p t) j l) r))))
          (λ later. has_key-right (result_variables_after x
          (filter (reads ((setting_of p).cost_poly t) side_bound) (range_with_len 0 (left_of p t))))
          (needed_at_cost (setting_of p) t side_bound es) e (suc j) (listed es e later j l r))

      -- the side bound has the same bound at the sizes of both tables
      step-same : (e : ℕ) → is_in e (pre p t) ≡ true
          → composed_side_bound ((setting_of p).cost_poly t) side_bound (sizes_after other.size e)
          ≡ composed_side_bound ((setting_of p).cost_poly t) side_bound (sizes_after tab.size e)
      step-same e m =
          side_bound-same ((setting_of p).cost_poly t) side_bound (sizes_after other.size e) (sizes_after tab.size e)
          (λ j r. ap known (sizes e (suc j) (listed (pre p t) e m j (left j r) r)))
        where
          left : (j : ℕ) → reads ((setting_of p).cost_poly t) side_bound j ≡ true → j < left_of p t
          left j r =
              reads-left (costs_of (setting_of p)) (cost_result_variable t) Up side_bound
              (cost-numbers v costs (SideBoundCost side_bound) h) accepted j r

      -- the side bound composes the same cost over both tables
      pub cost-same : side_bound_cost (setting_of p) other t side_bound
          ≡ side_bound_cost (setting_of p) tab t side_bound
      cost-same =
          ap (λ (o : Option Bound). ProductOf
          (both_parts (known o) (step_cost_of (setting_of p) t side_bound other.size))) time
          ∙ ap (λ (parts : Parts). ProductOf (both_parts (known (tab.time t)) (MaximumOf parts)))
          (parts_for-same (pre p t)
          (λ e. composed_side_bound ((setting_of p).cost_poly t) side_bound (sizes_after other.size e))
          (λ e. composed_side_bound ((setting_of p).cost_poly t) side_bound (sizes_after tab.size e)) step-same)

      -- the checks of the side bound pass
      pub step-passes : AllPass (cost_checks_by (setting_of p) other t (SideBoundCost side_bound))
      step-passes = (
        accepted,
        (
          (h.timed.0, time ∙ h.timed.1),
          passes_each (check_size other)
              (check_small (setting_of p) (side_bound_cost (setting_of p) other t side_bound) ∷ [])
              (sizes_read (question p tab t) side_bound)
              (still_known tab other (sizes_read (question p tab t) side_bound)
              (all-known tab (sizes_read (question p tab t) side_bound) h.sized) sizes)
              (subst (λ (b : Bound). IsSmallComposed (setting_of p).rewrite b) (sym cost-same) h.small, tt),
        ),
      )

    -- the time and the sizes that are premises of a certificate are the same in the other table
    pub record AgreesOn (by : CostBy) : Type 0 where
      pub time : has_key (cost_premises (setting_of p) t by) t 0 ≡ true → other.time t ≡ tab.time t
      pub sizes : (e i : ℕ) → has_key (cost_premises (setting_of p) t by) e i ≡ true → other.size e i ≡ tab.size e i

    -- the rule's time is among the premises of a bound on one step
    own-time : (side_bound : SideBound) → AgreesOn (SideBoundCost side_bound) → other.time t ≡ tab.time t
    own-time side_bound same = same.time (has_key-first (time_key t) (sizes_read (question p tab t) side_bound))

    -- the sizes that the bound reads are among its premises
    own-sizes : (side_bound : SideBound) → AgreesOn (SideBoundCost side_bound) → (e i : ℕ)
        → has_key (sizes_read (question p tab t) side_bound) e i ≡ true → other.size e i ≡ tab.size e i
    own-sizes side_bound same e i m =
        same.sizes e i (has_key-later (time_key t) (sizes_read (question p tab t) side_bound) e i m)

    -- over tables that agree on its premises a node states the same bound
    pub node-same : (by : CostBy) → Certifies costs by → AgreesOn by
        → node_cost (setting_of p) other (cost_node t by) ≡ node_cost (setting_of p) tab (cost_node t by)
    node-same (EmptyCost multipliers) h same = refl
    node-same NeverCost h same = refl
    node-same (SideBoundCost side_bound) h same =
        ap (setting_of p).rewrite (cost-same side_bound h (own-time side_bound same) (own-sizes side_bound same))

    -- the checks of the node pass
    passes : (by : CostBy) → Certifies costs by → AgreesOn by → AllPass (cost_checks_by (setting_of p) other t by)
    passes (EmptyCost multipliers) h same = (h.shows, tt)
    passes NeverCost h same =
        let time = same.time (has_key-first (time_key t) []) in
        let k = zero_known (tab.time t) h in (
          (k.0, time ∙ k.1),
          (ap (λ (o : Option Bound). is_zero_bound (known o)) time ∙ zero_is (tab.time t) h, tt),
        )
    passes (SideBoundCost side_bound) h same = step-passes side_bound h (own-time side_bound same)
        (own-sizes side_bound same)

    -- the node is accepted over the other table
    pub node-accepted : (by : CostBy) → Certifies costs by → AgreesOn by
        → AcceptsCost (setting_of p) other (cost_node t by)
    node-accepted by h same =
        passes-cost (setting_of p) other (cost_node t by)
        (record { cost = costs; numbers = cost-numbers v costs by h }, passes by h same)
