-- Why the cost of an accepted node holds: each step by the rule is charged its cost at the values before it, which is
-- 0 if it is negative and else the value after a step by the cost rule, and so at most the side bound.
use Rattle.std.proofs.Common.{◌≡◌, ◌≢◌, ◌⊎◌, inl, inr, ℕ, suc, ◌+◌, ◌*◌, ◌≤◌, ◌==◌, true, false, List, [], ◌∷◌, ◌++◌}
use Rattle.std.proofs.Common.{Option, Some, refl, sym, ap, ◌∙◌, subst, arith, le_trans, mul-le-mul, mul-le-mul_right}
use Rattle.std.specs.Prelude.{ℤ, pos, negsuc, ◌≤ℤ◌, nat_abs}
use Rattle.std.proofs.lemmas.Int.{ints}
use Rattle.std.proofs.lemmas.Bool.Decides.{eqb_tells}
use Rattle.std.proofs.lemmas.List.Elements.{All-nil, All-cons, All-append}
use Rattle.run_counting.specs.model.Terms.{Term, Literal, value}
use Rattle.run_counting.specs.model.Programs.{Program, Rule, rule_at, AtLeast, Atom, Compare, AtomHolds}
use Rattle.run_counting.specs.model.Runs.{Config, Step, IsStep, IsRun, count, last_rule, sizes_of_start}
use Rattle.run_counting.specs.model.Bounds.{Constant, val, IsBased}
use Rattle.run_counting.specs.model.Spending.{or_zero, cost, cost_at, cost_by, step_cost, spent}
use Rattle.run_counting.specs.model.Costs.{HasCost}
use Rattle.run_counting.specs.model.Facts.{Cost, HoldsCost}
use Rattle.run_counting.specs.model.Entries.{is_in}
use Rattle.run_counting.specs.model.Paths.{pre}
use Rattle.run_counting.proofs.model.RunLaws.{same_rule, one_if_same-same}
use Rattle.run_counting.proofs.model.CostLaws.{stands_at, spent_more, spent_same}
use Rattle.run_counting.proofs.model.Membership.{no_is_not_yes}
use Rattle.rule_forms.specs.linear_forms.Forms.{at}
use Rattle.rule_forms.specs.linear_forms.Certificates.{Implies, minus_one}
use Rattle.rule_forms.proofs.linear_forms.CertificateLaws.{no_point}
use Rattle.cert_rules.specs.Nodes.{SideBound, CostBy, EmptyCost, NeverCost, SideBoundCost, CostNode}
use Rattle.cert_rules.specs.Known.{Table}
use Rattle.cert_rules.specs.Setting.{Setting, costs_of, IsCostStep, StepPoint, IsFaithful}
use Rattle.cert_rules.specs.Composed.{no_place, sizes_after}
use Rattle.cert_rules.specs.ComposedSizes.{composed_side_bound, reads}
use Rattle.cert_rules.specs.AcceptsSizes.{Up, HasSideBoundShape, left_of}
use Rattle.cert_rules.specs.AcceptsCosts.{HasCostNumbers, cost_result_variable}
use Rattle.cert_rules.specs.AcceptsCosts.{step_cost_of, side_bound_cost, HasZeroTime, AcceptsCostOfSideBound, AcceptsCostBy}
use Rattle.cert_rules.specs.AcceptsCosts.{AcceptsCost, stated_cost, node_cost}
use Rattle.cert_rules.proofs.GoodFacts.{IsGood, IsGoodTable, known-time, known-size, known_time-based}
use Rattle.cert_rules.proofs.GoodFacts.{known_size-based}
use Rattle.cert_rules.proofs.Bases.{parts_for-based, composed_side_bound-based}
use Rattle.cert_rules.proofs.LastSteps.{last_precedes}
use Rattle.cert_rules.proofs.UnusedRules.{zero_val}
use Rattle.cert_rules.proofs.SideBounds.{side_bound-covered}
use Rattle.cert_rules.proofs.SpreadSoundness.{listed_below, left_values, stays_out, whole_side_bound}

-- the charge of a step by a rule with a cost, at the values before it
charged : (p : Program) (t : ℕ) (h : HasCost p t) (start : List ℤ) (earlier : List Step) (b : Config) (st : Step)
    → IsRun p start earlier b → st.rule ≡ t
    → step_cost p start st earlier ≡ or_zero (value h.cost (b.values ++ st.free))
charged p t h start earlier b st run same =
    ap (λ (v : List ℤ). cost p st.rule (v ++ st.free)) (sym (stands_at p start earlier b run))
    ∙ (ap (λ (u : ℕ). cost p u (b.values ++ st.free)) same
    ∙ (ap (λ (o : Option Rule). cost_by o (b.values ++ st.free)) h.numbered
    ∙ ap (λ (o : Option Term). cost_at o (b.values ++ st.free)) h.written))

-- if each step by a rule is charged at most `limit`, all are charged at most `limit` times the number of these steps
spent-covered : (p : Program) (t limit : ℕ) (start : List ℤ)
    → ((earlier : List Step) (b : Config) (st : Step) (c : Config) → IsRun p start earlier b → IsStep p b st c
    → st.rule ≡ t → step_cost p start st earlier ≤ limit)
    → (steps : List Step) (c : Config) → IsRun p start steps c → spent p t start steps ≤ count t steps * limit
spent-covered p t limit start each [] c run = omega arith
spent-covered p t limit start each (st ∷ earlier) c (b, run, x) =
    go (eqb_tells st.rule t) (spent-covered p t limit start each earlier b run)
  where
    more : (often k : ℕ) → often ≡ suc k → often * limit ≡ limit + k * limit
    more often k e = ap (λ (n : ℕ). n * limit) e ∙ omega arith

    go : ((st.rule == t) ≡ true) × (st.rule ≡ t) ⊎ ((st.rule == t) ≡ false) × (st.rule ≢ t)
        → spent p t start earlier ≤ count t earlier * limit
        → spent p t start (st ∷ earlier) ≤ count t (st ∷ earlier) * limit
    go (inl (test, same)) before =
        let often : count t (st ∷ earlier) ≡ suc (count t earlier) = omega (arith, one_if_same-same st.rule t same) in
        let paid : step_cost p start st earlier ≤ limit = each earlier b st c run x same in
        omega (arith, spent_more p t start st earlier same, paid, before, more _ (count t earlier) often)
    go (inr (test, other)) before =
        let often : count t earlier * limit ≤ count t (st ∷ earlier) * limit =
        mul-le-mul_right limit (omega arith) in
        omega (arith, spent_same p t start st earlier other, before, often)

-- a rule that never occurs is charged nothing
unused_spends : (p : Program) (t : ℕ) (start : List ℤ) (steps : List Step) → count t steps ≤ 0
    → spent p t start steps ≡ 0
unused_spends p t start [] h = refl
unused_spends p t start (st ∷ earlier) h =
    go (eqb_tells st.rule t) (unused_spends p t start earlier (omega (arith, h)))
  where
    go : ((st.rule == t) ≡ true) × (st.rule ≡ t) ⊎ ((st.rule == t) ≡ false) × (st.rule ≢ t)
        → spent p t start earlier ≡ 0 → spent p t start (st ∷ earlier) ≡ 0
    go (inl (test, same)) before = absurd (omega (arith, h, one_if_same-same st.rule t same))
    go (inr (test, other)) before = omega (arith, spent_same p t start st earlier other, before)

module _ (s : Setting) (true_to : IsFaithful s) (t : ℕ) (h : HasCost s.program t) where
  -- the configuration in which the cost rule ends, at these values of its variables
  abbrev paid_at : List ℤ → Config
  paid_at env = record { at = 1; values = value h.cost env ∷ [] }

  -- a step whose cost isn't negative is a step by the cost rule
  cost-step : (b : Config) (st : Step) (c : Config) → IsStep s.program b st c → st.rule ≡ t
      → pos 0 ≤ℤ value h.cost (b.values ++ st.free) → IsCostStep s.program b st (paid_at (b.values ++ st.free))
  cost-step b st c x same low =
      let rule : x.rule ≡ h.rule = same_rule s.program t x.rule h.rule
      (subst (λ (u : ℕ). rule_at s.program u ≡ Some x.rule) same x.numbered) h.numbered in record {
        rule = x.rule;
        numbered = x.numbered;
        cost = h.cost;
        written = ap (λ (r : Rule). r.cost) rule ∙ h.written;
        leads = record {
          source = refl;
          left = x.leads.left;
          free_ones = x.leads.free_ones;
          guard = All-append (AtomHolds (b.values ++ st.free)) x.rule.guard (at_least ∷ []) x.leads.guard
              (All-cons (AtomHolds (b.values ++ st.free)) at_least [] low (All-nil (AtomHolds (b.values ++ st.free))));
          target = refl;
          values = refl;
        };
      }
    where
      at_least : Atom
      at_least = Compare h.cost AtLeast (Literal (pos 0))

  -- a step whose cost isn't negative is a point of the cost rows
  cost-point : (b : Config) (st : Step) (c : Config) → IsStep s.program b st c → st.rule ≡ t
      → pos 0 ≤ℤ value h.cost (b.values ++ st.free)
      → StepPoint (costs_of s) t b st.free (paid_at (b.values ++ st.free))
  cost-point b st c x same low =
      subst (λ (u : ℕ). StepPoint (costs_of s) u b st.free (paid_at (b.values ++ st.free))) same
      (true_to.costs b st (paid_at (b.values ++ st.free)) (cost-step b st c x same low))

  -- a bound on each nonnegative cost of a step is one on the charge of each step
  charged-within : (limit : ℕ) (start : List ℤ) (earlier : List Step) (b : Config) (st : Step)
      → IsRun s.program start earlier b → st.rule ≡ t
      → (pos 0 ≤ℤ value h.cost (b.values ++ st.free) → value h.cost (b.values ++ st.free) ≤ℤ pos limit)
      → step_cost s.program start st earlier ≤ limit
  charged-within limit start earlier b st run same within =
      go (value h.cost (b.values ++ st.free)) (charged s.program t h start earlier b st run same) within
    where
      go : (v : ℤ) → step_cost s.program start st earlier ≡ or_zero v → (pos 0 ≤ℤ v → v ≤ℤ pos limit)
          → step_cost s.program start st earlier ≤ limit
      go (pos n) e k =
          let small : pos n ≤ℤ pos limit = k (omega (arith, ints)) in
          let least : n ≤ limit = omega (arith, ints, small) in omega (arith, e, least)
      go (negsuc n) e k = omega (arith, e)

  -- if the cost rows have no point, no step is charged anything
  empty-holds : (multipliers : List ℕ) → Implies (s.cost_rows t) multipliers minus_one
      → HoldsCost s.program t (Constant 0)
  empty-holds multipliers shown = record {
    each = λ start steps c run.
        le_trans (spent-covered s.program t 0 start (λ earlier b st d r x same. nothing start earlier b st d r x same) steps c run)
        (omega arith);
  }
    where
      nothing : (start : List ℤ) (earlier : List Step) (b : Config) (st : Step) (d : Config)
          → IsRun s.program start earlier b → IsStep s.program b st d → st.rule ≡ t
          → step_cost s.program start st earlier ≤ 0
      nothing start earlier b st d run x same =
          charged-within 0 start earlier b st run same
          (λ low. let point = cost-point b st d x same low in
          absurd (no_point (s.cost_rows t) multipliers shown point.z (pos 1) point.point))

  module _ (table : Table) (good : IsGoodTable s.program table) where
    -- the cost of a rule whose time is 0 is 0
    never-holds : HasZeroTime table t → HoldsCost s.program t (Constant 0)
    never-holds never = record {
      each = λ start steps c run.
          let often = (known-time s.program table good t never.time).each start steps c run in
          omega (
            arith,
            unused_spends s.program t start steps
                (omega (arith, often, zero_val _ (sizes_of_start start) never.zero)),
          );
    }

    module _ (side_bound : SideBound) (shape : HasSideBoundShape (costs_of s) t (left_of s.program t) side_bound)
        (shown : AcceptsCostOfSideBound s table t side_bound) where
      -- an accepted side bound, at the sizes after the rule before, is at least the cost
      side_bound-above : (start : List ℤ) (earlier : List Step) (b : Config) (st : Step) (c : Config)
          → IsRun s.program start earlier b → IsStep s.program b st c → st.rule ≡ t
          → is_in (last_rule earlier) (pre s.program t) ≡ true → pos 0 ≤ℤ value h.cost (b.values ++ st.free)
          → value h.cost (b.values ++ st.free) ≤ℤ pos
          (val (composed_side_bound (s.cost_poly t) side_bound (sizes_after table.size (last_rule earlier))) (sizes_of_start start))
      side_bound-above start earlier b st c run x same before low =
          let size : (j : ℕ) → reads (s.cost_poly t) side_bound j ≡ true → no_place j ≡ false
          → nat_abs (at b.values j) ≤ val (sizes_after table.size (last_rule earlier) j) (sizes_of_start start) =
          λ j k l. (known-size s.program table good (last_rule earlier) (suc j)
          (shown.sizes (last_rule earlier) before j k)).each start earlier b run refl in
          plain (value h.cost (b.values ++ st.free)) _ _ _
          (side_bound-covered (costs_of s) (cost_result_variable t) b st.free (paid_at (b.values ++ st.free))
          (cost-point b st c x same low) (omega arith) (left_values s.program b st c x t same)
          no_place 0 (sizes_after table.size (last_rule earlier)) (sizes_of_start start)
          (λ j k. absurd (no_is_not_yes false refl k)) Up side_bound shape shown.up size (stays_out (costs_of s) (cost_result_variable t) side_bound))
          (whole_side_bound (s.cost_poly t) side_bound (sizes_after table.size (last_rule earlier)) (sizes_of_start start))
        where
          plain : (v : ℤ) (k n o : ℕ) → v ≤ℤ pos (k * 0 + n) → n ≡ o → v ≤ℤ pos o
          plain v k n o l e = omega (arith, ints, l, e)

      -- each step is charged at most the maximum over the rules that can come before
      step-within : (start : List ℤ) (earlier : List Step) (b : Config) (st : Step) (c : Config)
          → IsRun s.program start earlier b → IsStep s.program b st c → st.rule ≡ t
          → step_cost s.program start st earlier ≤ val (step_cost_of s t side_bound table.size) (sizes_of_start start)
      step-within start earlier b st c run x same =
          let before : is_in (last_rule earlier) (pre s.program t) ≡ true =
          subst (λ (u : ℕ). is_in (last_rule earlier) (pre s.program u) ≡ true) same
          (last_precedes s.program start earlier b st c run x) in
          le_trans (charged-within _ start earlier b st run same (side_bound-above start earlier b st c run x same before))
          (listed_below (λ e. composed_side_bound (s.cost_poly t) side_bound (sizes_after table.size e)) (pre s.program t)
          (sizes_of_start start) (last_rule earlier) before)

      -- all steps by the rule together are charged at most that maximum times the rule's time
      side_bound-holds : HoldsCost s.program t (side_bound_cost s table t side_bound)
      side_bound-holds = record {
        each = λ start steps c run.
            le_trans (spent-covered s.program t (val (step_cost_of s t side_bound table.size) (sizes_of_start start)) start
            (λ earlier b st d r x same. step-within start earlier b st d r x same) steps c run)
            (mul-le-mul ((known-time s.program table good t shown.time).each start steps c run) (omega arith));
      }

      -- the composed cost has bases of at least 1
      side_bound_cost-based : IsBased (side_bound_cost s table t side_bound)
      side_bound_cost-based = (
        tt,
        (
          known_time-based s.program table good t,
          (
            (
              tt,
              parts_for-based (λ e. composed_side_bound (s.cost_poly t) side_bound (sizes_after table.size e))
                  (λ e. composed_side_bound-based (s.cost_poly t) side_bound (sizes_after table.size e)
                  (λ j. known_size-based s.program table good e (suc j))) (pre s.program t),
            ),
            tt,
          ),
        ),
      )

    -- the cost that is stated holds, and its bases are at least 1
    stated-good : (by : CostBy) → HasCostNumbers s t by → AcceptsCostBy s table t by
        → IsGood s.program (Cost t (stated_cost s table t by))
    stated-good (EmptyCost ms) shape shown = record { holds = empty-holds ms shown; based = tt }
    stated-good NeverCost shape shown = record { holds = never-holds shown; based = tt }
    stated-good (SideBoundCost side_bound) shape shown = record {
      holds = record {
        each = λ start steps c run.
            subst (λ (n : ℕ). spent s.program t start steps ≤ n)
            (sym (true_to.values (side_bound_cost s table t side_bound) (side_bound_cost-based side_bound shape shown) (sizes_of_start start)))
            ((side_bound-holds side_bound shape shown).each start steps c run);
      };
      based = true_to.bases (side_bound_cost s table t side_bound) (side_bound_cost-based side_bound shape shown);
    }

-- the fact of an accepted node on a cost is good
pub cost-good : (s : Setting) → IsFaithful s → (table : Table) → IsGoodTable s.program table → (node : CostNode)
    → AcceptsCost s table node → IsGood s.program (Cost node.rule (node_cost s table node))
cost-good s true_to table good node h = stated-good s true_to node.rule h.shape.cost table good node.by h.shape.numbers h.by
