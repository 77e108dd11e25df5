-- Proofs of the worked bounds on the cost of all steps: each holds on all runs, or some run exceeds it.
use Rattle.std.proofs.Common.{◌≡◌, ℕ, zero, suc, ◌+◌, ◌≤◌, List, [], ◌∷◌, ◌++◌, length, ℤ, pos, negsuc}
use Rattle.std.proofs.Common.{Some, None, ◌∙◌, ap, arith}
use Rattle.model.specs.Terms.{Term}
use Rattle.model.specs.Programs.{Rule}
use Rattle.model.specs.Bounds.{Constant}
use Rattle.model.specs.Runs.{Config, Step, IsRun}
use Rattle.model.specs.Spending.{or_zero, cost, step_cost, spent, spent_all}
use Rattle.model.specs.Costs.{HasCost}
use Rattle.model.specs.Worked.{by_rule, two_values, four_steps}
use Rattle.model.specs.WorkedRuns.{countdown, entry_alone, entering, looping, both}
use Rattle.model.specs.WorkedCosts.{paying}
use Rattle.model.specs.WorkedTotals.{entry_at_cost, TotalsHold}
use Rattle.model.proofs.CostLaws.{step_without, run_without, run_back}
use Rattle.model.proofs.CountdownRuns.{looks, two_starts, sizes_of_two, ten_steps}
use Rattle.model.proofs.SpendingSums.{spending_is_by_rules, plain_totals_are_lengths}
use Rattle.model.proofs.WorkedRuns.{entered}
use Rattle.model.proofs.WorkedFacts.{alone_step, alone_one, alone_run, lengths_hold}
use Rattle.model.proofs.WorkedCosts.{as_countdown, as_paying, spends, four_paid}

-- no rule of the program that counts down has a cost
countdown_plain : (t : ℕ) → ¬ (HasCost countdown t)
countdown_plain zero h = cc
countdown_plain (suc zero) h = none_written (same_cost h)
  where
    same_cost : HasCost countdown 1 → (c : Term) × (None ≡ Some c)
    same_cost h = let same : entering ≡ h.rule = cc in (h.cost, ap (λ (r : Rule). r.cost) same ∙ h.written)

    none_written : (c : Term) × (None ≡ Some c) → ⊥
    none_written (c, e) = cc
countdown_plain (suc (suc zero)) h = none_written (same_cost h)
  where
    same_cost : HasCost countdown 2 → (c : Term) × (None ≡ Some c)
    same_cost h = let same : looping ≡ h.rule = cc in (h.cost, ap (λ (r : Rule). r.cost) same ∙ h.written)

    none_written : (c : Term) × (None ≡ Some c) → ⊥
    none_written (c, e) = cc
countdown_plain (suc (suc (suc t))) h = cc

-- what all steps of a run of the program with costs cost is what its two rules spend
paid_by_rules : (start : List ℤ) (steps : List Step)
    → spent_all paying start steps ≡ spent paying 1 start steps + spent paying 2 start steps
paid_by_rules start steps =
    let whole : spent_all paying start steps ≡ 0 + spent paying 1 start steps + spent paying 2 start steps =
    spending_is_by_rules.each paying start steps in
    omega (arith, whole)

-- the run by the rule with a cost; and its runs are those of the program without the cost
once_paid : (k : ℤ) → IsRun (entry_at_cost k) (both (pos 3) (pos 7)) (by_rule 1 ∷ []) (two_values 1 (pos 3) (pos 7))
once_paid k = run_back (entry_at_cost k) (both (pos 3) (pos 7)) (by_rule 1 ∷ []) (two_values 1 (pos 3) (pos 7)) alone_run

as_alone : (k : ℤ) (start : List ℤ) (steps : List Step) (c : Config) → IsRun (entry_at_cost k) start steps c
    → IsRun entry_alone start steps c
as_alone k start steps c run = run_without (entry_at_cost k) start steps c run

-- such a run costs at most what its one step costs
one_payment : (k : ℤ) (start : List ℤ) (steps : List Step) (c : Config) → IsRun (entry_at_cost k) start steps c
    → spent_all (entry_at_cost k) start steps ≤ or_zero k
one_payment k start [] c run = omega arith
one_payment k start (s ∷ []) c (b, run, step) =
    let first = (alone_step b s c (step_without (entry_at_cost k) b s c step)).0 in
    let charged : step_cost (entry_at_cost k) start s [] ≡ or_zero k =
    ap (λ (t : ℕ). cost (entry_at_cost k) t (start ++ s.free)) first in
    omega (arith, charged)
one_payment k start (s ∷ t ∷ earlier) c run =
    absurd (omega (arith, (alone_one start (s ∷ t ∷ earlier) c (as_alone k start (s ∷ t ∷ earlier) c run)).0))

-- the worked bounds on the cost of all steps hold, and those that are too small don't
pub totals_hold : TotalsHold
totals_hold = record {
  both_inputs = record {
    each = λ start steps c run.
        let sizes = sizes_of_two start (two_starts start steps c (as_countdown start steps c run)) in
        let rules = spends start steps c run in
        omega (arith, paid_by_rules start steps, rules.on_entering, rules.on_rounds, sizes.0, sizes.1);
  };
  fixed = record { each = λ start steps c run. one_payment (pos 5) start steps c run };
  negative = record { each = λ start steps c run. one_payment (negsuc 0) start steps c run };
  plain = plain_totals_are_lengths.bounds_cost countdown (Constant 10) countdown_plain lengths_hold.all;
  first_alone = λ h. omega (arith, h.each (both (pos 3) (pos 7)) four_steps (two_values 1 (pos 0) (negsuc 0)) four_paid);
  second_alone = λ h. omega (arith, h.each (both (pos 3) (pos 7)) four_steps (two_values 1 (pos 0) (negsuc 0)) four_paid);
  fixed_less = λ h. omega (arith, h.each (both (pos 3) (pos 7)) (by_rule 1 ∷ []) (two_values 1 (pos 3) (pos 7)) (once_paid (pos 5)));
  plain_less = λ h. lengths_hold.less (plain_totals_are_lengths.bounds_length countdown (Constant 9) countdown_plain h);
  paying_steps = record { each = λ start steps c run. ten_steps start steps c (looks start steps c (as_countdown start steps c run)) };
  paying_by_steps = λ h. omega (arith, h.each (both (pos 20) (pos 0)) (by_rule 1 ∷ []) (two_values 1 (pos 20) (pos 0)) (as_paying (both (pos 20) (pos 0)) (by_rule 1 ∷ []) (two_values 1 (pos 20) (pos 0)) (entered (pos 20) (pos 0))));
  fixed_step = record { each = λ start steps c run. (alone_one start steps c (as_alone (pos 5) start steps c run)).0 };
  fixed_by_step = λ h. omega (arith, h.each (both (pos 3) (pos 7)) (by_rule 1 ∷ []) (two_values 1 (pos 3) (pos 7)) (once_paid (pos 5)));
  negative_step = λ h. omega (arith, h.each (both (pos 3) (pos 7)) (by_rule 1 ∷ []) (two_values 1 (pos 3) (pos 7)) (once_paid (negsuc 0)));
}
