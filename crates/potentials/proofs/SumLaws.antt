-- The laws of weighed runs.
use Rattle.std.proofs.Common.{◌≡◌, ◌≢◌, ℕ, ◌+◌, ◌≤◌, List, [], ◌∷◌, ◌++◌}
use Rattle.std.proofs.Common.{refl, sym, ap, arith, length}
use Rattle.std.specs.Prelude.{ℤ}
use Rattle.run_counting.specs.model.Programs.{Program}
use Rattle.run_counting.specs.model.Runs.{Config, Step, IsRun, count, one_if_same}
use Rattle.run_counting.specs.model.Spending.{spent, spent_all}
use Rattle.run_counting.proofs.model.RunLaws.{one_if_same-other}
use Rattle.run_counting.proofs.model.CostLaws.{stands_at}
use Rattle.potentials.specs.Sums.{Weight, weighed, variables_at, once, once_for, cost_for, cost_of_each, HoldsSum}
use Rattle.potentials.specs.Sums.{AllSumsSay}

-- the variables of a step have the values of its configuration, and its free values
pub variables-are : (p : Program) (start : List ℤ) (s : Step) (earlier : List Step) (c : Config)
    → IsRun p start earlier c → c.values ++ s.free ≡ variables_at p start s earlier
variables-are p start s earlier c run = ap (λ (v : List ℤ). v ++ s.free) (stands_at p start earlier c run)

-- a weight that is nowhere greater adds up to no more
pub weighed-mono : (p : Program) (v w : Weight) → ((t : ℕ) (env : List ℤ) → v t env ≤ w t env) → (start : List ℤ)
    (steps : List Step) → weighed p v start steps ≤ weighed p w start steps
weighed-mono p v w h start [] = omega arith
weighed-mono p v w h start (s ∷ earlier) =
    let first = h s.rule (variables_at p start s earlier) in
    let others = weighed-mono p v w h start earlier in
    omega (arith, first, others)

-- equal weights add up to the same
pub weighed-same : (p : Program) (v w : Weight) → ((t : ℕ) (env : List ℤ) → v t env ≡ w t env) → (start : List ℤ)
    (steps : List Step) → weighed p v start steps ≡ weighed p w start steps
weighed-same p v w h start [] = refl
weighed-same p v w h start (s ∷ earlier) =
    let first = h s.rule (variables_at p start s earlier) in
    let others = weighed-same p v w h start earlier in
    omega (arith, first, others)

-- the sum of two weights adds up to both sums
pub weighed-add : (p : Program) (v w : Weight) (start : List ℤ) (steps : List Step)
    → weighed p (λ t env. v t env + w t env) start steps ≡ weighed p v start steps + weighed p w start steps
weighed-add p v w start [] = refl
weighed-add p v w start (s ∷ earlier) = let others = weighed-add p v w start earlier in omega (arith, others)

-- the sum of the weight 1 of a rule is its count
pub count-is : (p : Program) (rule : ℕ) → rule ≢ 0 → (start : List ℤ) (steps : List Step)
    → weighed p (once_for rule) start steps ≡ count rule steps
count-is p rule h start [] = sym (one_if_same-other 0 rule (λ e. h (sym e)))
count-is p rule h start (s ∷ earlier) =
    let others = count-is p rule h start earlier in
    ap (λ (n : ℕ). one_if_same s.rule rule + n) others

-- the sum of the weight 1 of every rule is the number of steps
pub length-is : (p : Program) (start : List ℤ) (steps : List Step) → weighed p once start steps ≡ length steps
length-is p start [] = refl
length-is p start (s ∷ earlier) = let others = length-is p start earlier in omega (arith, others)

-- the sum of the cost of a rule's steps is the rule's spending
pub spent-is : (p : Program) (rule : ℕ) (start : List ℤ) (steps : List Step)
    → weighed p (cost_for p rule) start steps ≡ spent p rule start steps
spent-is p rule start [] = refl
spent-is p rule start (s ∷ earlier) =
    ap (λ (n : ℕ). cost_for p rule s.rule (variables_at p start s earlier) + n) (spent-is p rule start earlier)

-- the sum of the cost of each step is the spending of all steps
pub spent-all-is : (p : Program) (start : List ℤ) (steps : List Step)
    → weighed p (cost_of_each p) start steps ≡ spent_all p start steps
spent-all-is p start [] = refl
spent-all-is p start (s ∷ earlier) =
    ap (λ (n : ℕ). cost_of_each p s.rule (variables_at p start s earlier) + n) (spent-all-is p start earlier)

-- the sum of a weight that is 0 everywhere is 0
pub zero-sum : (p : Program) (w : Weight) → ((t : ℕ) (env : List ℤ) → w t env ≡ 0) → HoldsSum p w (λ start. 0)
zero-sum p w h = record { each = λ start steps c run. let none = nothing start steps in omega (arith, none) }
  where
    nothing : (start : List ℤ) (steps : List Step) → weighed p w start steps ≡ 0
    nothing start [] = refl
    nothing start (s ∷ earlier) =
        let first = h s.rule (variables_at p start s earlier) in
        let others = nothing start earlier in
        omega (arith, first, others)

pub sums_say : AllSumsSay
sums_say = record {
  count_is = count-is;
  length_is = length-is;
  spent_is = spent-is;
  spent_all_is = spent-all-is;
  times = λ p rule b h holds. record {
    each = λ start steps c run.
        let sum = holds.each start steps c run in omega (arith, sum, count-is p rule h start steps);
  };
  sums = λ p rule b h holds. record {
    each = λ start steps c run.
        let time = holds.each start steps c run in omega (arith, time, count-is p rule h start steps);
  };
  lengths = λ p b holds. record {
    each = λ start steps c run. let sum = holds.each start steps c run in omega (arith, sum, length-is p start steps);
  };
  costs = λ p rule b holds. record {
    each = λ start steps c run.
        let sum = holds.each start steps c run in omega (arith, sum, spent-is p rule start steps);
  };
  totals = λ p b holds. record {
    each = λ start steps c run.
        let sum = holds.each start steps c run in omega (arith, sum, spent-all-is p start steps);
  };
}
