-- The steps of a run are counted rule by rule: if each rule occurs at most once, there are at most as many steps as
-- rules.
use Rattle.std.proofs.Common.{◌≡◌, ◌≢◌, ℕ, zero, suc, ◌+◌, ◌≤◌, ◌<◌, List, [], ◌∷◌, length, true, false, ℤ, Some, None}
use Rattle.std.proofs.Common.{refl, ◌∙◌, ap, inl, inr, ◌⊎◌, arith, ◌==◌}
use Rattle.std.proofs.lemmas.Bool.Decides.{eqb_tells}
use Rattle.std.proofs.lemmas.Option.{slice_get_within}
use Rattle.model.specs.Programs.{Program, Rule, rule_at}
use Rattle.model.specs.Runs.{Config, Step, IsRun, count, one_if_same}
use Rattle.model.specs.Paths.{HasCycle}
use Rattle.its_graph.specs.Acyclic.{WithoutCycleEachRuleAtMostOnce}
use Rattle.model.proofs.RunLaws.{one_if_same-same, one_if_same-other}
use Rattle.its_graph.proofs.Occurrences.{at_most_once}

-- The sum of f over the numbers from 1 to n.
abbrev pub sum_from_one : (ℕ → ℕ) → ℕ → ℕ
sum_from_one f zero = 0
sum_from_one f (suc n) = f (suc n) + sum_from_one f n

-- A number past n is none of the numbers from 1 to n.
pub sum_past : (n s : ℕ) → n < s → sum_from_one (one_if_same s) n ≡ 0
sum_past zero s h = refl
sum_past (suc n) s h = omega (arith, one_if_same-other s (suc n) (omega arith), sum_past n s (omega arith))

-- A number from 1 to n is exactly one of them.
pub sum_one : (n s : ℕ) → 1 ≤ s → s ≤ n → sum_from_one (one_if_same s) n ≡ 1
sum_one zero s low high = absurd (omega arith)
sum_one (suc n) s low high = go (eqb_tells s (suc n)) (sum_one n s low)
  where
    go : ((s == suc n) ≡ true) × (s ≡ suc n) ⊎ ((s == suc n) ≡ false) × (s ≢ suc n) → (s ≤ n → sum_from_one (one_if_same s) n ≡ 1) → one_if_same s (suc n) + sum_from_one (one_if_same s) n ≡ 1
    go (inl (test, same)) before = omega (arith, one_if_same-same s (suc n) same, sum_past n s (omega arith))
    go (inr (test, other)) before = omega (arith, one_if_same-other s (suc n) other, before (omega arith))

-- The sum of two functions is the sum of their sums.
pub sum-add : (f g : ℕ → ℕ) (n : ℕ) → sum_from_one (λ t. f t + g t) n ≡ sum_from_one f n + sum_from_one g n
sum-add f g zero = refl
sum-add f g (suc n) = omega (arith, sum-add f g n)

-- The sum of numbers that are at most 1 is at most their count.
pub sum-at_most : (f : ℕ → ℕ) (n : ℕ) → ((t : ℕ) → f t ≤ 1) → sum_from_one f n ≤ n
sum-at_most f zero h = omega arith
sum-at_most f (suc n) h = omega (arith, h (suc n), sum-at_most f n h)

-- Before the first step no rule has occurred.
pub none_at_first : (n : ℕ) → sum_from_one (λ t. count t []) n ≡ 0
none_at_first zero = refl
none_at_first (suc n) = omega (arith, one_if_same-other 0 (suc n) (omega arith), none_at_first n)

-- A rule's number is from 1 to the number of rules.
pub number_in_range : (p : Program) (t : ℕ) (r : Rule) → rule_at p t ≡ Some r → (1 ≤ t) × (t ≤ length p.rules)
number_in_range p zero r h = absurd (none_some h)
  where
    none_some : None ≡ Some r → ⊥
    none_some e = cc
number_in_range p (suc t) r h = let low : t < length p.rules = slice_get_within p.rules t r h in (omega arith, omega arith)

-- The number of steps of a run is the number by rule 1, plus that by rule 2 and so on.
pub steps_by_rule : (p : Program) (start : List ℤ) (steps : List Step) (c : Config) → IsRun p start steps c → sum_from_one (λ t. count t steps) (length p.rules) ≡ length steps
steps_by_rule p start [] c run = none_at_first (length p.rules)
steps_by_rule p start (s ∷ earlier) c (b, run, step) =
    let range = number_in_range p s.rule step.rule step.numbered in
    let now : sum_from_one (one_if_same s.rule) (length p.rules) ≡ 1 = sum_one (length p.rules) s.rule range.0 range.1 in
    let before : sum_from_one (λ t. count t earlier) (length p.rules) ≡ length earlier = steps_by_rule p start earlier b run in
    sum-add (one_if_same s.rule) (λ t. count t earlier) (length p.rules) ∙ (ap (λ k. k + sum_from_one (λ t. count t earlier) (length p.rules)) now ∙ (ap (λ k. 1 + k) before ∙ omega arith))

-- Without a cycle there are at most as many steps as rules.
pub few_steps : (p : Program) → ¬ (HasCycle p) → (start : List ℤ) (steps : List Step) (c : Config) → IsRun p start steps c → length steps ≤ length p.rules
few_steps p acyclic start steps c run =
    let few : sum_from_one (λ t. count t steps) (length p.rules) ≤ length p.rules = sum-at_most (λ t. count t steps) (length p.rules) (λ t. at_most_once p acyclic start steps c t run) in
    omega (arith, few, steps_by_rule p start steps c run)

-- The law: without a cycle each rule occurs at most once in every run.
pub each_rule_at_most_once : WithoutCycleEachRuleAtMostOnce
each_rule_at_most_once p acyclic = record {
  times = λ t. record { each = λ start steps c run. at_most_once p acyclic start steps c t run };
  total = record { each = λ start steps c run. few_steps p acyclic start steps c run };
}
