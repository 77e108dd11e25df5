-- What all steps cost is the sum of what the rules spend; without costs it is the number of steps.
use Rattle.std.proofs.Common.{◌≡◌, ◌≢◌, ◌⊎◌, inl, inr, true, false, ◌==◌, if◌then◌else◌, ℕ, zero, suc, ◌+◌, ◌<◌, ◌≤◌}
use Rattle.std.proofs.Common.{List, [], ◌∷◌, ◌++◌, length, ℤ, Option, Some, None, refl, sym, ◌∙◌, ap, arith}
use Rattle.std.specs.List.{range_with_len, sum_by}
use Rattle.std.proofs.lemmas.Bool.Decides.{eqb_tells}
use Rattle.std.proofs.lemmas.List.Sums.{sum_by-cons}
use Rattle.std.proofs.lemmas.Option.{slice_get_within}
use Rattle.model.specs.Terms.{Term}
use Rattle.model.specs.Programs.{Program, Rule, rule_at}
use Rattle.model.specs.Runs.{Config, Step, IsRun}
use Rattle.model.specs.Spending.{cost_at, cost_by, values_after, step_cost, spent, spent_all}
use Rattle.model.specs.Costs.{HasCost, SpendingIsByRules, PlainTotalsAreLengths}

-- an amount at one number, and 0 at all others
abbrev amount_at : ℕ → ℕ → ℕ → ℕ
amount_at s k t = if s == t then k else 0

-- at its number the function is the amount
amount-same : (s k t : ℕ) → s ≡ t → amount_at s k t ≡ k
amount-same s k t e = go (eqb_tells s t)
  where
    go : ((s == t) ≡ true) × (s ≡ t) ⊎ ((s == t) ≡ false) × (s ≢ t) → amount_at s k t ≡ k
    go (inl (test, same)) = rw test refl
    go (inr (test, other)) = absurd (other e)

-- at other numbers the function is 0
amount-other : (s k t : ℕ) → s ≢ t → amount_at s k t ≡ 0
amount-other s k t ne = go (eqb_tells s t)
  where
    go : ((s == t) ≡ true) × (s ≡ t) ⊎ ((s == t) ≡ false) × (s ≢ t) → amount_at s k t ≡ 0
    go (inl (test, same)) = absurd (ne same)
    go (inr (test, other)) = rw test refl

-- for an amount of 0 the function is 0 at every number
amount-zero : (s k t : ℕ) → k ≡ 0 → amount_at s k t ≡ 0
amount-zero s k t none = go (eqb_tells s t)
  where
    go : ((s == t) ≡ true) × (s ≡ t) ⊎ ((s == t) ≡ false) × (s ≢ t) → amount_at s k t ≡ 0
    go (inl (test, same)) = rw test none
    go (inr (test, other)) = rw test refl

-- the sum of a sum of functions is the sum of their sums
pub sum_by-add : (f g : ℕ → ℕ) (xs : List ℕ) → sum_by (λ x. f x + g x) xs ≡ sum_by f xs + sum_by g xs
sum_by-add f g [] = refl
sum_by-add f g (x ∷ xs) =
    omega (arith, sum_by-cons (λ x. f x + g x) x xs, sum_by-cons f x xs, sum_by-cons g x xs, sum_by-add f g xs)

-- the sum of zeros is 0
sum_by-zero : (f : ℕ → ℕ) (xs : List ℕ) → ((x : ℕ) → f x ≡ 0) → sum_by f xs ≡ 0
sum_by-zero f [] h = refl
sum_by-zero f (x ∷ xs) h = omega (arith, sum_by-cons f x xs, h x, sum_by-zero f xs h)

-- if the number of the amount is below all numbers of the list, the sum is 0
sum-before : (s k a n : ℕ) → s < a → sum_by (amount_at s k) (range_with_len a n) ≡ 0
sum-before s k a zero low = refl
sum-before s k a (suc n) low =
    omega (arith, sum_by-cons (amount_at s k) a (range_with_len (a + 1) n), amount-other s k a (λ e. omega (arith, e, low)), sum-before s k (a + 1) n (omega (arith, low)))

-- if the number of the amount is one of the numbers of the list, the sum is the amount
sum-once : (s k a n : ℕ) → a ≤ s → s < a + n → sum_by (amount_at s k) (range_with_len a n) ≡ k
sum-once s k a zero low high = absurd (omega (arith, low, high))
sum-once s k a (suc n) low high = go (eqb_tells s a) (sum-once s k (a + 1) n)
  where
    first : sum_by (amount_at s k) (range_with_len a (suc n)) ≡ amount_at s k a + sum_by (amount_at s k) (range_with_len (a + 1) n)
    first = sum_by-cons (amount_at s k) a (range_with_len (a + 1) n)

    go : ((s == a) ≡ true) × (s ≡ a) ⊎ ((s == a) ≡ false) × (s ≢ a)
        → (a + 1 ≤ s → s < a + 1 + n → sum_by (amount_at s k) (range_with_len (a + 1) n) ≡ k)
        → sum_by (amount_at s k) (range_with_len a (suc n)) ≡ k
    go (inl (test, same)) rest =
        omega (arith, first, amount-same s k a same, sum-before s k (a + 1) n (omega (arith, same)))
    go (inr (test, other)) rest =
        omega (arith, first, amount-other s k a other, rest (omega (arith, other, low)) (omega (arith, high)))

-- a rule's number is from 1 to the number of rules
pub number_in_range : (p : Program) (t : ℕ) (r : Rule) → rule_at p t ≡ Some r → (1 ≤ t) × (t < 1 + length p.rules)
number_in_range p zero r h = absurd (none_some h)
  where
    none_some : None ≡ Some r → ⊥
    none_some e = cc
number_in_range p (suc t) r h = let low : t < length p.rules = slice_get_within p.rules t r h in (omega arith, omega arith)

-- one more step adds its cost to what its rule has spent, and nothing to what other rules have spent
step_by_rules : (p : Program) (start : List ℤ) (s : Step) (earlier : List Step)
    → sum_by (amount_at s.rule (step_cost p start s earlier)) (range_with_len 1 (length p.rules))
    ≡ step_cost p start s earlier
step_by_rules p start s earlier = go (rule_at p s.rule) refl
  where
    go : (o : Option Rule) → rule_at p s.rule ≡ o
        → sum_by (amount_at s.rule (step_cost p start s earlier)) (range_with_len 1 (length p.rules)) ≡ step_cost p start s earlier
    go None e =
        let free : step_cost p start s earlier ≡ 0 = ap (λ (o : Option Rule). cost_by o (values_after p start earlier ++ s.free)) e in
        sum_by-zero (amount_at s.rule (step_cost p start s earlier)) (range_with_len 1 (length p.rules)) (λ t. amount-zero s.rule (step_cost p start s earlier) t free) ∙ sym free
    go (Some r) e =
        let range = number_in_range p s.rule r e in
        sum-once s.rule (step_cost p start s earlier) 1 (length p.rules) range.0 range.1

-- what all steps cost is the sum of what the rules spend
by_rules : (p : Program) (start : List ℤ) (steps : List Step)
    → spent_all p start steps ≡ sum_by (λ t. spent p t start steps) (range_with_len 1 (length p.rules))
by_rules p start [] = sym (sum_by-zero (λ t. spent p t start []) (range_with_len 1 (length p.rules)) (λ t. refl))
by_rules p start (s ∷ earlier) =
    omega (arith, sum_by-add (amount_at s.rule (step_cost p start s earlier)) (λ t. spent p t start earlier) (range_with_len 1 (length p.rules)), step_by_rules p start s earlier, by_rules p start earlier)

pub spending_is_by_rules : SpendingIsByRules
spending_is_by_rules = record { each = by_rules }

-- a step by a rule of a program without costs costs 1
plain_step_cost : (p : Program) → ((t : ℕ) → ¬ (HasCost p t)) → (start : List ℤ) (s : Step) (earlier : List Step) (r : Rule)
    → rule_at p s.rule ≡ Some r → step_cost p start s earlier ≡ 1
plain_step_cost p plain start s earlier r e = by_cost r.cost refl
  where
    by_cost : (o : Option Term) → r.cost ≡ o → step_cost p start s earlier ≡ 1
    by_cost None written = ap (λ (o : Option Rule). cost_by o (values_after p start earlier ++ s.free)) e ∙ ap (λ (o : Option Term). cost_at o (values_after p start earlier ++ s.free)) written
    by_cost (Some c) written = absurd (plain s.rule (record { rule = r; numbered = e; cost = c; written = written }))

-- without costs a run costs as much as it has steps
plain_length : (p : Program) → ((t : ℕ) → ¬ (HasCost p t)) → (start : List ℤ) (steps : List Step) (c : Config)
    → IsRun p start steps c → spent_all p start steps ≡ length steps
plain_length p plain start [] c run = refl
plain_length p plain start (s ∷ earlier) c (b, run, step) =
    omega (arith, plain_step_cost p plain start s earlier step.rule step.numbered, plain_length p plain start earlier b run)

pub plain_totals_are_lengths : PlainTotalsAreLengths
plain_totals_are_lengths = record {
  spends = plain_length;
  bounds_length = λ p bound plain h. record { each = λ start steps c run. omega (arith, h.each start steps c run, plain_length p plain start steps c run) };
  bounds_cost = λ p bound plain h. record { each = λ start steps c run. omega (arith, h.each start steps c run, plain_length p plain start steps c run) };
}
