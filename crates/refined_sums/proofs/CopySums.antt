-- Sums and greatest values over the copies of a rule.
use Rattle.std.proofs.Common.{◌≡◌, ◌≢◌, ◌⊎◌, inl, inr, ◌≤◌, ◌+◌, ℕ, zero, suc, ◌==◌, true, false, List, [], ◌∷◌, ◌++◌}
use Rattle.std.proofs.Common.{Some, sym, ap, arith}
use Rattle.std.specs.Prelude.{ℤ}
use Rattle.std.specs.List.{All, Contains}
use Rattle.std.proofs.lemmas.Bool.Decides.{eqb_tells}
use Rattle.std.proofs.lemmas.List.Elements.{All-head, All-tail}
use Rattle.model.specs.Polynomials.{Polynomial, polynomial_value}
use Rattle.model.specs.Programs.{Program, Rule, rule_at}
use Rattle.model.specs.Runs.{Config, Step, IsRun}
use Rattle.model.specs.Spending.{or_zero}
use Rattle.refinement.specs.Lifted.{AreCopies}
use Rattle.refinement.specs.Simulation.{Projection}
use Rattle.refinement.proofs.Sums.{sum_over, sum-at_least, sum-with}
use Rattle.potentials.specs.Sums.{Charge, Weight, charge_at, charges, variables_at, weighed}
use Rattle.program_claims.specs.Copies.{charge_by, charge_each}
use Rattle.program_claims.proofs.CopyLaws.{charged-first, charged-later}
use Rattle.refined_sums.specs.Copies.{at_rule, charges_above, greatest_at, sum_at, weight_below}

-- a sum of what bounds hold for is at most the sum of the bounds
pub sum-within : (f : ℕ → ℕ) (bound : ℕ → List ℤ → ℕ) (start : List ℤ) (ts : List ℕ) → All (λ t. f t ≤ bound t start) ts
    → sum_over f ts ≤ sum_at bound ts start
sum-within f bound start [] h = omega arith
sum-within f bound start (t ∷ ts) h =
    let P : ℕ → Type 0 = λ (t : ℕ). f t ≤ bound t start in
    let first : f t ≤ bound t start = All-head P t ts h in
    let others = sum-within f bound start ts (All-tail P t ts h) in
    omega (arith, first, others)

-- the bound of a listed rule is at most the greatest one
pub greatest-over : (bound : ℕ → List ℤ → ℕ) (start : List ℤ) (ts : List ℕ) (s : ℕ) → Contains ts s
    → bound s start ≤ greatest_at bound ts start
greatest-over bound start [] s (k, low, at) = absurd (omega (arith, low))
greatest-over bound start (t ∷ ts) s (zero, low, at) = omega (arith, ap (λ (n : ℕ). bound n start) at)
greatest-over bound start (t ∷ ts) s (suc k, low, at) =
    let others = greatest-over bound start ts s (k, omega (arith, low), at) in omega (arith, others)

-- what the steps of a run weigh by a rule below them is at most the sum of what they weigh at its copies
module _ (q : Program) (o : Projection) (n : ℕ) (ts : List ℕ) (w : Weight) (all : AreCopies q o n ts) where
  pub weighed-copies : (start : List ℤ) (steps : List Step) (c : Config) → IsRun q start steps c
      → weighed q (weight_below o (at_rule n w)) start steps
      ≤ sum_over (λ t. weighed q (at_rule t (weight_below o w)) start steps) ts
  weighed-copies start [] c run = omega arith
  weighed-copies start (s ∷ earlier) c (b, run, step) =
      go (eqb_tells (o.rule s.rule) n) (weighed-copies start earlier b run)
    where
      go : ((o.rule s.rule == n) ≡ true) × (o.rule s.rule ≡ n) ⊎ ((o.rule s.rule == n) ≡ false) × (o.rule s.rule ≢ n)
          → weighed q (weight_below o (at_rule n w)) start earlier
          ≤ sum_over (λ t. weighed q (at_rule t (weight_below o w)) start earlier) ts
          → weighed q (weight_below o (at_rule n w)) start (s ∷ earlier)
          ≤ sum_over (λ t. weighed q (at_rule t (weight_below o w)) start (s ∷ earlier)) ts
      go (inl (test, same)) ih =
          let risen : w (o.rule s.rule) (variables_at q start s earlier)
          + sum_over (λ t. weighed q (at_rule t (weight_below o w)) start earlier) ts
          ≤ sum_over (λ t. weighed q (at_rule t (weight_below o w)) start (s ∷ earlier)) ts =
          sum-with (w (o.rule s.rule) (variables_at q start s earlier)) s.rule
          (λ t. weighed q (at_rule t (weight_below o w)) start earlier) ts
          (all.each s.rule step.rule step.numbered same) in
          rw test (omega (arith, ih, risen))
      go (inr (test, other)) ih =
          let risen : sum_over (λ t. weighed q (at_rule t (weight_below o w)) start earlier) ts
          ≤ sum_over (λ t. weighed q (at_rule t (weight_below o w)) start (s ∷ earlier)) ts =
          sum-at_least (w (o.rule s.rule) (variables_at q start s earlier)) s.rule
          (λ t. weighed q (at_rule t (weight_below o w)) start earlier) ts in
          rw test (omega (arith, ih, risen))

-- a copy is charged what is charged at all copies
copy-charged : (form : Polynomial) (ts : List ℕ) (u : ℕ) (env : List ℤ) → Contains ts u
    → or_zero (polynomial_value form env) ≤ charges (charge_each form ts) u env
copy-charged form [] u env (k, low, at) = absurd (omega (arith, low))
copy-charged form (t ∷ ts) u env (zero, low, at) = charged-first form t u (charge_each form ts) env (sym at)
copy-charged form (t ∷ ts) u env (suc k, low, at) =
    charged-later (or_zero (polynomial_value form env)) (charge_by form t) (charge_each form ts) u env
    (copy-charged form ts u env (k, omega (arith, low), at))

-- appended charges add up
charges-append : (cs ds : List Charge) (t : ℕ) (env : List ℤ) → charges (cs
    ++ ds) t env ≡ charges cs t env + charges ds t env
charges-append [] ds t env = omega arith
charges-append (c ∷ cs) ds t env = let others = charges-append cs ds t env in omega (arith, others)

-- a rule is charged at most what the charges at all copies come to at one of its copies
pub charged-above : (q : Program) (o : Projection) (copies : ℕ → List ℕ) (goal : List Charge)
    → All (λ c. AreCopies q o c.rule (copies c.rule)) goal → (t : ℕ) (r : Rule) (env : List ℤ) → rule_at q t ≡ Some r
    → charges goal (o.rule t) env ≤ charges (charges_above copies goal) t env
charged-above q o copies [] all t r env there = omega arith
charged-above q o copies (c ∷ cs) all t r env there =
    let P : Charge → Type 0 = λ (c : Charge). AreCopies q o c.rule (copies c.rule) in
    let first = one (All-head P c cs all) (eqb_tells c.rule (o.rule t)) in
    let others = charged-above q o copies cs (All-tail P c cs all) t r env there in
    let both = charges-append (charge_each c.form (copies c.rule)) (charges_above copies cs) t env in
    omega (arith, first, others, both)
  where
    one : AreCopies q o c.rule (copies c.rule)
        → ((c.rule == o.rule t) ≡ true) × (c.rule ≡ o.rule t) ⊎ ((c.rule == o.rule t) ≡ false) × (c.rule ≢ o.rule t)
        → charge_at c (o.rule t) env ≤ charges (charge_each c.form (copies c.rule)) t env
    one each (inl (test, same)) =
        let most = copy-charged c.form (copies c.rule) t env (each.each t r there (sym same)) in rw test (omega
        (arith, most))
    one each (inr (test, other)) = rw test (omega arith)
