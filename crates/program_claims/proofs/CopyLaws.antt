-- The charges at the copies of a rule charge each copy, and the charges of costs charge each rule its cost.
use Rattle.std.proofs.Common.{◌≡◌, ◌≢◌, ◌⊎◌, inl, inr, ◌≤◌, ◌+◌, ℕ, zero, suc, ◌==◌, true, false, List, [], ◌∷◌}
use Rattle.std.proofs.Common.{Option, Some, sym, ap, ◌∙◌, arith}
use Rattle.std.specs.Prelude.{ℤ, slice_get}
use Rattle.std.proofs.lemmas.Bool.Decides.{eqb_tells}
use Rattle.model.specs.Terms.{Term}
use Rattle.model.specs.Programs.{Rule}
use Rattle.model.specs.Polynomials.{Polynomial, polynomial_value}
use Rattle.model.specs.Spending.{or_zero, cost_at}
use Rattle.model.proofs.Cases.{none_some, some_same}
use Rattle.refinement.specs.Simulation.{Projection}
use Rattle.potentials.specs.Sums.{Charge, charges}
use Rattle.potential_nodes.specs.Costs.{cost_form}
use Rattle.potential_nodes.proofs.CostLaws.{cost_form-value}
use Rattle.program_claims.specs.Copies.{copies_from, charge_by, charge_each, cost_charges}

-- the charge of a rule by a list whose first charge is of that rule is at least that first charge
pub charged-first : (form : Polynomial) (t u : ℕ) (cs : List Charge) (env : List ℤ) → u ≡ t
    → or_zero (polynomial_value form env) ≤ charges (charge_by form t ∷ cs) u env
charged-first form t u cs env same = go (eqb_tells t u)
  where
    go : ((t == u) ≡ true) × (t ≡ u) ⊎ ((t == u) ≡ false) × (t ≢ u)
        → or_zero (polynomial_value form env) ≤ charges (charge_by form t ∷ cs) u env
    go (inl (test, e)) = rw test (omega arith)
    go (inr (test, other)) = absurd (other (sym same))

-- a charge put before others doesn't make the sum less
pub charged-later : (n : ℕ) (c : Charge) (cs : List Charge) (u : ℕ) (env : List ℤ) → n ≤ charges cs u env
    → n ≤ charges (c ∷ cs) u env
charged-later n c cs u env h = omega (arith, h)

module _ (o : Projection) (n : ℕ) (form : Polynomial) (env : List ℤ) where
  -- the charges at the copies of a rule charge each copy the form
  pub copy-charged : (t : ℕ) (rules : List Rule) (k u : ℕ) (r : Rule) → slice_get rules k ≡ Some r → u ≡ t + k
      → o.rule u ≡ n → or_zero (polynomial_value form env) ≤ charges (charge_each form (copies_from o n t rules)) u env
  copy-charged t [] k u r h at below = absurd (none_some r h)
  copy-charged t (r' ∷ rules) zero u r h at below = go (eqb_tells (o.rule t) n)
    where
      same : u ≡ t
      same = omega (arith, at)

      go : ((o.rule t == n) ≡ true) × (o.rule t ≡ n) ⊎ ((o.rule t == n) ≡ false) × (o.rule t ≢ n)
          → or_zero (polynomial_value form env) ≤ charges (charge_each form (copies_from o n t (r' ∷ rules))) u env
      go (inl (test, e)) =
          rw test (charged-first form t u (charge_each form (copies_from o n (suc t) rules)) env same)
      go (inr (test, other)) = absurd (other (ap o.rule (sym same) ∙ below))
  copy-charged t (r' ∷ rules) (suc k) u r h at below =
      go (eqb_tells (o.rule t) n) (copy-charged (suc t) rules k u r h (omega (arith, at)) below)
    where
      go : ((o.rule t == n) ≡ true) × (o.rule t ≡ n) ⊎ ((o.rule t == n) ≡ false) × (o.rule t ≢ n)
          → or_zero (polynomial_value form env) ≤ charges (charge_each form (copies_from o n (suc t) rules)) u env
          → or_zero (polynomial_value form env) ≤ charges (charge_each form (copies_from o n t (r' ∷ rules))) u env
      go (inl (test, e)) ih =
          rw test (charged-later (or_zero (polynomial_value form env)) (charge_by form t)
          (charge_each form (copies_from o n (suc t) rules)) u env ih)
      go (inr (test, other)) ih = rw test ih

-- the charges of costs charge each rule its cost
pub cost-charged : (t : ℕ) (rules : List Rule) (k u : ℕ) (r : Rule) (env : List ℤ) → slice_get rules k ≡ Some r
    → u ≡ t + k → cost_at r.cost env ≤ charges (cost_charges t rules) u env
cost-charged t [] k u r env h at = absurd (none_some r h)
cost-charged t (r' ∷ rules) zero u r env h at =
    let same : r'.cost ≡ r.cost = ap (λ (x : Rule). x.cost) (some_same r' r h) in
    let value : cost_at r.cost env ≡ or_zero (polynomial_value (cost_form r'.cost) env) =
    ap (λ (x : Option Term). cost_at x env) (sym same) ∙ cost_form-value r'.cost env in
    let charged = charged-first (cost_form r'.cost) t u (cost_charges (suc t) rules) env (omega (arith, at)) in
    omega (arith, value, charged)
cost-charged t (r' ∷ rules) (suc k) u r env h at =
    charged-later (cost_at r.cost env) (charge_by (cost_form r'.cost) t) (cost_charges (suc t) rules) u env
    (cost-charged (suc t) rules k u r env h (omega (arith, at)))
