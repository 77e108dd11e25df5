-- The charge of a rule's cost over its steps is the rule's spending.
use Rattle.std.proofs.Common.{◌≡◌, ◌≢◌, ◌⊎◌, inl, inr, ℕ, ◌==◌, true, false, List, [], ◌∷◌, Option, Some, None}
use Rattle.std.proofs.Common.{refl, sym, ap, ◌∙◌, arith}
use Rattle.std.specs.Prelude.{ℤ}
use Rattle.std.proofs.lemmas.Bool.Decides.{eqb_tells}
use Rattle.poly_terms.proofs.Values.{expanded-value}
use Rattle.potentials.specs.model.Terms.{Term}
use Rattle.potentials.specs.model.Programs.{Program, Rule, rule_at}
use Rattle.potentials.specs.model.Polynomials.{polynomial_value}
use Rattle.potentials.specs.model.Runs.{Step}
use Rattle.potentials.specs.model.Spending.{or_zero, cost_at, cost_by, step_cost, spent}
use Rattle.potentials.specs.Sums.{charges, weighed, variables_at}
use Rattle.potential_nodes.specs.Costs.{cost_form, cost_form_in, cost_charge}

-- the polynomial of a cost has the value of the cost, and that of a rule the value of the rule's cost
pub cost_form-value : (cost : Option Term) (env : List ℤ) → cost_at cost env ≡ or_zero (polynomial_value (cost_form cost) env)
cost_form-value None env = refl
cost_form-value (Some c) env = ap or_zero (sym (expanded-value c env))

pub cost_form_in-value : (o : Option Rule) (env : List ℤ) → cost_by o env ≡ or_zero (polynomial_value (cost_form_in o) env)
cost_form_in-value None env = refl
cost_form_in-value (Some r) env = cost_form-value r.cost env

-- the charge of a rule's cost over its steps is the rule's spending
pub spent-charged : (p : Program) (t : ℕ) (start : List ℤ) (steps : List Step)
    → weighed p (charges (cost_charge p t ∷ [])) start steps ≡ spent p t start steps
spent-charged p t start [] = refl
spent-charged p t start (s ∷ earlier) =
    go (eqb_tells s.rule t) (eqb_tells t s.rule) (spent-charged p t start earlier)
  where
    env : List ℤ
    env = variables_at p start s earlier

    value-is : s.rule ≡ t → step_cost p start s earlier ≡ or_zero (polynomial_value (cost_charge p t).form env)
    value-is same =
        ap (λ (u : ℕ). cost_by (rule_at p u) env) same ∙ cost_form_in-value (rule_at p t) env

    go : ((s.rule == t) ≡ true) × (s.rule ≡ t) ⊎ ((s.rule == t) ≡ false) × (s.rule ≢ t)
        → ((t == s.rule) ≡ true) × (t ≡ s.rule) ⊎ ((t == s.rule) ≡ false) × (t ≢ s.rule)
        → weighed p (charges (cost_charge p t ∷ [])) start earlier ≡ spent p t start earlier
        → weighed p (charges (cost_charge p t ∷ [])) start (s ∷ earlier) ≡ spent p t start (s ∷ earlier)
    go (inl (test, same)) (inl (test', same')) ih =
        let value = value-is same in rw test (rw test' (omega (arith, ih, value)))
    go (inl (test, same)) (inr (test', other)) ih = absurd (other (sym same))
    go (inr (test, other)) (inl (test', same)) ih = absurd (other (sym same))
    go (inr (test, other)) (inr (test', other')) ih = rw test (rw test' (omega (arith, ih)))
