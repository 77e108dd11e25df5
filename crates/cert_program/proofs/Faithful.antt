-- Why the setting of a valid program is true of it.
use Rattle.std.proofs.Common.{◌≡◌, ◌↔◌, ℕ, zero, suc, ◌≤◌, Bool, true, false, if◌then◌else◌, List, [], ◌∷◌, ◌++◌}
use Rattle.std.proofs.Common.{map, slice_get, option_map, Option, Some, None, refl, sym, ap, ◌∙◌, subst, arith}
use Rattle.std.specs.Prelude.{ℤ, pos}
use Rattle.std.proofs.lemmas.Bool.Decides.{nat_tests}
use Rattle.guard_prep.specs.model.Terms.{Term, value}
use Rattle.guard_prep.specs.model.Programs.{Program, Rule, rule_at}
use Rattle.guard_prep.specs.model.Runs.{Config, Step, IsStep}
use Rattle.guard_prep.specs.model.Costs.{cost_rule, entering_cost}
use Rattle.guard_prep.specs.model.Polynomials.{Polynomial, polynomial_value, degree_of}
use Rattle.guard_prep.specs.linear_forms.Forms.{Form, at, form_value}
use Rattle.guard_prep.specs.linear_forms.Points.{IsPoint}
use Rattle.guard_prep.specs.poly_terms.Expanding.{expanded}
use Rattle.guard_prep.proofs.poly_terms.Values.{expanded-value}
use Rattle.guard_prep.specs.its_model.Valid.{IsValid}
use Rattle.guard_prep.specs.Prepared.{is_nonlinear, polys_of, new_values_of}
use Rattle.guard_prep.specs.Laws.{point_of}
use Rattle.guard_prep.proofs.StepLaws.{valid-at, steps-are-points, costs-are-points}
use Rattle.bound_table.proofs.TableInForce.{rewritten-value, rewritten-numbers}
use Rattle.bound_table.proofs.BelowSound.{below-sound}
use Rattle.cert_rules.specs.Combined.{form_at}
use Rattle.cert_rules.specs.Setting.{StepPoint, only_place, costs_of, IsCostStep}
use Rattle.cert_rules.proofs.Soundness.{accepted_facts_hold}
use Rattle.cert_program.specs.Setting.{rows_in, new_values_in, polys_in, nonlinear_at, cost_rule_in, cost_rule_at}
use Rattle.cert_program.specs.Setting.{setting_of}
use Rattle.cert_program.specs.Laws.{SettingsAreFaithful, AcceptedFactsHold, IsNonlinearUpdate, PolynomialsAreNonlinear}

-- the value of the form at a position is the value of that position's form
value-form_at : (fs : List Form) (z : ℕ → ℤ) (i : ℕ)
    → form_value (form_at fs i) z (pos 1) ≡ at (map (λ f. form_value f z (pos 1)) fs) i
value-form_at [] z i = refl
value-form_at (f ∷ fs) z zero = refl
value-form_at (f ∷ fs) z (suc i) = value-form_at fs z i

-- the polynomial of a nonlinear update has the update's value
value-nonlinear_at : (us : List Term) (env : List ℤ) (i : ℕ) (q : Polynomial) → nonlinear_at (map expanded us) i ≡ Some q
    → polynomial_value q env ≡ at (map (λ u. value u env) us) i
value-nonlinear_at [] env i q e = absurd (none_some e)
  where
    none_some : None ≡ Some q → ⊥
    none_some h = cc
value-nonlinear_at (u ∷ us) env zero q e = go (is_nonlinear (expanded u)) e
  where
    go : (b : Bool) → (if b then Some (expanded u) else None) ≡ Some q → polynomial_value q env ≡ value u env
    go true h = subst (λ (x : Polynomial). polynomial_value x env ≡ value u env) same (expanded-value u env)
      where
        same : expanded u ≡ q
        same = cc
    go false h = absurd (none_some h)
      where
        none_some : None ≡ Some q → ⊥
        none_some k = cc
value-nonlinear_at (u ∷ us) env (suc i) q e = value-nonlinear_at us env i q e

-- a step is a point of the setting's rows
step-point : (p : Program) → IsValid p → (c : Config) (s : Step) (d : Config) → IsStep p c s d
    → StepPoint (setting_of p) s.rule c s.free d
step-point p v c s d i =
    let h = steps-are-points.each p c d s v i in
    let here : (P : Option Rule → Type 0) → P (Some i.rule) → P (rule_at p s.rule) = λ P k. subst P (sym i.numbered) k in
    let z : ℕ → ℤ = at (point_of i.rule (c.values ++ s.free)) in record {
      z = z;
      point = here (λ o. IsPoint (rows_in o) z (pos 1)) h.point;
      left = h.left;
      new_values = here (λ o. (j : ℕ) → form_value (form_at (new_values_in o) j) z (pos 1) ≡ at d.values j)
          (λ j. value-form_at (new_values_in (Some i.rule)) z j ∙ ap (λ (xs : List ℤ). at xs j) h.new_values);
      nonlinear = here (λ o. (j : ℕ) (q : Polynomial) → nonlinear_at (polys_in o) j ≡ Some q
          → polynomial_value q (c.values ++ s.free) ≡ at d.values j)
          (λ j q e. value-nonlinear_at i.rule.updates (c.values ++ s.free) j q e
          ∙ ap (λ (xs : List ℤ). at xs j) (sym i.leads.values));
    }

-- the form at position 0 is the only new value of a cost rule
only-new : (r : Rule) (e : Term) → new_values_of (cost_rule r e) ≡ form_at (new_values_of (cost_rule r e)) 0 ∷ []
only-new r e = go (is_nonlinear (expanded e)) refl
  where
    go : (b : Bool) → is_nonlinear (expanded e) ≡ b → new_values_of (cost_rule r e) ≡ form_at (new_values_of (cost_rule r e)) 0 ∷ []
    go true h = rw h refl
    go false h = rw h refl

-- the polynomial of a nonlinear cost has the cost's value
value-only : (env : List ℤ) (e : Term) (j : ℕ) (q : Polynomial) → only_place (nonlinear_at (expanded e ∷ []) 0) j ≡ Some q
    → polynomial_value q env ≡ at (value e env ∷ []) j
value-only env e zero q h = value-nonlinear_at (e ∷ []) env 0 q h
value-only env e (suc j) q h = absurd (none_some h)
  where
    none_some : None ≡ Some q → ⊥
    none_some k = cc

-- a step by a cost rule is a point of the setting's cost rows
cost-point : (p : Program) → IsValid p → (c : Config) (s : Step) (d : Config) → IsCostStep p c s d
    → StepPoint (costs_of (setting_of p)) s.rule c s.free d
cost-point p v c s d i =
    let r : Rule = cost_rule i.rule i.cost in
    let h = costs-are-points.steps p s.rule i.rule i.cost (entering_cost c) d s.free v i.numbered i.written i.leads in
    let here : (P : Option Rule → Type 0) → P (Some r) → P (cost_rule_at p s.rule) =
    λ P k. subst P (sym (ap cost_rule_in i.numbered ∙ ap (λ (o : Option Term). option_map (λ e. cost_rule i.rule e) o) i.written)) k in
    let z : ℕ → ℤ = at (point_of r (c.values ++ s.free)) in record {
      z = z;
      point = here (λ o. IsPoint (rows_in o) z (pos 1)) h.point;
      left = h.left;
      new_values = here (λ o. (j : ℕ) → form_value (form_at (form_at (new_values_in o) 0 ∷ []) j) z (pos 1) ≡ at d.values j)
          (λ j. ap (λ (fs : List Form). form_value (form_at fs j) z (pos 1)) (sym (only-new i.rule i.cost))
          ∙ (value-form_at (new_values_in (Some r)) z j ∙ ap (λ (xs : List ℤ). at xs j) h.new_values));
      nonlinear = here (λ o. (j : ℕ) (x : Polynomial) → only_place (nonlinear_at (polys_in o) 0) j ≡ Some x
          → polynomial_value x (c.values ++ s.free) ≡ at d.values j)
          (λ j x e. value-only (c.values ++ s.free) i.cost j x e ∙ ap (λ (xs : List ℤ). at xs j) (sym i.leads.values));
    }

-- the setting of a valid program is true of it
pub settings-faithful : SettingsAreFaithful
settings-faithful = record {
  each = λ p v. record {
    places = λ t r e. (valid-at p t r v e).left;
    steps = λ c s d i. step-point p v c s d i;
    costs = λ c s d i. cost-point p v c s d i;
    values = λ b based m. (rewritten-value b based).each m;
    bases = λ b based. (rewritten-numbers b).bases 1 based;
    order = λ a b h k below m. (below-sound a b h k below).each m;
  };
}

-- the facts of accepted lemmas hold
pub accepted-hold : AcceptedFactsHold
accepted-hold = record {
  each = λ p v proofs h. accepted_facts_hold.each (setting_of p) (settings-faithful.each p v) proofs h;
}

-- a polynomial that `nonlinear_at` gives is the one at the position, and has degree 2 or more
nonlinear_at-is : (qs : List Polynomial) (i : ℕ) (q : Polynomial) → nonlinear_at qs i ≡ Some q
    → (slice_get qs i ≡ Some q) × (2 ≤ degree_of q)
nonlinear_at-is [] i q e = absurd (none_some e)
  where
    none_some : None ≡ Some q → ⊥
    none_some h = cc
nonlinear_at-is (p ∷ qs) zero q e = go (is_nonlinear p) refl e
  where
    go : (b : Bool) → is_nonlinear p ≡ b → (if b then Some p else None) ≡ Some q → (Some p ≡ Some q) × (2 ≤ degree_of q)
    go true k h = (h, subst (λ (x : Polynomial). 2 ≤ degree_of x) same (let l : 2 ≤ degree_of p = grind (arith, nat_tests) in l))
      where
        same : p ≡ q
        same = cc
    go false k h = absurd (none_some h)
      where
        none_some : None ≡ Some q → ⊥
        none_some l = cc
nonlinear_at-is (p ∷ qs) (suc i) q e = nonlinear_at-is qs i q e

is-nonlinear_at : (qs : List Polynomial) (i : ℕ) (q : Polynomial) → slice_get qs i ≡ Some q → 2 ≤ degree_of q
    → nonlinear_at qs i ≡ Some q
is-nonlinear_at [] i q e l = absurd (none_some e)
  where
    none_some : None ≡ Some q → ⊥
    none_some h = cc
is-nonlinear_at (p ∷ qs) zero q e l = go (is_nonlinear p) refl
  where
    same : p ≡ q
    same = cc

    go : (b : Bool) → is_nonlinear p ≡ b → (if b then Some p else None) ≡ Some q
    go true k = e
    go false k = absurd (low (subst (λ (x : Polynomial). 2 ≤ degree_of x) (sym same) l))
      where
        low : 2 ≤ degree_of p → ⊥
        low m = grind (arith, nat_tests)
is-nonlinear_at (p ∷ qs) (suc i) q e l = is-nonlinear_at qs i q e l

-- a place has a polynomial exactly if its expanded update has degree 2 or more
pub polynomials-nonlinear : PolynomialsAreNonlinear
polynomials-nonlinear = record { each = both }
  where
    both : (p : Program) (t : ℕ) (r : Rule) → rule_at p t ≡ Some r → (i : ℕ) (q : Polynomial)
        → ((setting_of p).poly t i ≡ Some q) ↔ IsNonlinearUpdate r i q
    both p t r e i q = subst (λ (o : Option Rule). (nonlinear_at (polys_in o) i ≡ Some q) ↔ IsNonlinearUpdate r i q) (sym e) (
      (λ h. let k = nonlinear_at-is (polys_of r) i q h in record { update = k.0; degree = k.1 }),
      (λ h. is-nonlinear_at (polys_of r) i q h.update h.degree),
    )
