-- The setting of the rule with the cost A is true of it.
use Rattle.std.proofs.Common.{◌≡◌, ℕ, zero, suc, List, [], ◌++◌, Some, None, refl, sym, ap, subst, arith}
use Rattle.std.specs.Prelude.{ℤ, pos, ◌≤ℤ◌}
use Rattle.std.proofs.lemmas.Int.{ints}
use Rattle.std.proofs.lemmas.List.Elements.{All-nil, All-cons, All-head}
use Rattle.run_counting.specs.model.Terms.{Term, Literal, Variable}
use Rattle.run_counting.specs.model.Programs.{Rule, rule_at, arity_of, AtLeast, Atom, Compare, AtomHolds}
use Rattle.run_counting.specs.model.Runs.{Config, Leads}
use Rattle.run_counting.specs.model.Costs.{cost_rule, entering_cost}
use Rattle.run_counting.specs.model.Polynomials.{Polynomial, polynomial_value}
use Rattle.rule_forms.specs.linear_forms.Forms.{Form, at, form_value}
use Rattle.cert_rules.specs.Combined.{form_at}
use Rattle.cert_rules.specs.Setting.{costs_of, StepPoint, IsFaithful}
use Rattle.cert_rules.specs.WorkedCosts.{form_of_A, paying_rule, paying}
use Rattle.cert_rules.proofs.WorkedFaithful.{folded_val, folded-based, zero_first, first_in_env}

-- a step by the rule is a point of its rows
pays_at : (c : Config) (free : List ℤ) (d : Config) → Leads paying_rule c free d → StepPoint paying 1 c free d
pays_at c free d h = record {
  z = λ j. at c.values j;
  point = record {
    denominator = omega (arith, ints);
    meets = record { each = All-nil (λ (r : Form). pos 0 ≤ℤ form_value r (λ j. at c.values j) (pos 1)) };
  };
  left = λ j l. refl;
  new_values = λ i. by i;
  nonlinear = λ i q e. absurd (none_some q e);
}
  where
    none_some : (q : Polynomial) → None ≡ Some q → ⊥
    none_some q e = cc

    by : (i : ℕ) → form_value (form_at (paying.new_values 1) i) (λ j. at c.values j) (pos 1) ≡ at d.values i
    by zero = omega (arith, ints, ap (λ (xs : List ℤ). at xs 0) h.values, first_in_env c.values free h.left)
    by (suc i) = sym (ap (λ (xs : List ℤ). at xs (suc i)) h.values)

-- a step by its cost rule is a point of the cost rows
costs_at : (c : Config) (free : List ℤ) (d : Config) → Leads (cost_rule paying_rule (Variable 0)) (entering_cost c) free d
    → StepPoint (costs_of paying) 1 c free d
costs_at c free d h = record {
  z = λ j. at c.values j;
  point = record { denominator = omega (arith, ints); meets = record { each = All-cons P form_of_A [] above (All-nil P) } };
  left = λ j l. refl;
  new_values = λ i. by i;
  nonlinear = λ i q e. flat i q e;
}
  where
    P : Form → Type 0
    P r = pos 0 ≤ℤ form_value r (λ j. at c.values j) (pos 1)

    atom : Atom
    atom = Compare (Variable 0) AtLeast (Literal (pos 0))

    guard : pos 0 ≤ℤ at (c.values ++ free) 0
    guard = All-head (AtomHolds (c.values ++ free)) atom [] h.guard

    above : pos 0 ≤ℤ form_value form_of_A (λ j. at c.values j) (pos 1)
    above = omega (arith, ints, guard, first_in_env c.values free h.left)

    flat : (i : ℕ) (q : Polynomial) → (costs_of paying).poly 1 i ≡ Some q
        → polynomial_value q (c.values ++ free) ≡ at d.values i
    flat zero q e = absurd (none_some e)
      where
        none_some : None ≡ Some q → ⊥
        none_some x = cc
    flat (suc i) q e = absurd (none_some e)
      where
        none_some : None ≡ Some q → ⊥
        none_some x = cc

    by : (i : ℕ) → form_value (form_at ((costs_of paying).new_values 1) i) (λ j. at c.values j) (pos 1) ≡ at d.values i
    by zero = omega (arith, ints, ap (λ (xs : List ℤ). at xs 0) h.values, first_in_env c.values free h.left)
    by (suc i) = sym (ap (λ (xs : List ℤ). at xs (suc i)) h.values)

-- a property of the only rule of the program is one of each rule
module _ (P : ℕ → Rule → Type 0) (here : P 1 paying_rule) where
  only_rule : (t : ℕ) (r : Rule) → rule_at paying.program t ≡ Some r → P t r
  only_rule zero r e = absurd (none_some e)
    where
      none_some : None ≡ Some r → ⊥
      none_some x = cc
  only_rule (suc zero) r e = subst (λ (q : Rule). P 1 q) same here
    where
      same : paying_rule ≡ r
      same = cc
  only_rule (suc (suc t)) r e = absurd (none_some e)
    where
      none_some : None ≡ Some r → ⊥
      none_some x = cc

-- the cost that is written at the rule is A
written : (cost : Term) → paying_rule.cost ≡ Some cost → Variable 0 ≡ cost
written cost e = cc

-- the setting is true of the program
pub paying_is_faithful : IsFaithful paying
paying_is_faithful = record {
  places = λ t r e. only_rule (λ u q. q.left ≡ arity_of paying.program q.source) refl t r e;
  steps = λ c step d h.
      only_rule (λ u q. Leads q c step.free d → StepPoint paying u c step.free d) (λ k. pays_at c step.free d k)
      step.rule h.rule h.numbered h.leads;
  costs = λ c step d h.
      only_rule (λ u q. (cost : Term) → q.cost ≡ Some cost → Leads (cost_rule q cost) (entering_cost c) step.free d
      → StepPoint (costs_of paying) u c step.free d)
      (λ cost e k. costs_at c step.free d
      (subst (λ (x : Term). Leads (cost_rule paying_rule x) (entering_cost c) step.free d) (sym (written cost e)) k))
      step.rule h.rule h.numbered h.cost h.written h.leads;
  values = λ b based m. folded_val b m;
  bases = λ b based. folded-based b based;
  order = λ a b h k below m. zero_first a b below m;
}
