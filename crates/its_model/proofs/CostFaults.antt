-- The faults of the costs of uses of rules.
use Rattle.std.proofs.Common.{◌≡◌, ◌↔◌, ℕ, suc, ◌&&◌, List, [], ◌∷◌, ◌++◌, length, Bool, true, false, refl, ap, sym}
use Rattle.std.proofs.Common.{◌∙◌}
use Rattle.std.proofs.Common.{arith, nat_eq, if◌then◌else◌}
use Rattle.std.specs.Prelude.{ℤ, Option, Some, None}
use Rattle.std.proofs.lemmas.Bool.Decides.{nat_tests}
use Rattle.poly_terms.specs.model.Terms.{Term, value}
use Rattle.poly_terms.specs.model.Programs.{Atom, Always, Compare, Rule, Program, rule_at}
use Rattle.poly_terms.specs.model.Runs.{Config, Step}
use Rattle.poly_terms.specs.Checked.{values_fit}
use Rattle.its_model.specs.Steps.{StepFault, OtherRule, AtomFails, PastRange, first_of, is_related, atom_fault}
use Rattle.its_model.specs.Steps.{guard_fault, updates_fault, body_fault, found_fault}
use Rattle.its_model.specs.Costs.{written_fault, found_cost_fault, cost_fault, CostFits, HasFittingCost}
use Rattle.its_model.specs.Costs.{CostsHaveNoFault}

-- A cost without a fault fits.
written-fits : (env : List ℤ) (c : Option Term) → written_fault c env ≡ None → CostFits env c
written-fits env None h = tt
written-fits env (Some c) h = go (values_fit c env) refl h
  where
    go : (b : Bool) → values_fit c env ≡ b → (if b then None else Some PastRange) ≡ None → values_fit c env ≡ true
    go true f g = f
    go false f g = cc

-- A cost that fits has no fault.
fits-written : (env : List ℤ) (c : Option Term) → CostFits env c → written_fault c env ≡ None
fits-written env None h = refl
fits-written env (Some c) h = ap (λ (b : Bool). if b then None else Some PastRange) h

-- The faults of a cost, an atom, an update or a rule's body are never that there is no such rule.
written-isnt-other : (env : List ℤ) (c : Option Term) → written_fault c env ≡ Some OtherRule → ⊥
written-isnt-other env None h = cc
written-isnt-other env (Some c) h = go (values_fit c env) h
  where
    go : (b : Bool) → (if b then None else Some PastRange) ≡ Some OtherRule → ⊥
    go true g = cc
    go false g = cc

atom-isnt-other : (env : List ℤ) (n : ℕ) (a : Atom) → atom_fault env n a ≡ Some OtherRule → ⊥
atom-isnt-other env n Always h = cc
atom-isnt-other env n (Compare d r e) h = go (values_fit d env && values_fit e env) (is_related r (value d env) (value e env)) h
  where
    go : (a b : Bool) → (if a then (if b then None else Some (AtomFails n)) else Some PastRange) ≡ Some OtherRule → ⊥
    go true true g = cc
    go true false g = cc
    go false b g = cc

neither : (f g : Option StepFault) → (f ≡ Some OtherRule → ⊥) → (g ≡ Some OtherRule → ⊥) → first_of f g ≡ Some OtherRule → ⊥
neither None g h k e = k e
neither (Some f) g h k e = h e

guard-isnt-other : (env : List ℤ) (n : ℕ) (atoms : List Atom) → guard_fault env n atoms ≡ Some OtherRule → ⊥
guard-isnt-other env n [] h = cc
guard-isnt-other env n (a ∷ atoms) h =
    neither (atom_fault env n a) (guard_fault env (suc n) atoms) (atom-isnt-other env n a) (guard-isnt-other env (suc n) atoms) h

updates-isnt-other : (env : List ℤ) (us : List Term) → updates_fault env us ≡ Some OtherRule → ⊥
updates-isnt-other env [] h = cc
updates-isnt-other env (u ∷ us) h = go (values_fit u env) (updates-isnt-other env us) h
  where
    go : (b : Bool) → (updates_fault env us ≡ Some OtherRule → ⊥) → (if b then updates_fault env us else Some PastRange) ≡ Some OtherRule → ⊥
    go true ih g = ih g
    go false ih g = cc

body-isnt-other : (r : Rule) (env : List ℤ) → body_fault r env ≡ Some OtherRule → ⊥
body-isnt-other r env = neither (guard_fault env 1 r.guard) (updates_fault env r.updates) (guard-isnt-other env 1 r.guard) (updates-isnt-other env r.updates)

-- If neither of two faults is that there is no such rule, choosing one of them by a test agrees on whether there is.
same-other : (b : Bool) (f g : Option StepFault) → (f ≡ Some OtherRule → ⊥) → (g ≡ Some OtherRule → ⊥)
    → ((if b then f else Some OtherRule) ≡ Some OtherRule) ↔ ((if b then g else Some OtherRule) ≡ Some OtherRule)
same-other true f g h k = ((λ e. absurd (h e)), (λ e. absurd (k e)))
same-other false f g h k = ((λ e. refl), (λ e. refl))

-- The law of the faults of costs.
pub costs-have-no-fault : CostsHaveNoFault
costs-have-no-fault = record {
  no_fault = λ p c s. (fitting p c s (rule_at p s.rule) refl, none p c s);
  other_rule = λ p c s. other c s (rule_at p s.rule);
}
  where
    same : (x y : ℕ) → nat_eq x y ≡ true → x ≡ y
    same x y e = grind (arith, nat_tests)

    yes : (x y : ℕ) → x ≡ y → nat_eq x y ≡ true
    yes x y e = grind (arith, nat_tests)

    by_tests : (p : Program) (c : Config) (s : Step) (r : Rule) (a b : Bool) → rule_at p s.rule ≡ Some r → nat_eq c.at r.source ≡ a → nat_eq (length s.free) r.free ≡ b
        → (if a && b then written_fault r.cost (c.values ++ s.free) else Some OtherRule) ≡ None → HasFittingCost p c s
    by_tests p c s r true true e f g h = record {
      rule = r;
      numbered = e;
      source = same c.at r.source f;
      free_ones = same (length s.free) r.free g;
      fits = written-fits (c.values ++ s.free) r.cost h;
    }
    by_tests p c s r true false e f g h = absurd (some_none h)
      where
        some_none : Some OtherRule ≡ None → ⊥
        some_none k = cc
    by_tests p c s r false b e f g h = absurd (some_none h)
      where
        some_none : Some OtherRule ≡ None → ⊥
        some_none k = cc

    fitting : (p : Program) (c : Config) (s : Step) (o : Option Rule) → rule_at p s.rule ≡ o → found_cost_fault (rule_at p s.rule) c s.free ≡ None → HasFittingCost p c s
    fitting p c s None e h = absurd (some_none (sym (ap (λ o. found_cost_fault o c s.free) e) ∙ h))
      where
        some_none : Some OtherRule ≡ None → ⊥
        some_none k = cc
    fitting p c s (Some r) e h =
        by_tests p c s r (nat_eq c.at r.source) (nat_eq (length s.free) r.free) e refl refl (sym (ap (λ o. found_cost_fault o c s.free) e) ∙ h)

    none : (p : Program) (c : Config) (s : Step) → HasFittingCost p c s → cost_fault p c s ≡ None
    none p c s h =
        let r = h.rule in
        let written = written_fault r.cost (c.values ++ s.free) in
        ap (λ o. found_cost_fault o c s.free) h.numbered
        ∙ (ap (λ (b : Bool). if b && nat_eq (length s.free) r.free then written else Some OtherRule) (yes c.at r.source h.source)
        ∙ (ap (λ (b : Bool). if b then written else Some OtherRule) (yes (length s.free) r.free h.free_ones)
        ∙ fits-written (c.values ++ s.free) r.cost h.fits))

    other : (c : Config) (s : Step) (o : Option Rule) → (found_cost_fault o c s.free ≡ Some OtherRule) ↔ (found_fault o c s.free ≡ Some OtherRule)
    other c s None = ((λ e. refl), (λ e. refl))
    other c s (Some r) =
        same-other (nat_eq c.at r.source && nat_eq (length s.free) r.free) (written_fault r.cost (c.values ++ s.free)) (body_fault r (c.values ++ s.free))
        (written-isnt-other (c.values ++ s.free) r.cost) (body-isnt-other r (c.values ++ s.free))
