-- The steps of the program of a cost.
use Rattle.std.proofs.Common.{◌≡◌, ◌↔◌, ℕ, zero, suc, List, [], ◌∷◌, ◌++◌, refl, ap, sym, ◌∙◌, subst, arith}
use Rattle.std.specs.Prelude.{ℤ, pos, negsuc, ◌≤ℤ◌, Some}
use Rattle.std.specs.List.{AllByRecursion}
use Rattle.std.proofs.lemmas.Int.{ints}
use Rattle.poly_terms.specs.model.Terms.{Term, Literal, value}
use Rattle.poly_terms.specs.model.Programs.{AtLeast, Compare, Symbol, Rule, Program, rule_at, AtomHolds, GuardHolds}
use Rattle.poly_terms.specs.model.Runs.{Config, Step, Leads, IsStep}
use Rattle.poly_terms.specs.model.Spending.{or_zero, cost_at, cost_by, cost}
use Rattle.poly_terms.specs.model.Costs.{cost_rule, entering_cost}
use Rattle.its_model.specs.CostPrograms.{cost_program, LeadsToCost, IsCostProgram, at_cost}
use Rattle.its_model.proofs.ListLaws.{all-to, all-from}

-- A property of an appended list holds of each part.
both-hold : {X : Type 0} (P : X → Type 0) (xs ys : List X) → AllByRecursion P (xs ++ ys) → AllByRecursion P xs × AllByRecursion P ys
both-hold P [] ys h = (tt, h)
both-hold P (x ∷ xs) ys h = let rest = both-hold P xs ys h.1 in ((h.0, rest.0), rest.1)

-- A property that holds of two lists holds of the appended list.
pub joined-hold : {X : Type 0} (P : X → Type 0) (xs ys : List X) → AllByRecursion P xs → AllByRecursion P ys → AllByRecursion P (xs ++ ys)
joined-hold P [] ys h k = k
joined-hold P (x ∷ xs) ys h k = (h.0, joined-hold P xs ys h.1 k)

-- The guard of a cost rule holds if the rule's does and the cost is at least 0.
pub guard-with-cost : (r : Rule) (k : Term) (env : List ℤ) → GuardHolds env r.guard → pos 0 ≤ℤ value k env → GuardHolds env (cost_rule r k).guard
guard-with-cost r k env g l =
    all-to (AtomHolds env) (cost_rule r k).guard
    (joined-hold (AtomHolds env) r.guard (Compare k AtLeast (Literal (pos 0)) ∷ []) (all-from (AtomHolds env) r.guard g) (l, tt))

-- A cost rule leads to the cost, and to nothing else.
to-cost : (r : Rule) (k : Term) (c d : Config) (free : List ℤ) → Leads (cost_rule r k) c free d → LeadsToCost r k c free d
to-cost r k c d free h =
    let env = c.values ++ free in
    let both = both-hold (AtomHolds env) r.guard (Compare k AtLeast (Literal (pos 0)) ∷ []) (all-from (AtomHolds env) (cost_rule r k).guard h.guard) in record {
      source = h.source;
      left = h.left;
      free_ones = h.free_ones;
      guard = all-to (AtomHolds env) r.guard both.0;
      at_least_0 = both.1.0;
      target = h.target;
      cost = h.values;
    }

from-cost : (r : Rule) (k : Term) (c d : Config) (free : List ℤ) → LeadsToCost r k c free d → Leads (cost_rule r k) c free d
from-cost r k c d free h = record {
  source = h.source;
  left = h.left;
  free_ones = h.free_ones;
  guard = guard-with-cost r k (c.values ++ free) h.guard h.at_least_0;
  target = h.target;
  values = h.cost;
}

-- The only rule of a program of a cost has the number 1.
only-rule : (s : Symbol) (r q : Rule) (k : Term) (n : ℕ) → rule_at (cost_program s r k) n ≡ Some q → (n ≡ 1) × (q ≡ cost_rule r k)
only-rule s r q k zero e = cc
only-rule s r q k (suc zero) e = (refl, same e)
  where
    same : Some (cost_rule r k) ≡ Some q → q ≡ cost_rule r k
    same f = cc
only-rule s r q k (suc (suc n)) e = cc

step-of : (s : Symbol) (r : Rule) (k : Term) (c d : Config) (t : Step) → IsStep (cost_program s r k) c t d ↔ ((t.rule ≡ 1) × LeadsToCost r k c t.free d)
step-of s r k c d t = (told, taken)
  where
    told : IsStep (cost_program s r k) c t d → (t.rule ≡ 1) × LeadsToCost r k c t.free d
    told i =
        let only = only-rule s r i.rule k t.rule i.numbered in
        (only.0, to-cost r k c d t.free (subst (λ (q : Rule). Leads q c t.free d) only.1 i.leads))

    taken : (t.rule ≡ 1) × LeadsToCost r k c t.free d → IsStep (cost_program s r k) c t d
    taken h = record {
      rule = cost_rule r k;
      numbered = ap (rule_at (cost_program s r k)) h.0;
      leads = from-cost r k c d t.free h.1;
    }

-- The steps of a program of a cost are those that lead to the cost.
pub steps-of : (p q : Program) (t : ℕ) (k : IsCostProgram p t q) (c d : Config) (s : Step)
    → IsStep q c s d ↔ ((s.rule ≡ 1) × LeadsToCost k.costs.rule k.costs.cost c s.free d)
steps-of p q t k c d s =
    subst (λ (w : Program). IsStep w c s d ↔ ((s.rule ≡ 1) × LeadsToCost k.costs.rule k.costs.cost c s.free d)) (sym k.program)
    (step-of k.symbol k.costs.rule k.costs.cost c d s)

-- A nonnegative integer is its nonnegative part.
counted : (z : ℤ) → pos 0 ≤ℤ z → pos (or_zero z) ≡ z
counted (pos n) l = refl
counted (negsuc n) l = absurd (omega (arith, ints, l))

-- A step of the program with a nonnegative cost leads to its cost in the cost's program.
pub charged-of : (p q : Program) (t : ℕ) (k : IsCostProgram p t q) (c d : Config) (free : List ℤ)
    → IsStep p c (record { rule = t; free = free }) d → pos 0 ≤ℤ value k.costs.cost (c.values ++ free)
    → IsStep q (entering_cost c) (record { rule = 1; free = free }) (at_cost (pos (cost p t (c.values ++ free))))
charged-of p q t k c d free i l =
    let r = k.costs.rule in
    let env = c.values ++ free in
    let leads : Leads r c free d = subst (λ (w : Rule). Leads w c free d) (let g : Some i.rule ≡ Some r = sym i.numbered ∙ k.costs.numbered in cc) i.leads in
    let amount : pos (cost p t env) ≡ value k.costs.cost env =
    ap pos (ap (λ o. cost_by o env) k.costs.numbered ∙ ap (λ o. cost_at o env) k.costs.written) ∙ counted (value k.costs.cost env) l in
    (steps-of p q t k (entering_cost c) (at_cost (pos (cost p t env))) (record { rule = 1; free = free })).1 (
      refl,
      record {
        source = refl;
        left = leads.left;
        free_ones = leads.free_ones;
        guard = leads.guard;
        at_least_0 = l;
        target = refl;
        cost = ap (λ (z : ℤ). z ∷ []) amount;
      },
    )
