-- Each step of a valid program is a point of its rule's rows.
use Rattle.std.proofs.Common.{◌≡◌, ℕ, zero, suc, ◌+◌, ◌≤◌, List, [], ◌∷◌, ◌++◌, length, ap, sym, ◌∙◌, subst, arith}
use Rattle.std.specs.Prelude.{ℤ, ◌≤ℤ◌, pos, Some, slice_get}
use Rattle.std.specs.List.{AllByRecursion}
use Rattle.std.proofs.lemmas.List.{length-append, get_or_append_left}
use Rattle.poly_terms.specs.model.Terms.{Term, Literal, value}
use Rattle.poly_terms.specs.model.Programs.{AtLeast, Compare, Symbol, Rule, Program, rule_at, arity_in, GuardHolds}
use Rattle.poly_terms.specs.model.Runs.{Config, Leads}
use Rattle.poly_terms.specs.model.Costs.{cost_rule}
use Rattle.its_model.specs.Valid.{cost_atoms, IsValidTerm, IsValidCost, IsValidAtom, IsValid, IsValidSymbol}
use Rattle.guard_prep.specs.Laws.{IsPreparable, ValidRulesArePreparable, nonlinear_values, point_of, IsPointOfStep}
use Rattle.guard_prep.specs.Laws.{StepsArePoints, IsPointOfCost, CostsArePoints}
use Rattle.its_model.proofs.CostTerms.{at-least-zero}
use Rattle.its_model.proofs.CostSteps.{joined-hold, guard-with-cost}
use Rattle.guard_prep.proofs.PointLaws.{nonlinear-length, guards-give-points}
pub use Rattle.its_model.proofs.ValidLaws.{rule-valid as valid-at}

-- no symbol of a valid program has more than 32 places
pub few-places : (symbols : List Symbol) (s : ℕ) → AllByRecursion IsValidSymbol symbols → arity_in (slice_get symbols s) ≤ 32
few-places [] s h = omega arith
few-places (x ∷ symbols) zero h = h.0.arity
few-places (x ∷ symbols) (suc s) h = few-places symbols s h.1

-- the rules of a valid program are preparable
pub preparable : (p : Program) (t : ℕ) (r : Rule) → IsValid p → rule_at p t ≡ Some r → IsPreparable r
preparable p t r v e =
    let h = valid-at p t r v e in record {
      few_variables = h.few_variables;
      few_atoms = omega (arith, h.few_atoms);
      few_updates = omega (arith, h.places, few-places p.symbols r.target v.symbols);
      guard = h.guard;
      updates = h.updates;
    }

-- all rules of a valid program are preparable
pub rules-are-preparable : ValidRulesArePreparable
rules-are-preparable = record { each = preparable }

-- a step of a preparable rule is a point of its rows
pub leads-point : (r : Rule) (c d : Config) (free : List ℤ) → IsPreparable r → Leads r c free d → IsPointOfStep r c d (point_of r (c.values ++ free))
leads-point r c d free h leads =
    let env = c.values ++ free in
    let l : length env ≡ r.left + r.free = length-append c.values free ∙ (λ j. leads.left j + leads.free_ones j) in record {
      unknowns = length-append env (nonlinear_values r.updates env) ∙ (λ j. l j + nonlinear-length r.updates env j);
      point = guards-give-points.point r env h l leads.guard;
      left = λ j n. get_or_append_left env (nonlinear_values r.updates env) (pos 0) j (omega (arith, n, length-append c.values free))
          ∙ get_or_append_left c.values free (pos 0) j n;
      new_values = guards-give-points.new_values r env h l ∙ sym leads.values;
    }

-- each step of a valid program is a point of its rule's rows
pub steps-are-points : StepsArePoints
steps-are-points = record { each = λ p c d s v i. leads-point i.rule c d s.free (preparable p s.rule i.rule v i.numbered) i.leads }

-- the cost rule of a valid rule is preparable
cost-preparable : (p : Program) (t : ℕ) (r : Rule) (k : Term) → IsValid p → rule_at p t ≡ Some r → r.cost ≡ Some k → IsPreparable (cost_rule r k)
cost-preparable p t r k v e f =
    let h = valid-at p t r v e in
    let valid : IsValidTerm (r.left + r.free) k = subst (IsValidCost (r.left + r.free)) f h.cost in record {
      few_variables = h.few_variables;
      few_atoms = omega (arith, h.few_atoms, ap cost_atoms f, length-append r.guard (Compare k AtLeast (Literal (pos 0)) ∷ []));
      few_updates = omega arith;
      guard = joined-hold (IsValidAtom (r.left + r.free)) r.guard (Compare k AtLeast (Literal (pos 0)) ∷ []) h.guard (at-least-zero (r.left + r.free) k valid, tt);
      updates = (valid, tt);
    }

-- if the guard of the rule holds and the cost isn't negative, the cost rule's rows have a point
cost-point : (p : Program) (t : ℕ) (r : Rule) (k : Term) (env : List ℤ) → IsValid p → rule_at p t ≡ Some r → r.cost ≡ Some k
    → length env ≡ r.left + r.free → GuardHolds env r.guard → pos 0 ≤ℤ value k env → IsPointOfCost r k env
cost-point p t r k env v e f l g n =
    let h = cost-preparable p t r k v e f in record {
      point = guards-give-points.point (cost_rule r k) env h l (guard-with-cost r k env g n);
      new_values = guards-give-points.new_values (cost_rule r k) env h l;
    }

-- steps by cost rules are points of their rows
pub costs-are-points : CostsArePoints
costs-are-points = record {
  preparable = cost-preparable;
  points = cost-point;
  steps = λ p t r k c d free v e f leads. leads-point (cost_rule r k) c d free (cost-preparable p t r k v e f) leads;
}
