-- The prepared rows of a cost rule are those that the program's setting has of the cost, and its side bounds can be
-- read as bounds.
use Rattle.std.proofs.Common.{◌≡◌, ℕ, zero, suc, ◌+◌, [], ◌∷◌, length, Option}
use Rattle.std.proofs.Common.{refl, sym, ap, ◌∙◌, arith}
use Rattle.std.proofs.lemmas.List.{length-map}
use Rattle.cert_types.specs.cert_rules.AcceptsCosts.{HasCostNumbers}
use Rattle.poly_terms.specs.Views.{form_of}
use Rattle.cert_types.specs.Composing.{IsReadable}
use Rattle.cert_types.specs.Views.{side_bound_of}
use Rattle.cert_types.specs.declared.side_bound.SideBound.{SideBound}
use Rattle.cert_types.specs.declared.side_bound.SideBound.TheVariants as side_bounds
use Rattle.cert_types.specs.cert_rules.Nodes as plain
use Rattle.check_sizes.specs.SideBounds.{HasSideBoundNumbers}
use Rattle.guard_prep.specs.Prepared.{Prepared, unknowns_of}
use Rattle.guard_prep.specs.declared.rule_rows.RuleRows.{RuleRows}
use Rattle.its_model.specs.Valid.{IsValid}
use Rattle.model.specs.Costs.{cost_rule}
use Rattle.model.specs.Polynomials.{Polynomial}
use Rattle.model.specs.Programs.{Program, Rule}
use Rattle.poly_terms.specs.Expanding.{expanded}
use Rattle.cert_types.specs.cert_rules.Combined.{form_at}
use Rattle.cert_types.specs.cert_rules.Setting.{costs_of, only_place}
use Rattle.cert_types.specs.cert_program.Setting.{nonlinear_at, new_values_in, polys_in, rows_in, setting_of}
use Rattle.cert_context.specs.SuitedRows.{IsPreparedRuleOf, SuitsSideBounds}
use Rattle.cert_context.proofs.SuitedRows.{suits-side_bounds}
use Rattle.cost_nodes.specs.CostRules.{IsPreparedCostRule}
use Rattle.cost_nodes.proofs.CostRules.{cost-left, cost-lefts, cost-rule-fits, cost-rule-is, one-new}
use Rattle.check_sizes.specs.Costs.{HasNumbersBy}
use Rattle.check_sizes.proofs.SideBoundsOver.{numbers-shape, shape-numbers}

module _ (p : Program) (t : ℕ) (m : RuleRows) (h : IsPreparedCostRule p t m) where
  -- the update at a position of a cost rule is the cost at the only place
  only : (q : Polynomial) (i : ℕ) → nonlinear_at (q ∷ []) i ≡ only_place (nonlinear_at (q ∷ []) 0) i
  only q zero = refl
  only q (suc i) = refl

  -- the prepared rows are those that the setting of the costs has for the rule
  pub cost-own : IsPreparedRuleOf (costs_of (setting_of p)) t m
  cost-own = record {
    rows = ap (λ (x : Prepared). x.rows) h.same ∙ sym (ap rows_in (cost-rule-is p t h.costs));
    new_values = ap (λ (x : Prepared). x.new_values) h.same
        ∙ (one-new (unknowns_of (cost_rule h.costs.rule h.costs.cost)) (h.costs.rule.left + h.costs.rule.free) (expanded h.costs.cost)
        ∙ sym (ap (λ (o : Option Rule). form_at (new_values_in o) 0 ∷ []) (cost-rule-is p t h.costs)));
    polys = λ i. ap (λ (x : Prepared). nonlinear_at x.polys i) h.same
        ∙ (only (expanded h.costs.cost) i
        ∙ sym (ap (λ (o : Option Rule). only_place (nonlinear_at (polys_in o) 0) i) (cost-rule-is p t h.costs)));
    left = cost-lefts p t m h;
  }

  -- the prepared rows of a cost rule suit side bounds
  pub cost-side_bounds : IsValid p → SuitsSideBounds m
  cost-side_bounds v = suits-side_bounds (cost_rule h.costs.rule h.costs.cost) m (cost-rule-fits p t h.costs v) h.same

  -- there are as many prepared rows as the setting of the costs has for the rule
  rows-count : length m.rows.items ≡ length ((costs_of (setting_of p)).rows t)
  rows-count = sym (length-map m.rows.items form_of) ∙ ap length cost-own.rows

  pub by-numbers : (by : plain.CostBy) → HasNumbersBy (length m.rows.items) m.left by → HasCostNumbers (setting_of p) t by
  by-numbers (plain.EmptyCost ms) k = record { long = k.one_each ∙ rows-count; limit = k.within }
  by-numbers plain.NeverCost k = tt
  by-numbers (plain.SideBoundCost side_bound) k = numbers-shape (costs_of (setting_of p)) t m cost-own side_bound k

  pub numbers-by : (by : plain.CostBy) → HasCostNumbers (setting_of p) t by → HasNumbersBy (length m.rows.items) m.left by
  numbers-by (plain.EmptyCost ms) k = record { one_each = k.long ∙ sym rows-count; within = k.limit }
  numbers-by plain.NeverCost k = tt
  numbers-by (plain.SideBoundCost side_bound) k = shape-numbers (costs_of (setting_of p)) t m cost-own side_bound k

  -- a side bound with numbers of the right shape can be read as a bound
  pub cost-readable : IsValid p → (side_bound : SideBound)
      → HasSideBoundNumbers (length m.rows.items) m.left (side_bound_of side_bound) → IsReadable side_bound
  cost-readable v (side_bounds.Linear den coefs constant multipliers) k = (k.over, omega (arith, k.long, cost-left p t m h v))
  cost-readable v side_bounds.Poly k = tt
