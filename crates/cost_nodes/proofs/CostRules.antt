-- The prepared rows of a rule's cost rule are those that the rule's setting has for its cost.
use Rattle.std.proofs.Common.{◌≡◌, ℕ, zero, suc, ◌+◌, ◌<◌, ◌≤◌, Bool, true, false, [], ◌∷◌, length, map, Option}
use Rattle.std.proofs.Common.{Some, None}
use Rattle.std.proofs.Common.{option_map, refl, sym, ap, ◌∙◌, subst, arith}
use Rattle.std.specs.List.{AllByRecursion}
use denote.Ref.{Bor}
use Rattle.std.specs.Prelude.{if◌then◌else◌}
use Rattle.std.proofs.lemmas.List.{length-map}
use Rattle.std.proofs.lemmas.Option.{slice_get_within}
use Rattle.its_graph.specs.Graphs.{IsGraphOf}
use Rattle.its_graph.specs.Links.{ends_of}
use Rattle.its_graph.specs.declared.graph.Graph.{Graph}
use Rattle.poly_terms.specs.Views.{form_of, poly_of}
use Rattle.poly_terms.specs.declared.poly.Poly.{Poly}
use Rattle.guard_prep.specs.Laws.{IsPreparable}
use Rattle.guard_prep.specs.Prepared.{Prepared, is_nonlinear, new_values_from, unknowns_of}
use Rattle.guard_prep.specs.declared.rule_rows.RuleRows.{RuleRows}
use Rattle.guard_prep.proofs.StepLaws.{costs-are-points}
use Rattle.its_model.specs.Valid.{IsValid}
use Rattle.model.specs.Costs.{HasCost, cost_rule}
use Rattle.model.specs.Polynomials.{Polynomial}
use Rattle.model.specs.Programs.{Program, Rule, rule_at}
use Rattle.poly_terms.specs.Expanding.{expanded, variable_form}
use Rattle.poly_terms.specs.AffineForms.{HasVariablesBelow, linear_form}
use Rattle.cert_types.specs.Composing.{HasFewPlaces, optional_poly}
use Rattle.cert_types.specs.cert_rules.AcceptsSizes.{left_in, left_of}
use Rattle.cert_types.specs.cert_rules.Combined.{form_at}
use Rattle.cert_types.specs.cert_program.Setting.{nonlinear_at, cost_rule_at, cost_rule_in, polys_in, setting_of}
use Rattle.size_nodes.proofs.ProgramMembers.{few-places, updates-below}
use Rattle.cost_nodes.specs.CostRules.{IsPreparedCostRule}

-- the only new value of a rule is its first
pub one-new : (w k : ℕ) (q : Polynomial) → new_values_from w k (q ∷ []) ≡ form_at (new_values_from w k (q ∷ [])) 0 ∷ []
one-new w k q = go (is_nonlinear q)
  where
    go : (v : Bool) → (if v then linear_form w (variable_form k) ∷ new_values_from w (suc k) [] else linear_form w q ∷ new_values_from w k [])
        ≡ form_at (if v then linear_form w (variable_form k) ∷ new_values_from w (suc k) [] else linear_form w q ∷ new_values_from w k []) 0 ∷ []
    go true = refl
    go false = refl

-- the cost rule of a rule with a cost
pub cost-rule-is : (p : Program) (t : ℕ) (h : HasCost p t) → cost_rule_at p t ≡ Some (cost_rule h.rule h.cost)
cost-rule-is p t h = ap cost_rule_in h.numbered ∙ ap (option_map (λ c. cost_rule h.rule c)) h.written

-- a rule with a cost is a rule of the graph
pub cost-linked : (p : Program) (t : ℕ) → HasCost p t → (g : Graph) → IsGraphOf g p → (0 < t) × (t ≤ length g.links.items)
cost-linked p t h g k = go t h.numbered
  where
    go : (u : ℕ) → rule_at p u ≡ Some h.rule → (0 < u) × (u ≤ length g.links.items)
    go zero e = absurd (none e)
      where
        none : None ≡ Some h.rule → ⊥
        none d = cc
    go (suc u) e =
        let l = slice_get_within p.rules u h.rule e in
        let n = ap length k.links ∙ length-map p.rules ends_of in
        (omega arith, omega (arith, l, n))

-- the cost rule of a rule of a valid program is preparable
pub cost-rule-fits : (p : Program) (t : ℕ) (h : HasCost p t) → IsValid p → IsPreparable (cost_rule h.rule h.cost)
cost-rule-fits p t h v = costs-are-points.preparable p t h.rule h.cost v h.numbered h.written

module _ (p : Program) (t : ℕ) (m : RuleRows) (h : IsPreparedCostRule p t m) where
  -- the cost rule has one new value
  pub cost-single : length m.new_values.items ≡ 1
  cost-single =
      sym (length-map m.new_values.items form_of)
      ∙ ap length (ap (λ (x : Prepared). x.new_values) h.same
      ∙ one-new (unknowns_of (cost_rule h.costs.rule h.costs.cost)) (h.costs.rule.left + h.costs.rule.free) (expanded h.costs.cost))

  -- the cost rule has as many left variables as the rule
  pub cost-lefts : m.left ≡ left_of p t
  cost-lefts = ap (λ (x : Prepared). x.left) h.same ∙ sym (ap left_in h.costs.numbered)

  -- the polynomial of the cost, at the cost rule's only place, if it has degree 2 or more
  pub cost-poly : nonlinear_at (map poly_of m.polys.items) 0 ≡ (setting_of p).cost_poly t
  cost-poly =
      ap (λ (x : Prepared). nonlinear_at x.polys 0) h.same
      ∙ sym (ap (λ (o : Option Rule). nonlinear_at (polys_in o) 0) (cost-rule-is p t h.costs))

  module _ (v : IsValid p) where
    -- the polynomial of the cost reads few places
    pub cost-few : (o : Option (Bor Poly)) → optional_poly o ≡ nonlinear_at (map poly_of m.polys.items) 0 → HasFewPlaces o
    cost-few o seen =
        let q = cost-rule-fits p t h.costs v in
        few-places (h.costs.rule.left + h.costs.rule.free) o (map poly_of m.polys.items) 1 q.few_variables
        (subst (λ (x : Prepared). AllByRecursion (HasVariablesBelow (h.costs.rule.left + h.costs.rule.free)) x.polys) (sym h.same)
        (updates-below (h.costs.rule.left + h.costs.rule.free) (h.costs.cost ∷ []) q.updates))
        seen

    -- the cost rule has few left variables
    pub cost-left : m.left ≤ 64
    cost-left = omega (arith, ap (λ (x : Prepared). x.left) h.same, (cost-rule-fits p t h.costs v).few_variables)
