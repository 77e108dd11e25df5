-- The prepared rows of the cost rules of a program's rules, by the rules' numbers.
use Rattle.std.proofs.Common.{◌≡◌, ℕ, ◌+◌, ◌-◌, ◌<◌, ◌≤◌, List, length, get_or}
use Rattle.std.proofs.Common.{Option, None, sym, ◌∙◌, subst, arith}
use Rattle.std.proofs.lemmas.List.{get_or_default}
use Rattle.guard_prep.specs.declared.rule_rows.RuleRows.{RuleRows}
use Rattle.model.specs.Programs.{Program}
use Rattle.cert_context.specs.CostRows.{ArePreparedCostRules, StatesCost}

-- the prepared rows of the cost rules of the rules before a position
pub record AreCostsSoFar (p : Program) (i : ℕ) (prepared_rules : List (Option RuleRows)) : Type 0 where
  pub long : length prepared_rules ≡ i
  pub each : (n : ℕ) → n < i → StatesCost p (n + 1) (get_or prepared_rules n None)

module _ (p : Program) (prepared_rules : List (Option RuleRows)) (h : ArePreparedCostRules p prepared_rules) (t : ℕ) where
  -- the answer at the position of a rule is right for that rule
  pub cost-sound : (o : Option RuleRows) → 0 < t → t ≤ length p.rules → o ≡ get_or prepared_rules (t - 1) o → StatesCost p t o
  cost-sound o l m e =
      let low : t - 1 < length prepared_rules = omega (arith, l, m, h.long) in
      let same : o ≡ get_or prepared_rules (t - 1) None = e ∙ get_or_default prepared_rules (t - 1) o None low in
      subst (StatesCost p t) (sym same)
      (subst (λ (n : ℕ). StatesCost p n (get_or prepared_rules (t - 1) None)) (let whole : t - 1 + 1 ≡ t = omega (arith, l) in whole)
      (h.each (t - 1) low))
