-- Costs that are written in rules, and the only rule of a program with one rule.
use Rattle.std.proofs.Common.{◌≡◌, ℕ, zero, suc, ◌-◌, ◌<◌, ◌≤◌, List, [], ◌∷◌, length, map, get_or}
use Rattle.std.proofs.Common.{Some, None, sym, ap, ◌∙◌, arith}
use Rattle.std.proofs.lemmas.List.{length-map}
use Rattle.std.proofs.lemmas.Option.{slice_get_within}
use Rattle.guard_prep.specs.Laws.{IsPreparable}
use Rattle.guard_prep.proofs.StepLaws.{preparable}
use Rattle.its_model.specs.Valid.{IsValid}
use Rattle.its_model.specs.Views.{program_of, rule_of}
use Rattle.its_model.specs.declared.program.Program as code
use Rattle.its_model.specs.declared.program.Rule as code_rule
use Rattle.model.specs.Costs.{HasCost}
use Rattle.model.specs.Programs.{Program, Rule, rule_at}
use Rattle.model.proofs.Cases.{some_same as some-same}
use Rattle.cert_types.proofs.Rules.{rule_here}
use Rattle.cert_types.specs.cert_rules.AcceptsPlain.{IsRule}
use Rattle.cost_nodes.specs.CostRules.{IsWritten}

-- a rule of the code of a valid program is preparable
pub rule-preparable : (p : code.Program) (i : ℕ) (r : code_rule.Rule) → IsValid (program_of p)
    → i < length p.rules.items → r ≡ get_or p.rules.items i r → IsPreparable (rule_of r)
rule-preparable p i r v l e =
    preparable (program_of p) (suc i) (rule_of r) v
    (rule_here p (suc i) r (omega arith) (omega (arith, l))
    (e ∙ ap (λ (j : ℕ). get_or p.rules.items j r) (let k : i ≡ suc i - 1 = omega arith in k)))

-- the rule at index t - 1 is rule t
pub rule-at : (p : code.Program) (t : ℕ) (r : code_rule.Rule) → IsRule (program_of p) t → r ≡ get_or p.rules.items (t - 1) r
    → rule_at (program_of p) t ≡ Some (rule_of r)
rule-at p t r is e = let l = within t is.numbered in rule_here p t r l.0 l.1 e
  where
    within : (u : ℕ) → rule_at (program_of p) u ≡ Some is.rule → (0 < u) × (u ≤ length p.rules.items)
    within zero k = absurd (none k)
      where
        none : None ≡ Some is.rule → ⊥
        none d = cc
    within (suc u) k =
        let l = slice_get_within (program_of p).rules u is.rule k in
        (omega arith, omega (arith, l, length-map p.rules.items rule_of))

module _ (p : Program) (t : ℕ) (r : code_rule.Rule) (e : rule_at p t ≡ Some (rule_of r)) where
  -- a rule whose cost is written has a cost
  pub cost-there : IsWritten (rule_of r).cost → HasCost p t
  cost-there w = record { rule = rule_of r; numbered = e; cost = w.0; written = w.1 }

  -- a rule that has a cost has a written cost
  pub cost-written : HasCost p t → IsWritten (rule_of r).cost
  cost-written h = (
    h.cost,
    ap (λ (x : Rule). x.cost) (some-same (rule_of r) h.rule (sym e ∙ h.numbered)) ∙ h.written,
  )

-- a list of rules whose plain data are one rule has length 1
pub one-rule : (rs : List code_rule.Rule) (x : Rule) → map rule_of rs ≡ x ∷ [] → length rs ≡ 1
one-rule rs x e = sym (length-map rs rule_of) ∙ ap length e

pub first-rule : (rs : List code_rule.Rule) (r : code_rule.Rule) (x : Rule) → map rule_of rs ≡ x ∷ [] → r ≡ get_or rs 0 r
    → rule_of r ≡ x
first-rule [] r x e f = absurd (let no : ⊥ = cc in no)
first-rule (y ∷ rs) r x e f = ap rule_of f ∙ head (rule_of y) x (map rule_of rs) e
  where
    head : (a b : Rule) (rest : List Rule) → a ∷ rest ≡ b ∷ [] → a ≡ b
    head a b rest k = cc
