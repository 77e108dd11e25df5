-- Elements at positions, and the charges of costs, one rule after the other.
use Rattle.std.proofs.Common.{◌≡◌, ◌+◌, ◌<◌, ◌≤◌, ◌++◌, ◌∙◌, ℕ, suc, List, [], ◌∷◌, length, map, get_or, drop, sym, ap}
use Rattle.std.proofs.Common.{add-one, append_assoc}
use Rattle.std.proofs.lemmas.List.{drop_more, drop_all, map-append, append-nil}
use Rattle.its_model.specs.declared.program.Rule as code_rule
use Rattle.its_model.specs.Views.{rule_of}
use Rattle.potential_nodes.specs.potentials.Sums as sums
use Rattle.potential_nodes.specs.Costs.{cost_form}
use Rattle.potential_types.specs.declared.facts.Charge.{Charge}
use Rattle.potential_types.specs.Views.{charge_of}
use Rattle.program_claims.specs.Copies.{charge_by, cost_charges}

-- a list from a position on is what stands there, and the rest
pub drop-item : {X : Type 0} (xs : List X) (i : ℕ) (x : X) → i < length xs → x ≡ get_or xs i x
    → drop i xs ≡ x ∷ drop (i + 1) xs
drop-item xs i x low e = drop_more xs i x low ∙ ap (λ y. y ∷ drop (i + 1) xs) (sym e)

-- the charges of costs from a rule on
pub costs-step : (rules : List code_rule.Rule) (i : ℕ) (r : code_rule.Rule) (old new : List Charge) (c : Charge)
    (all : List sums.Charge) → i < length rules → r ≡ get_or rules i r → new ≡ old ++ c ∷ []
    → charge_of c ≡ charge_by (cost_form (rule_of r).cost) (i + 1)
    → map charge_of old ++ cost_charges (i + 1) (map rule_of (drop i rules)) ≡ all
    → map charge_of new ++ cost_charges (i + 1 + 1) (map rule_of (drop (i + 1) rules)) ≡ all
costs-step rules i r old new c all low e n k h =
    ap (λ (cs : List Charge). map charge_of cs ++ cost_charges (i + 1 + 1) (map rule_of (drop (i + 1) rules))) n
    ∙ (ap (λ (cs : List sums.Charge). cs ++ cost_charges (i + 1 + 1) (map rule_of (drop (i + 1) rules)))
    (map-append charge_of old (c ∷ []))
    ∙ (append_assoc (map charge_of old) (charge_of c ∷ []) (cost_charges (i + 1 + 1) (map rule_of (drop (i + 1) rules)))
    ∙ (ap (λ (t : ℕ). map charge_of old ++ charge_of c ∷ cost_charges t (map rule_of (drop (i + 1) rules))) (add-one
    (i + 1))
    ∙ (ap (λ (d : sums.Charge). map charge_of old
    ++ d ∷ cost_charges (suc (i + 1)) (map rule_of (drop (i + 1) rules))) k
    ∙ (ap (λ (rs : List code_rule.Rule). map charge_of old
    ++ cost_charges (i + 1) (map rule_of rs)) (sym (drop-item rules i r low e))
    ∙ h)))))

pub costs-done : (rules : List code_rule.Rule) (i : ℕ) (found : List Charge) (all : List sums.Charge) → length rules ≤ i
    → map charge_of found ++ cost_charges (i + 1) (map rule_of (drop i rules)) ≡ all → map charge_of found ≡ all
costs-done rules i found all low h =
    sym (append-nil (map charge_of found))
    ∙ (ap (λ (rs : List code_rule.Rule). map charge_of found
    ++ cost_charges (i + 1) (map rule_of rs)) (sym (drop_all i rules low)) ∙ h)
