-- Properties of every valid program.
use Rattle.std.proofs.Common.{◌≡◌, ℕ, zero, suc, List, [], ◌∷◌, Some, None, subst, slice_get}
use Rattle.std.specs.List.{AllByRecursion}
use Rattle.poly_terms.specs.model.Programs.{Program, Rule, rule_at}
use Rattle.its_model.specs.Valid.{IsValidRule, IsValid}
use Rattle.its_model.specs.ValidLaws.{AritiesOfValidAgree}

-- A property of each element holds of the one at a position.
pub holds-at : {X : Type 0} (P : X → Type 0) (xs : List X) (i : ℕ) (x : X) → AllByRecursion P xs
    → slice_get xs i ≡ Some x → P x
holds-at P [] i x h e = absurd (none_some e)
  where
    none_some : None ≡ Some x → ⊥
    none_some k = cc
holds-at P (y ∷ ys) zero x h e = subst P (same e) h.0
  where
    same : Some y ≡ Some x → y ≡ x
    same k = cc
holds-at P (y ∷ ys) (suc i) x h e = holds-at P ys i x h.1 e

-- The rule with a number is valid.
pub rule-valid : (p : Program) (t : ℕ) (r : Rule) → IsValid p → rule_at p t ≡ Some r → IsValidRule p r
rule-valid p zero r h e = absurd (none_some e)
  where
    none_some : None ≡ Some r → ⊥
    none_some k = cc
rule-valid p (suc t) r h e = holds-at (IsValidRule p) p.rules t r h.rules e

-- The numbers of places, updates and left variables agree in a valid program.
pub arities_agree : AritiesOfValidAgree
arities_agree = λ p h. record {
  updates = λ t r e. (rule-valid p t r h e).places;
  left = λ t r e. (rule-valid p t r h e).left;
}
