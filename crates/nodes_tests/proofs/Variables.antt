-- Lists of variables and of monomials that are written out are within the limits, one by one.
use Rattle.std.proofs.Common.{ℕ, ◌<◌, ◌^◌, [], ◌∷◌, All}
use Rattle.std.proofs.lemmas.List.Elements.{All-nil, All-cons}
use Rattle.poly_terms.specs.declared.poly.Monomial.{Monomial}
use Rattle.cert_types.specs.Composing.{HasFewVariables}

-- a list of two variables is within the limits
pub few_variables : (a b : ℕ) → a < 2 ^ 31 → b < 2 ^ 31 → All (λ v. v < 2 ^ 31) (a ∷ b ∷ [])
few_variables a b h k = All-cons (λ v. v < 2 ^ 31) a (b ∷ []) h (All-cons (λ v. v < 2 ^ 31) b [] k (All-nil (λ v. v < 2 ^ 31)))

-- a list of two monomials is within the limits
pub few_places : (m n : Monomial) → HasFewVariables m → HasFewVariables n → All HasFewVariables (m ∷ n ∷ [])
few_places m n h k = All-cons HasFewVariables m (n ∷ []) h (All-cons HasFewVariables n [] k (All-nil HasFewVariables))
