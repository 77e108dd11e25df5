-- The texts of factors one after the other.
use Rattle.std.proofs.Common.{◌≡◌, ◌++◌, ◌∙◌, ℕ, List, ◌∷◌, ap, sym, append_assoc}
use Rattle.text_core.specs.model.Programs.{Name}
use Rattle.signed_bounds.specs.Bounds.{ProductOf}
use Rattle.signed_bounds.specs.Views.{signed_of, signeds_of, parts_of}
use Rattle.signed_bounds.specs.declared.signed.Signed.{Signed}
use Rattle.signed_text.specs.Texts.{signed_text, factor_text, factors_text}

-- after the first factor the others are left
pub product-after_first : (names : List Name) (all others : List Signed) (first : Signed) (old new : List ℕ)
    → all ≡ first ∷ others
    → new ≡ old ++ factor_text (signed_of first) (signed_text names (signed_of first))
    → new ++ factors_text names (parts_of (signeds_of others))
    ≡ old ++ signed_text names (ProductOf (parts_of (signeds_of all)))
product-after_first names all others first old new split begun =
    ap (λ (ys : List ℕ). ys ++ factors_text names (parts_of (signeds_of others))) begun
    ∙ (append_assoc old (factor_text (signed_of first) (signed_text names (signed_of first)))
    (factors_text names (parts_of (signeds_of others)))
    ∙ ap (λ (factors : List Signed). old ++ signed_text names (ProductOf (parts_of (signeds_of factors)))) (sym split))
