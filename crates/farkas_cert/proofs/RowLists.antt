-- Properties of each row of a list, one row after the other.
use Rattle.std.proofs.Common.{◌≡◌, ℕ, ◌+◌, ◌<◌, List, [], ◌∷◌, ◌++◌, map, length, take, get_or, arith, sym, subst, ◌∙◌}
use Rattle.std.proofs.Common.{ap}
use Rattle.std.specs.List.{All}
use Rattle.std.proofs.lemmas.List.{take_more, map-append, length-map}
use Rattle.std.proofs.lemmas.List.Elements.{All-get_or, All-push}
use Rattle.std.proofs.Math.ListN.{get_or-map}
use Rattle.linear_forms.specs.Forms.{Form}
use Rattle.poly_terms.specs.declared.poly.Row.{Row}
use Rattle.poly_terms.specs.Views.{form_of}

-- a property of all rows holds of the one at a position
pub form-at : (P : Form → Type 0) (rows : List Row) (i : ℕ) (r : Row) → i < length rows → r ≡ get_or rows i r → All P (map form_of rows) → P (form_of r)
form-at P rows i r l e h =
    subst (λ (x : Row). P (form_of x)) (sym e)
    (subst P (get_or-map form_of rows i r) (All-get_or P (map form_of rows) i (form_of r) (omega (arith, length-map rows form_of)) h))

-- if a property holds of the rows before a position and of the one there, it holds of those before the next
pub forms-more : (P : Form → Type 0) (rows : List Row) (i : ℕ) (r : Row) → i < length rows → r ≡ get_or rows i r
    → All P (map form_of (take i rows)) → P (form_of r) → All P (map form_of (take (i + 1) rows))
forms-more P rows i r l e h p =
    let more : map form_of (take (i + 1) rows) ≡ map form_of (take i rows) ++ form_of r ∷ [] =
    ap (λ (xs : List Row). map form_of xs) (take_more rows i r l) ∙ (map-append form_of (take i rows) (get_or rows i r ∷ []) ∙ ap (λ (x : Row). map form_of (take i rows) ++ form_of x ∷ []) (sym e)) in
    subst (λ (fs : List Form). All P fs) (sym more) (All-push P (map form_of (take i rows)) (form_of r) h p)
