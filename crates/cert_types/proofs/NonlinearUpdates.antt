-- The updates of a rule that have degree 2 or more.
use Rattle.std.proofs.Common.{◌≡◌, ℕ, zero, suc, ◌<◌, ◌≤◌, Bool, true, false, cond, List, [], ◌∷◌, length, get_or, map}
use Rattle.std.proofs.Common.{Some, None, nat_lt, refl, sym, ◌∙◌, ap, arith}
use Rattle.std.proofs.lemmas.Bool.{lt-ltb, le-ltb as not-below}
use Rattle.poly_terms.specs.model.Polynomials.{degree_of}
use Rattle.poly_terms.specs.declared.poly.Poly.{Poly}
use Rattle.poly_terms.specs.Views.{poly_of}
use Rattle.cert_program.specs.Setting.{nonlinear_at, where_nonlinear}

-- past the last update there is none
pub update_past : (qs : List Poly) (i : ℕ) → length qs ≤ i → nonlinear_at (map poly_of qs) i ≡ None
update_past [] i low = refl
update_past (q ∷ qs) zero low = absurd (omega (arith, low))
update_past (q ∷ qs) (suc i) low = update_past qs i (omega (arith, low))

-- the update at a position is given if it has degree 2 or more
update-here : (qs : List Poly) (i : ℕ) (q : Poly) → i < length qs → q ≡ get_or qs i q → nonlinear_at (map poly_of qs) i ≡ where_nonlinear (poly_of q)
update-here [] i q low e = absurd (omega (arith, low))
update-here (x ∷ qs) zero q low e = ap (λ (y : Poly). where_nonlinear (poly_of y)) (sym e)
update-here (x ∷ qs) (suc i) q low e = update-here qs i q (omega (arith, low)) e

-- an update of degree 2 or more is given
pub update_nonlinear : (qs : List Poly) (i : ℕ) (q : Poly) → i < length qs → q ≡ get_or qs i q → 1 < degree_of (poly_of q) → nonlinear_at (map poly_of qs) i ≡ Some (poly_of q)
update_nonlinear qs i q low e h = update-here qs i q low e ∙ go (nat_lt 1 (degree_of (poly_of q))) (lt-ltb 1 (degree_of (poly_of q)) h)
  where
    go : (v : Bool) → v ≡ true → cond v (Some (poly_of q)) None ≡ Some (poly_of q)
    go v is = ap (λ (w : Bool). cond w (Some (poly_of q)) None) is

-- an update of a lower degree is not given
pub update_straight : (qs : List Poly) (i : ℕ) (q : Poly) → i < length qs → q ≡ get_or qs i q → degree_of (poly_of q) ≤ 1 → nonlinear_at (map poly_of qs) i ≡ None
update_straight qs i q low e h = update-here qs i q low e ∙ go (nat_lt 1 (degree_of (poly_of q))) (not-below 1 (degree_of (poly_of q)) h)
  where
    go : (v : Bool) → v ≡ false → cond v (Some (poly_of q)) None ≡ None
    go v is = ap (λ (w : Bool). cond w (Some (poly_of q)) None) is

-- rewrites the update at a position, in the three cases
pub ruleset updates = (update_past, update_nonlinear, update_straight)
