-- An update that is a polynomial of degree 2 or more in left variables is accepted as such.
use Rattle.std.proofs.Common.{◌≡◌, ℕ, zero, suc, ◌<◌, ap, sym, ◌∙◌, subst, Bool, true, false, List, [], ◌∷◌}
use Rattle.std.proofs.Common.{map, if◌then◌else◌, Option, Some, None}
use Rattle.std.specs.Prelude.{nat_lt, slice_index_or}
use Rattle.std.specs.List.{All, list_all}
use Rattle.std.proofs.lemmas.Bool.{true≢false, and_parts, ltb-true}
use Rattle.std.proofs.lemmas.List.Elements.{All-nil, All-cons}
use Rattle.poly_terms.specs.model.Polynomials.{Polynomial}
use Rattle.poly_terms.specs.model.Programs.{Program, Rule, rule_at}
use Rattle.guard_prep.specs.Prepared.{is_nonlinear, polys_of, prepared}
use Rattle.cert_types.specs.cert_rules.Nodes.{ResultVariable}
use Rattle.cert_types.specs.cert_rules.AcceptsSizes.{ReadsLeft, left_in, IsPolynomialUpdate}
use Rattle.cert_types.specs.cert_rules.ComposedSizes.{poly_of}
use Rattle.cert_types.specs.cert_program.Setting.{polys_in, nonlinear_at, setting_of}
use Rattle.local_size.specs.Places.{is_of_left, expanded_at, is_polynomial_at}

-- elements that pass a test have the property that it tests
all-pass : {A : Type 0} (test : A → Bool) (P : A → Type 0) → ((x : A) → test x ≡ true → P x) → (xs : List A)
    → list_all test xs ≡ true → All P xs
all-pass test P h [] e = All-nil P
all-pass test P h (x ∷ xs) e =
    let parts = and_parts (test x) (list_all test xs) e in
    All-cons P x xs (h x parts.0) (all-pass test P h xs parts.1)

-- a polynomial that passes the test contains only left variables
reads-left : (left : ℕ) (q : Polynomial) → is_of_left left q ≡ true → ReadsLeft left q
reads-left left q e =
    all-pass (λ m. list_all (λ v. nat_lt v left) m.vars) (λ m. All (λ v. v < left) m.vars)
    (λ m f. all-pass (λ v. nat_lt v left) (λ v. v < left) (λ v g. ltb-true v left g) m.vars f) q e

-- a nonlinear update has the flag of a nonlinear one
nonlinear-there : (qs : List Polynomial) (i : ℕ) → slice_index_or (map is_nonlinear qs) i false ≡ true
    → nonlinear_at qs i ≡ Some (slice_index_or qs i [])
nonlinear-there [] i e = absurd (true≢false (sym e))
nonlinear-there (q ∷ qs) zero e = ap (λ (b : Bool). if b then Some q else None) e
nonlinear-there (q ∷ qs) (suc i) e = nonlinear-there qs i e

module _ (p : Program) (r : Rule) (t : ℕ) (numbered : rule_at p t ≡ Some r) where
  -- the polynomial that acceptance uses is the expanded update
  poly-seen : (place : ℕ) → is_polynomial_at (prepared r) place ≡ true
      → poly_of (setting_of p) t place ≡ Some (expanded_at (prepared r) place)
  poly-seen zero e = absurd (true≢false (sym e))
  poly-seen (suc i) e =
      ap (λ (o : Option Rule). nonlinear_at (polys_in o) i) numbered
      ∙ nonlinear-there (polys_of r) i
      (and_parts (slice_index_or (map is_nonlinear (polys_of r)) i false) _ e).0

  -- this polynomial contains only left variables
  left-read : (place : ℕ) → is_polynomial_at (prepared r) place ≡ true
      → ReadsLeft (left_in (rule_at p t)) (expanded_at (prepared r) place)
  left-read zero e = absurd (true≢false (sym e))
  left-read (suc i) e =
      subst (λ (o : Option Rule). ReadsLeft (left_in o) (slice_index_or (polys_of r) i [])) (sym numbered)
      (reads-left r.left (slice_index_or (polys_of r) i [])
      (and_parts (slice_index_or (map is_nonlinear (polys_of r)) i false) _ e).1)

-- an update that is such a polynomial is accepted
pub polynomial-accepted : (p : Program) (r : Rule) (result_variable : ResultVariable) → rule_at p result_variable.rule ≡ Some r
    → is_polynomial_at (prepared r) result_variable.place ≡ true → IsPolynomialUpdate (setting_of p) result_variable
polynomial-accepted p r result_variable numbered e = record {
  polynomial = expanded_at (prepared r) result_variable.place;
  nonlinear = poly-seen p r result_variable.rule numbered result_variable.place e;
  left_alone = left-read p r result_variable.rule numbered result_variable.place e;
}
