-- The test for a polynomial of degree 2 or more in left variables alone succeeds for such an update.
use Rattle.std.proofs.Common.{◌≡◌, ℕ, zero, suc, ◌<◌, ◌≤◌, ap, sym, ◌∙◌, subst, arith, Bool, true, false, List, [], ◌∷◌}
use Rattle.std.proofs.Common.{map, if◌then◌else◌, Option, Some, None, refl}
use Rattle.std.specs.Prelude.{nat_lt, slice_index_or}
use Rattle.std.specs.List.{All, list_all}
use Rattle.std.proofs.lemmas.Bool.{and_from}
use Rattle.std.proofs.lemmas.List.Elements.{All-head, All-tail}
use Rattle.model.specs.Polynomials.{Polynomial}
use Rattle.model.specs.Programs.{Program, Rule, rule_at}
use Rattle.model.proofs.Cases.{none_some, some_same}
use Rattle.guard_prep.specs.Prepared.{is_nonlinear, polys_of, prepared}
use Rattle.cert_types.specs.cert_rules.Nodes.{ResultVariable}
use Rattle.cert_types.specs.cert_rules.AcceptsSizes.{ReadsLeft, left_in, IsPolynomialUpdate}
use Rattle.cert_types.specs.cert_rules.ComposedSizes.{poly_of}
use Rattle.cert_types.specs.cert_program.Setting.{polys_in, nonlinear_at, setting_of}
use Rattle.local_size.specs.Places.{is_of_left, is_polynomial_at}

-- if all elements have a property that implies a test, each passes the test
pass-all : {A : Type 0} (test : A → Bool) (P : A → Type 0) → ((x : A) → P x → test x ≡ true) → (xs : List A) → All P xs
    → list_all test xs ≡ true
pass-all test P h [] all = refl
pass-all test P h (x ∷ xs) all =
    and_from (test x) (list_all test xs) (h x (All-head P x xs all)) (pass-all test P h xs (All-tail P x xs all))

-- the test for a lesser number succeeds
less-complete : (a b : ℕ) → a < b → nat_lt a b ≡ true
less-complete a b l = grind (arith, l)

-- the test for a polynomial in left variables succeeds
left-complete : (left : ℕ) (q : Polynomial) → ReadsLeft left q → is_of_left left q ≡ true
left-complete left q h =
    pass-all (λ m. list_all (λ v. nat_lt v left) m.vars) (λ m. All (λ v. v < left) m.vars)
    (λ m k. pass-all (λ v. nat_lt v left) (λ v. v < left) (λ v l. less-complete v left l) m.vars k) q h

-- a nonlinear update is among all updates
nonlinear-read : (qs : List Polynomial) (i : ℕ) (q : Polynomial) → nonlinear_at qs i ≡ Some q
    → (slice_index_or (map is_nonlinear qs) i false ≡ true) × (slice_index_or qs i [] ≡ q)
nonlinear-read [] i q e = absurd (none_some q e)
nonlinear-read (x ∷ qs) zero q e = go (is_nonlinear x) refl e
  where
    go : (v : Bool) → is_nonlinear x ≡ v → (if v then Some x else None) ≡ Some q
        → (is_nonlinear x ≡ true) × (x ≡ q)
    go true k f = (k, some_same x q f)
    go false k f = absurd (none_some q f)
nonlinear-read (x ∷ qs) (suc i) q e = nonlinear-read qs i q e

-- the test for a polynomial succeeds for the update at a place from 1 on
pub polynomial-complete : (p : Program) (r : Rule) (result_variable : ResultVariable) → rule_at p result_variable.rule ≡ Some r → 1 ≤ result_variable.place
    → IsPolynomialUpdate (setting_of p) result_variable → is_polynomial_at (prepared r) result_variable.place ≡ true
polynomial-complete p r result_variable numbered least update = go result_variable.place least update.nonlinear
  where
    left : ReadsLeft r.left update.polynomial
    left = subst (λ (o : Option Rule). ReadsLeft (left_in o) update.polynomial) numbered update.left_alone

    go : (place : ℕ) → 1 ≤ place → poly_of (setting_of p) result_variable.rule place ≡ Some update.polynomial
        → is_polynomial_at (prepared r) place ≡ true
    go zero l e = absurd (omega (arith, l))
    go (suc i) l e =
        let read = nonlinear-read (polys_of r) i update.polynomial
        (sym (ap (λ (o : Option Rule). nonlinear_at (polys_in o) i) numbered) ∙ e) in
        and_from (slice_index_or (map is_nonlinear (polys_of r)) i false) (is_of_left r.left (slice_index_or (polys_of r) i []))
        read.0 (subst (λ (q : Polynomial). is_of_left r.left q ≡ true) (sym read.1) (left-complete r.left update.polynomial left))
