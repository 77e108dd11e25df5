-- The variables in order, built one by one, and the replacement of an update.
use Rattle.std.proofs.Common.{◌≡◌, ℕ, zero, suc, ◌+◌, ◌<◌, ◌≤◌, List, [], ◌∷◌, ◌++◌, length, map, refl, ap, sym, ◌∙◌, arith}
use Rattle.std.specs.Prelude.{set}
use Rattle.std.specs.List.{range_with_len}
use Rattle.std.proofs.lemmas.List.{map-set, map-append}
use Rattle.while_model.specs.model.Terms.{Term, Variable}
use Rattle.while_model.specs.Translation.{variables}
use Rattle.poly_terms.specs.declared.expr.Expr.{Expr}
use Rattle.poly_terms.specs.Views.{term_of}

-- The variables from a on, with one more appended.
range_push : (a n : ℕ) → map (λ x. Variable x) (range_with_len a n) ++ Variable (a + n) ∷ []
    ≡ map (λ x. Variable x) (range_with_len a (n + 1))
range_push a zero = ap (λ (k : ℕ). Variable k ∷ []) (let e : a + 0 ≡ a = omega arith in e)
range_push a (suc n) =
    ap (λ (ts : List Term). Variable a ∷ ts)
    (ap (λ (k : ℕ). map (λ x. Variable x) (range_with_len (a + 1) n) ++ Variable k ∷ [])
    (let e : a + suc n ≡ a + 1 + n = omega arith in e) ∙ range_push (a + 1) n)
    ∙ ap (λ (k : ℕ). map (λ x. Variable x) (range_with_len a k)) (let e : suc (n + 1) ≡ suc n + 1 = omega arith in e)

-- The first n variables with variable n appended are the first n + 1.
pub variables_push : (n : ℕ) → variables n ++ Variable n ∷ [] ≡ variables (n + 1)
variables_push n =
    ap (λ (k : ℕ). variables n ++ Variable k ∷ []) (let e : n ≡ 0 + n = omega arith in e) ∙ range_push 0 n

-- Replacing an expression replaces its plain term.
pub terms_set : (es : List Expr) (x : ℕ) (e : Expr) → map term_of (set es x e) ≡ set (map term_of es) x (term_of e)
terms_set es x e = map-set term_of es x e

-- Replacing at a position past the end changes nothing.
pub set_beyond : (ts : List Term) (x : ℕ) (t : Term) → length ts ≤ x → set ts x t ≡ ts
set_beyond [] x t h = refl
set_beyond (u ∷ ts) zero t h = absurd (omega (arith, h))
set_beyond (u ∷ ts) (suc x) t h = ap (λ (vs : List Term). u ∷ vs) (set_beyond ts x t (omega (arith, h)))

-- Appending an expression appends its plain term.
pub terms_push : (es new : List Expr) (e : Expr) (ts : List Term) → new ≡ es ++ e ∷ [] → map term_of es ≡ ts
    → map term_of new ≡ ts ++ term_of e ∷ []
terms_push es new e ts n h =
    ap (λ (xs : List Expr). map term_of xs) n ∙ map-append term_of es (e ∷ [])
    ∙ ap (λ (us : List Term). us ++ term_of e ∷ []) h
