-- Tests of pairs from two lists, one after the other.
use Rattle.std.proofs.Common.{◌≡◌, ◌≢◌, ◌+◌, ◌≤◌, ◌∙◌, ℕ, suc, Bool, true, false, ◌&&◌, List, [], ◌∷◌}
use Rattle.std.proofs.Common.{length, drop}
use Rattle.std.proofs.Common.{refl, sym, ap}
use Rattle.std.proofs.lemmas.List.{drop_all}
use Rattle.model.specs.Polynomials.{Polynomial}
use Rattle.signed_bounds.specs.Bounds.{Signed}
use Rattle.potential_nodes.specs.Lookup.{is_there}
use Rattle.potential_nodes.specs.Facts.{SignedFact}
use Rattle.program_claims.specs.Heads.{head_bound, is_head_within, are_heads_within, are_heads_there}

-- whether two lists are of one length, and each pair passes
abbrev pub pass : (ℕ → ℕ → Bool) → List ℕ → List ℕ → Bool
pass test [] [] = true
pass test [] (n ∷ ns) = false
pass test (t ∷ ts) [] = false
pass test (t ∷ ts) (n ∷ ns) = test t n && pass test ts ns

pub within-pass : (facts : List SignedFact) (form : Polynomial) (place : ℕ) (bound : Signed) (ts ns : List ℕ)
    → are_heads_within facts form place bound ts ns
    ≡ pass (λ t n. is_head_within bound (head_bound facts form place t n)) ts ns
within-pass facts form place bound [] [] = refl
within-pass facts form place bound [] (n ∷ ns) = refl
within-pass facts form place bound (t ∷ ts) [] = refl
within-pass facts form place bound (t ∷ ts) (n ∷ ns) =
    ap (λ (v : Bool). is_head_within bound (head_bound facts form place t n) && v)
    (within-pass facts form place bound ts ns)

pub there-pass : (facts : List SignedFact) (form : Polynomial) (place : ℕ) (ts ns : List ℕ)
    → are_heads_there facts form place ts ns ≡ pass (λ t n. is_there (head_bound facts form place t n)) ts ns
there-pass facts form place [] [] = refl
there-pass facts form place [] (n ∷ ns) = refl
there-pass facts form place (t ∷ ts) [] = refl
there-pass facts form place (t ∷ ts) (n ∷ ns) =
    ap (λ (v : Bool). is_there (head_bound facts form place t n) && v) (there-pass facts form place ts ns)

module _ (test : ℕ → ℕ → Bool) where
  -- lists of different lengths don't pass
  pub pass-differ : (ts ns : List ℕ) → length ts ≢ length ns → pass test ts ns ≡ false
  pass-differ [] [] h = absurd (h refl)
  pass-differ [] (n ∷ ns) h = refl
  pass-differ (t ∷ ts) [] h = refl
  pass-differ (t ∷ ts) (n ∷ ns) h = go (test t n) (pass-differ ts ns (λ e. h (ap suc e))) where
    go : (v : Bool) → pass test ts ns ≡ false → v && pass test ts ns ≡ false
    go true e = e
    go false e = refl

  -- lists from a position on are a pair and the rest
  pass-pair : (ts ns : List ℕ) (i t n : ℕ) → drop i ts ≡ t ∷ drop (i + 1) ts → drop i ns ≡ n ∷ drop (i + 1) ns
      → pass test (drop i ts) (drop i ns) ≡ (test t n && pass test (drop (i + 1) ts) (drop (i + 1) ns))
  pass-pair ts ns i t n e f =
      ap (λ (us : List ℕ). pass test us (drop i ns)) e ∙ ap (λ (us : List ℕ). pass test (t ∷ drop (i + 1) ts) us) f

  -- a pair that passes is passed over, one that doesn't decides, and behind the last all have passed
  pub pass-step : (ts ns : List ℕ) (i t n : ℕ) (all : Bool) → drop i ts ≡ t ∷ drop (i + 1) ts
      → drop i ns ≡ n ∷ drop (i + 1) ns → test t n ≡ true → pass test (drop i ts) (drop i ns) ≡ all
      → pass test (drop (i + 1) ts) (drop (i + 1) ns) ≡ all
  pass-step ts ns i t n all e f h k =
      ap (λ (v : Bool). v && pass test (drop (i + 1) ts) (drop (i + 1) ns)) (sym h)
      ∙ (sym (pass-pair ts ns i t n e f) ∙ k)

  pub pass-fails : (ts ns : List ℕ) (i t n : ℕ) (all : Bool) → drop i ts ≡ t ∷ drop (i + 1) ts
      → drop i ns ≡ n ∷ drop (i + 1) ns → test t n ≡ false → pass test (drop i ts) (drop i ns) ≡ all → false ≡ all
  pass-fails ts ns i t n all e f h k =
      ap (λ (v : Bool). v && pass test (drop (i + 1) ts) (drop (i + 1) ns)) (sym h)
      ∙ (sym (pass-pair ts ns i t n e f) ∙ k)

  pub pass-done : (ts ns : List ℕ) (i : ℕ) (all : Bool) → length ts ≤ i → length ns ≤ i
      → pass test (drop i ts) (drop i ns) ≡ all → true ≡ all
  pass-done ts ns i all low low' k =
      ap (λ (us : List ℕ). pass test [] us) (sym (drop_all i ns low'))
      ∙ (ap (λ (us : List ℕ). pass test us (drop i ns)) (sym (drop_all i ts low)) ∙ k)
