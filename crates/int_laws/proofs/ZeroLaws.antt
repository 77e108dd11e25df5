-- The test for 0.
use Rattle.std.proofs.Common.{◌≡◌, ◌≢◌, zero, suc, Bool, true, false, refl, sym, ap, ◌∙◌}
use Rattle.std.specs.Prelude.{ℤ, pos, negsuc, not}
use Rattle.std.proofs.lemmas.Bool.{true≢false}
use Rattle.int_laws.specs.NormalForm.{is_zero}

-- an integer that passes the test is 0
pub is_zero-true : (z : ℤ) → is_zero z ≡ true → z ≡ pos 0
is_zero-true (pos zero) h = refl
is_zero-true (pos (suc n)) h = cc
is_zero-true (negsuc n) h = cc

-- an integer that fails the test isn't 0
pub is_zero-false : (z : ℤ) → is_zero z ≡ false → z ≢ pos 0
is_zero-false z h e = true≢false (sym (ap is_zero e) ∙ h)

-- an integer that isn't 0 fails the test
pub not_zero-complete : (z : ℤ) → z ≢ pos 0 → not (is_zero z) ≡ true
not_zero-complete z n = go (is_zero z) refl
  where
    go : (v : Bool) → is_zero z ≡ v → not v ≡ true
    go true e = absurd (n (is_zero-true z e))
    go false e = refl
