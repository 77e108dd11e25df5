-- Verdicts that differ, and verdicts that are equal.
use Rattle.std.proofs.Common.{◌≡◌, refl, sym}
use Rattle.program_claims.specs.Verdicts.{ClaimReason, Verdict, Accepted, Refused, verdict_map}

-- a refusal isn't an acceptance
pub refused_accepted : {A : Type 0} (reason : ClaimReason) (x : A) → Refused reason ≡ Accepted x → ⊥
refused_accepted reason x e = cc

-- an acceptance isn't a refusal
pub accepted_refused : {A : Type 0} (x : A) (reason : ClaimReason) → Accepted x ≡ Refused reason → ⊥
accepted_refused x reason e = cc

-- equal acceptances accept the same value
pub accepted_same : {A : Type 0} (x y : A) → Accepted x ≡ Accepted y → x ≡ y
accepted_same x y e = cc

-- if a function of a verdict is accepted, so is the verdict, and the value is the function's
pub mapped : {A B : Type 0} (f : A → B) (v : Verdict A) (y : B) → verdict_map f v ≡ Accepted y
    → (x : A) × (v ≡ Accepted x) × (y ≡ f x)
mapped f (Refused reason) y h = absurd (refused_accepted reason y h)
mapped f (Accepted x) y h = (x, refl, sym (accepted_same (f x) y h))
