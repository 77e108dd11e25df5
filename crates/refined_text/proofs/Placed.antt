-- Where the parts of a file begin.
use Rattle.std.proofs.Common.{◌≡◌, ◌+◌, ◌∙◌, ℕ, length, ap}
use Rattle.proof_parts.specs.declared.parts.Parts.{Parts}
use Rattle.proof_parts.specs.Views.{parts_of, ArePlaced}
use Rattle.refined_text.specs.Parts.{plain_at, lemmas_at, claims_at}

-- each part begins behind the one before it
pub plain-placed : (size : ℕ) (p : Parts) → ArePlaced size p → p.plain.at ≡ plain_at (parts_of p)
plain-placed size p placed = placed.plain ∙ ap (λ (n : ℕ). n + length p.section.text.now) placed.section

pub lemmas-placed : (size : ℕ) (p : Parts) → ArePlaced size p → p.signed.at ≡ lemmas_at (parts_of p)
lemmas-placed size p placed = placed.signed ∙ ap (λ (n : ℕ). n + length p.plain.text.now) (plain-placed size p placed)

pub claims-placed : (size : ℕ) (p : Parts) → ArePlaced size p → p.claims.at ≡ claims_at (parts_of p)
claims-placed size p placed = placed.claims ∙ ap (λ (n : ℕ). n + length p.signed.text.now) (lemmas-placed size p placed)
