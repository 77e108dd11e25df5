-- Each file has one verdict.
use Rattle.std.specs.Prelude.{◌≡◌, List, ℕ}
use Rattle.model.specs.Programs.{Program}
use Rattle.proof_forms.specs.Texts.{ProofText}
use Rattle.form_verdicts.specs.Verdicts.{Accepts, IsAcceptanceOf, IsRefusalOf}

-- what is accepted has one text, and so has what is refused; a text of acceptance comes only with what is accepted, and
-- one of a refusal only with what isn't
pub record VerdictsAreOne : Type 0 where
  pub one_acceptance : (p : Program) (t : ProofText) (x y : List ℕ) → IsAcceptanceOf p t x → IsAcceptanceOf p t y → x ≡ y
  pub one_refusal : (p : Program) (t : ProofText) (x y : List ℕ) → IsRefusalOf p t x → IsRefusalOf p t y → x ≡ y
  pub accepted : (p : Program) (t : ProofText) (x : List ℕ) → IsAcceptanceOf p t x → Accepts p t
  pub refused : (p : Program) (t : ProofText) (x : List ℕ) → IsRefusalOf p t x → ¬ (Accepts p t)
