-- Each file has one verdict.
use Rattle.std.proofs.Common.{◌≡◌, ℕ, List, sym, ◌∙◌}
use Rattle.model.specs.Programs.{Program}
use Rattle.check_refined.specs.Files.{RefusedFilesAreNotAccepted}
use Rattle.proof_forms.specs.Texts.{ProofText, Plain, Refined, NotRefined}
use Rattle.form_verdicts.specs.Verdicts.{Accepts, IsAcceptanceOf, IsRefusalOf}
use Rattle.form_verdicts.specs.Laws.{VerdictsAreOne}
use Rattle.form_verdicts.proofs.PlainVerdicts.{one_acceptance, one_refusal, refused_not_accepted}
use Rattle.form_verdicts.proofs.RefinedVerdicts.{one_refined_acceptance, one_refined_refusal, states_fault}

acceptance_one : (p : Program) (t : ProofText) (x y : List ℕ) → IsAcceptanceOf p t x → IsAcceptanceOf p t y → x ≡ y
acceptance_one p (Plain f) x y a b = one_acceptance p f x y a b
acceptance_one p (Refined f) x y a b = one_refined_acceptance p f x y a b
acceptance_one p (NotRefined s r) x y a b = absurd a

refusal_one : (p : Program) (t : ProofText) (x y : List ℕ) → IsRefusalOf p t x → IsRefusalOf p t y → x ≡ y
refusal_one p (Plain f) x y a b = one_refusal p f x y a b
refusal_one p (Refined f) x y a b = one_refined_refusal p f x y a b
refusal_one p (NotRefined s r) x y a b = a ∙ sym b

acceptance_accepts : (p : Program) (t : ProofText) (x : List ℕ) → IsAcceptanceOf p t x → Accepts p t
acceptance_accepts p (Plain f) x a = a.accepted.accepted
acceptance_accepts p (Refined f) x a = a.accepted.accepted
acceptance_accepts p (NotRefined s r) x a = a

module _ (laws : RefusedFilesAreNotAccepted) where
  refusal_excludes : (p : Program) (t : ProofText) (x : List ℕ) → IsRefusalOf p t x → ¬ (Accepts p t)
  refusal_excludes p (Plain f) x a = refused_not_accepted p f x a
  refusal_excludes p (Refined f) x a = laws.excluded p f a.refusal (states_fault p f a.refusal x a.result_is) a.refused
  refusal_excludes p (NotRefined s r) x a = λ accepts. accepts

-- each file has one verdict
pub verdicts_one : RefusedFilesAreNotAccepted → VerdictsAreOne
verdicts_one laws = record {
  one_acceptance = acceptance_one;
  one_refusal = refusal_one;
  accepted = acceptance_accepts;
  refused = refusal_excludes laws;
}
