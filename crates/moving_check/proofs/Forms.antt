-- Texts of the second form, and the same texts in the first form.
use Rattle.std.proofs.Common.{◌≡◌, ◌⊎◌, inl, inr, if◌then◌else◌, Bool, true, false, ℕ, zero, suc, ◌<◌, ◌≤◌, List, [], ◌∷◌, ◌==◌}
use Rattle.std.proofs.Common.{length, set, get_or, refl, sym, ◌∙◌, ap, arith}
use Rattle.std.specs.Prelude.{Result, Ok, Err, IfOk}
use Rattle.std.proofs.lemmas.Bool.Decides.{eqb_tells, nat_tests}
use Rattle.std.proofs.lemmas.List.{get_or-set_same, set-set, set-get_or, set_past}
use Rattle.its_model.specs.model.Programs.{Program}
use Rattle.run_replay.specs.declared.error.RunTextError.{RunTextError}
use Rattle.lasso_check.specs.declared.file.Lasso as file
use Rattle.lasso_check.specs.Views.{Answers, lasso_of}
use Rattle.lasso_check.specs.Lassos.{Lasso}
use Rattle.lasso_check.specs.Spelled.{text_of, IsTextWithin}
use Rattle.moving_check.specs.Texts.{other_form, exchanged, moving_text, IsMovingText}

-- exchanging the number of the form twice gives the same byte
other_form-twice : (b : ℕ) → other_form (other_form b) ≡ b
other_form-twice b = grind (arith, nat_tests)

-- exchanging the form of a text twice gives the same text
exchanged-twice : (bytes : List ℕ) → exchanged (exchanged bytes) ≡ bytes
exchanged-twice bytes = go (order 11 (length bytes))
  where
    order : (m n : ℕ) → (m < n) ⊎ (n ≤ m)
    order m zero = inr (omega arith)
    order zero (suc n) = inl (omega arith)
    order (suc m) (suc n) = elim (order m n) [ inl l ↦ inl (omega (arith, l)) | inr l ↦ inr (omega (arith, l)) ]

    go : (11 < length bytes) ⊎ (length bytes ≤ 11) → exchanged (exchanged bytes) ≡ bytes
    go (inl low) =
        let b = get_or bytes 11 0 in
        ap (λ (x : ℕ). set (set bytes 11 (other_form b)) 11 (other_form x)) (get_or-set_same bytes 11 (other_form b) 0 low)
        ∙ (ap (λ (x : ℕ). set (set bytes 11 (other_form b)) 11 x) (other_form-twice b)
        ∙ (set-set bytes 11 (other_form b) b ∙ set-get_or bytes 11 0))
    go (inr past) =
        ap (λ (xs : List ℕ). set xs 11 (other_form (get_or xs 11 0))) (set_past bytes 11 (other_form (get_or bytes 11 0)) past)
        ∙ set_past bytes 11 (other_form (get_or bytes 11 0)) past

-- a number of a form is exchanged; another byte at its position, or none, stays
pub exchanged-there : (bytes : List ℕ) (x y : ℕ) → x ≡ get_or bytes 11 0 → y ≡ other_form x → set bytes 11 y ≡ exchanged bytes
exchanged-there bytes x y e f = ap (set bytes 11) (f ∙ ap other_form e)

pub exchanged-past : (bytes : List ℕ) → length bytes ≤ 11 → bytes ≡ exchanged bytes
exchanged-past bytes l = sym (set_past bytes 11 (other_form (get_or bytes 11 0)) l)

-- the text of a lasso in the second form, exchanged, is that in the first form
exchanged-text : (l : Lasso) → exchanged (moving_text l) ≡ text_of l
exchanged-text l = refl

-- bytes are the text of a lasso in the second form if the exchanged bytes are its text in the first form
pub moving_text_of : (p : Program) (bytes : List ℕ) (l : Lasso) → IsTextWithin p (exchanged bytes) l → IsMovingText p bytes l
moving_text_of p bytes l h = record {
  text = sym (exchanged-twice (moving_text l)) ∙ (ap exchanged (exchanged-text l ∙ h.text) ∙ exchanged-twice bytes);
  within = h.within;
}

pub text_of_moving : (p : Program) (bytes : List ℕ) (l : Lasso) → IsMovingText p bytes l → IsTextWithin p (exchanged bytes) l
text_of_moving p bytes l h =
    record { text = sym (exchanged-text l) ∙ ap exchanged h.text; within = h.within }

-- a lasso read from the exchanged text is one whose text in the second form the bytes are
pub read_text : (p : Program) (bytes : List ℕ) (result : Result file.Lasso RunTextError)
    → Answers p (exchanged bytes) result → IfOk result (λ l. IsMovingText p bytes (lasso_of l))
read_text p bytes (Ok l) h = moving_text_of p bytes (lasso_of l) h
read_text p bytes (Err e) h = tt
