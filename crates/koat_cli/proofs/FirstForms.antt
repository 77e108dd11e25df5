-- The text of a file of the first or the second form doesn't begin as one of the third form.
use Rattle.std.proofs.Common.{◌≡◌, ℕ, Bool, true, false, if◌then◌else◌, List, ◌++◌, codes, refl, subst}
use Rattle.model.specs.Programs.{Program}
use Rattle.cert_types.specs.cert_rules.Gaps.{ProofFile}
use Rattle.cert_text.specs.Spelled.{IsTextWithin}
use Rattle.cert_text.specs.Texts.{text_of, first_line, some_has_cost}
use Rattle.proof_parts.specs.Head.{begins_third_form}

-- whichever of the two first lines it has
begins_plain : (p : Program) (f : ProofFile) → begins_third_form (text_of p f) ≡ false
unfolding text_of
begins_plain p f = go (some_has_cost f.lemmas) _
  where
    go : (v : Bool) (rest : List ℕ)
        → begins_third_form ((if v then codes "koat-proof 2\n" else codes "koat-proof 1\n") ++ rest) ≡ false
    go true rest = refl
    go false rest = refl

pub plain_begins : (p : Program) (bytes : List ℕ) (f : ProofFile) → IsTextWithin p bytes f
    → begins_third_form bytes ≡ false
plain_begins p bytes f h = subst (λ (w : List ℕ). begins_third_form w ≡ false) h.text (begins_plain p f)
