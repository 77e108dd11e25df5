-- The text of a statement is determined if one subject has the property; and the words for a subject with the property
-- state it.
use Rattle.std.proofs.Common.{◌≡◌, ℕ, List, Option, Some, None, IfSome, true, false, refl, sym, ◌∙◌, ap}
use Rattle.std.proofs.lemmas.Bool.{false≢true}
use Rattle.koat_cli.specs.Statements.{StatesOne}

module _ {X : Type 0} (IsTrueOf : X → Type 0) (words : X → List ℕ) where
  -- one text states it if one subject has the property
  pub stated-unique : ((x y : X) → IsTrueOf x → IsTrueOf y → x ≡ y) → (a b : List ℕ) → StatesOne IsTrueOf words a
      → StatesOne IsTrueOf words b → a ≡ b
  stated-unique one a b h k = h.result_is ∙ (ap words (one h.subject k.subject h.is k.is) ∙ sym k.result_is)

  -- the words for a subject with the property state it
  pub found_stated : (o : Option X) (text : List ℕ) → IfSome o IsTrueOf → IfSome o (λ x. text ≡ words x)
      → (o ≡ None → false ≡ true) → StatesOne IsTrueOf words text
  found_stated None text is reply given = absurd (false≢true (given refl))
  found_stated (Some x) text is reply given = record { subject = x; is = is; result_is = reply }
