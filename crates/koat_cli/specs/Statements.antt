-- Texts that state something.
use Rattle.std.specs.Prelude.{◌≡◌, ℕ, List}

-- some subject has this property, and the text has the words for it
pub record StatesOne {X : Type 0} (IsTrueOf : X → Type 0) (words : X → List ℕ) (text : List ℕ) : Type 0 where
  pub subject : X
  pub is : IsTrueOf subject
  pub result_is : text ≡ words subject
