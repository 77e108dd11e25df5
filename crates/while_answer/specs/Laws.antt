-- Texts of while programs are decided, and the laws of the programs that they spell.
use Rattle.std.specs.Prelude.{◌≡◌, ℕ, List}
use Rattle.text_grammar.specs.text_core.Readers.{Fault}
use Rattle.while_text.specs.model.Bounds.{Bound}
use Rattle.while_text.specs.model.Facts.{HoldsTotal}
use Rattle.while_text.specs.its_model.Valid.{IsValid}
use Rattle.while_text.specs.declared.kind.Kind.{Kind}
use Rattle.while_text.specs.Reading.{Source}
use Rattle.while_answer.specs.Spelled.{IsWithin, IsTextWithin, IsFirstFault}
use Rattle.while_answer.specs.Executed.{translation_of, EndsAsRuns, HasStepsWithin}

-- The bytes are the text of at most one while program within the limits, and have at most one first fault, and not
-- both.
pub record WhileTextsAreDecided : Type 0 where
  pub one : (bytes : List ℕ) (a b : Source) → IsTextWithin bytes a → IsTextWithin bytes b → a ≡ b
  pub one_fault : (bytes : List ℕ) (x y : Fault Kind) → IsFirstFault bytes x → IsFirstFault bytes y → x ≡ y
  pub apart : (bytes : List ℕ) (a : Source) (x : Fault Kind) → IsTextWithin bytes a → ¬ (IsFirstFault bytes x)

-- The translation of a program within the limits is valid, the program's executions end with the same values as the
-- translation's runs, and a bound on the total cost of these runs bounds the steps of the executions.
pub record ExecutionsFollowRuns : Type 0 where
  pub valid : (source : Source) → IsWithin source → IsValid (translation_of source)
  pub ends : (source : Source) → IsWithin source → EndsAsRuns source
  pub bounded : (source : Source) (bound : Bound) → IsWithin source → HoldsTotal (translation_of source) bound
      → HasStepsWithin source bound
