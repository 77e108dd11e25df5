-- Kinds of text that a file may have.
use Rattle.std.specs.Prelude.{ℕ, List}
use Rattle.call_plans.specs.declared.status.Status.{Status}

-- a kind of text with subjects of type T: the greatest number of bytes; the status with which bytes are refused, and
-- the text if there are too many; the meanings of bytes; and the text that refuses bytes without a meaning
pub record TextKind (T : Type 0) : Type 1 where
  pub limit : ℕ
  pub refused : Status
  pub too_long : List ℕ
  pub StandsFor : List ℕ → T → Type 0
  pub IsRefusedAs : List ℕ → List ℕ → Type 0
