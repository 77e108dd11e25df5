-- Texts of linear programs are decided: each is that of one linear program, or has one first fault.
use Rattle.std.specs.Prelude.{◌≡◌, ℕ, List, length}
use Rattle.text_grammar.specs.text_core.Readers.{Fault}
use Rattle.text_grammar.specs.text_core.Faults.{IsFirst}
use Rattle.text_grammar.specs.Texts.{reader}
use Rattle.text_grammar.specs.ByteTexts.{tokens}
use Rattle.lp_text.specs.declared.kind.LpKind.{LpKind}
use Rattle.lp_text.specs.Lps.{Lp}
use Rattle.lp_text.specs.Texts.{lps}
use Rattle.lp_text.specs.Spelled.{IsTextWithin}

-- the first fault of bytes as a text of a linear program
abbrev pub IsFirstFault : List ℕ → Fault LpKind → Type 0
IsFirstFault bytes x = IsFirst (reader lps) (length bytes) (tokens bytes) x

-- bytes are the text of at most one linear program within the limits, or have at most one first fault, but not both
pub record TextsAreDecided : Type 0 where
  pub one : (bytes : List ℕ) (p q : Lp) → IsTextWithin bytes p → IsTextWithin bytes q → p ≡ q
  pub one_fault : (bytes : List ℕ) (x y : Fault LpKind) → IsFirstFault bytes x → IsFirstFault bytes y → x ≡ y
  pub apart : (bytes : List ℕ) (p : Lp) (x : Fault LpKind) → IsTextWithin bytes p → ¬ IsFirstFault bytes x
