-- Why a text is refused, and where.
use Rattle.std.specs.Prelude.{◌≡◌, ℕ, List, ◌∷◌, [], length, Result, Ok, Err, Some, IsTrue, ⊤}
use Rattle.text_core.specs.model.Programs.{Name}
use Rattle.text_core.specs.model.Bounds as plain
use Rattle.bound_expr.specs.declared.bound.Bound.{Bound}
use Rattle.bound_expr.specs.Views.{bound_of}
use Rattle.text_core.specs.Names.{AreNames}
use Rattle.text_core.specs.Readers.{Fault, reached, onto, IsBeginning}
use Rattle.text_core.specs.Faults as first
use Rattle.bound_text.specs.Pieces.{Piece, Number, Caret}
use Rattle.bound_text.specs.Kinds.{Kind, Syntax, NumberTooLarge, UnknownName, TooDeep, TooLarge}
use Rattle.bound_text.specs.Texts.{IsTextWithin}
use Rattle.bound_text.specs.Lexing.{tokens}
use Rattle.bound_text.specs.ParserStates.{ParserState, IsWellFormed, state_then}
use Rattle.bound_text.specs.Checks.{begins}
use Rattle.bound_text.specs.Reading.{bounds}
use Rattle.bound_text.specs.declared.error.BoundTextError.{BoundTextError}
use Rattle.bound_text.specs.declared.error.BoundTextError.TheVariants as errors

-- the first fault of a text
abbrev pub IsFirst : List Name → List ℕ → Fault Kind → Type 0
IsFirst names bytes x = first.IsFirst (bounds (length names)) (length bytes) (tokens names bytes) x

-- over variables whose names are names and all differ, the text of a bound within the limits has no fault
pub record TextsHaveNoFault : Type 0 where
  pub each : (names : List Name) → AreNames names → (bytes : List ℕ) (b : plain.Bound) (x : Fault Kind)
      → IsTextWithin names bytes b → IsFirst names bytes x → ⊥

-- a state describes exactly the pieces read so far: pieces lead to it exactly if they are its text, with which a text
-- of a bound can begin; and an item begins there exactly if a base with its `^` can follow
pub record StatesAreRead : Type 0 where
  pub read : (n : ℕ) (done : List Piece) (f : ParserState) → reached (bounds n) done ≡ Some f → IsWellFormed f
      × (state_then f [] ≡ onto done [])
  pub leads : (n : ℕ) (done : List Piece) (f : ParserState) → IsWellFormed f → state_then f [] ≡ onto done []
      → reached (bounds n) done ≡ Some f
  pub base : (n : ℕ) (done : List Piece) (f : ParserState) → reached (bounds n) done ≡ Some f → IsTrue (begins f.position)
      → IsBeginning (bounds n) (Caret ∷ Number 2 ∷ done)
  pub begins : (n : ℕ) (done : List Piece) (f : ParserState) → reached (bounds n) done ≡ Some f
      → IsBeginning (bounds n) (Caret ∷ Number 2 ∷ done) → IsTrue (begins f.position)

-- the answer of reading a text: the bound, or the first fault, if memory suffices
abbrev pub Answers : List Name → List ℕ → Result Bound BoundTextError → Type 0
Answers names bytes (Ok b) = IsTextWithin names bytes (bound_of b)
Answers names bytes (Err (errors.Syntax at)) = IsFirst names bytes (record { kind = Syntax; at = at })
Answers names bytes (Err (errors.NumberTooLarge at)) = IsFirst names bytes (record { kind = NumberTooLarge; at = at })
Answers names bytes (Err (errors.UnknownName at)) = IsFirst names bytes (record { kind = UnknownName; at = at })
Answers names bytes (Err (errors.TooDeep at)) = IsFirst names bytes (record { kind = TooDeep; at = at })
Answers names bytes (Err (errors.TooLarge at)) = IsFirst names bytes (record { kind = TooLarge; at = at })
Answers names bytes (Err errors.Memory) = ⊤

-- the answer to the text of a bound: that bound, if memory suffices
abbrev pub GivesBack : plain.Bound → Result Bound BoundTextError → Type 0
GivesBack b (Ok a) = bound_of a ≡ b
GivesBack b (Err errors.Memory) = ⊤
GivesBack b (Err _) = ⊥
