-- Marks of numbers.
use Rattle.std.specs.Prelude.{◌≡◌, ℕ, ◌<◌, Bool, true, false, List, length, Option, Some, None, slice_index_or}

-- the number, if it is marked
abbrev pub mark : Bool → ℕ → Option ℕ
mark true n = Some n
mark false n = None

-- a number's entry in the list, at its own position, is the number if it passes the test, and else none
abbrev pub AreMarks : (ℕ → Bool) → List (Option ℕ) → Type 0
AreMarks test marks = (n : ℕ) → n < length marks → slice_index_or marks n None ≡ mark (test n) n
