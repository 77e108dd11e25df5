-- Segments: the places of statements in a program, by their first point, the point after them, and the statements left
-- there.
use Rattle.std.proofs.Common.{◌≡◌, ◌⊎◌, inl, inr, ℕ, suc, ◌+◌, List, refl}
use Rattle.model.specs.Programs.{Atom}
use Rattle.while_model.specs.Statements.{Action, Statements, Nothing, Simple, While, If, followed_by, size, IsNonempty}
use Rattle.while_model.specs.Moves.{first}

-- Statements of the program, with the number of the first, the point after them, and the statements left there.
pub data Segment (program : Statements) : ℕ → ℕ → Statements → Statements → Type 0 where
  Whole : Segment program 0 (size program) program Nothing
  AfterSimple : {at after : ℕ} {action : Action} {rest left : Statements} → Segment program at after (Simple action rest) left
      → Segment program (suc at) after rest left
  InLoop : {at after : ℕ} {test : List Atom} {block rest left : Statements}
      → Segment program at after (While test block rest) left
      → Segment program (suc at) at block (While test block (followed_by rest left))
  AfterLoop : {at after : ℕ} {test : List Atom} {block rest left : Statements}
      → Segment program at after (While test block rest) left → Segment program (suc at + size block) after rest left
  InFirst : {at after : ℕ} {test : List Atom} {block other rest left : Statements}
      → Segment program at after (If test block other rest) left
      → Segment program (suc at) (first (suc at + size block + size other) after rest) block (followed_by rest left)
  InSecond : {at after : ℕ} {test : List Atom} {block other rest left : Statements}
      → Segment program at after (If test block other rest) left
      → Segment program (suc at + size block) (first (suc at + size block + size other) after rest) other
      (followed_by rest left)
  AfterBranch : {at after : ℕ} {test : List Atom} {block other rest left : Statements}
      → Segment program at after (If test block other rest) left
      → Segment program (suc at + size block + size other) after rest left

-- The statements left at a point of the program: none at the end, else those of a segment and those left after them.
abbrev pub IsLeftAt : Statements → ℕ → Statements → Type 0
IsLeftAt program k left = (k ≡ size program) × (left ≡ Nothing)
    ⊎ (after : ℕ) × (here : Statements) × (behind : Statements) × Segment program k after here behind × IsNonempty here
    × (left ≡ followed_by here behind)

-- At the first point of the statements `here`, they are left together with those left after them, if these are left at
-- the point after them.
pub left_from : (program : Statements) (k after : ℕ) (here left : Statements)
    → (IsNonempty here → Segment program k after here left) → IsLeftAt program after left
    → IsLeftAt program (first k after here) (followed_by here left)
left_from program k after Nothing left s h = h
left_from program k after (Simple action rest) left s h = inr (after, Simple action rest, left, s tt, tt, refl)
left_from program k after (While test block rest) left s h = inr (after, While test block rest, left, s tt, tt, refl)
left_from program k after (If test block other rest) left s h = inr (after, If test block other rest, left, s tt, tt, refl)

-- At the point after a segment, the statements left after it are left.
pub left_after : {program : Statements} {at after : ℕ} {here left : Statements} → Segment program at after here left
    → IsLeftAt program after left
left_after Whole = inl (refl, refl)
left_after (AfterSimple s) = left_after s
left_after (InLoop {at} {after} {test} {block} {rest} {left} s) =
    inr (after, While test block rest, left, s, tt, refl)
left_after (AfterLoop s) = left_after s
left_after {program} (InFirst {at} {after} {test} {block} {other} {rest} {left} s) =
    left_from program (suc at + size block + size other) after rest left (λ some. AfterBranch s) (left_after s)
left_after {program} (InSecond {at} {after} {test} {block} {other} {rest} {left} s) =
    left_from program (suc at + size block + size other) after rest left (λ some. AfterBranch s) (left_after s)
left_after (AfterBranch s) = left_after s

-- At the first point of a segment, its statements and those left after them are left.
pub left_at_first : {program : Statements} {at after : ℕ} {here left : Statements} → Segment program at after here left
    → IsLeftAt program (first at after here) (followed_by here left)
left_at_first {program} {at} {after} {here} {left} s = left_from program at after here left (λ some. s) (left_after s)
