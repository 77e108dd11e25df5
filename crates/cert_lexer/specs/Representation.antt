-- The code's types of outlines and levels as plain data.
use Rattle.std.specs.Prelude.{◌≡◌, ◌≤◌, Bool, true, false, List, [], ◌∷◌, ◌++◌, length, map, Option, Some, None, ⊤}
use Rattle.bound_text.specs.Steps.{step}
use Rattle.bound_text.specs.ParserStates.{ParserState}
use Rattle.bound_text.specs.Inside.{Marks, marks_of_state}
use Rattle.bound_text.specs.Pieces.{Piece}
use Rattle.text_grammar.specs.text_core.Readers.{onto}
use Rattle.cert_lexer.specs.declared.follower.Follower.{Follower}
use Rattle.cert_lexer.specs.declared.levels.OpenPart.{OpenPart}
use Rattle.cert_lexer.specs.declared.levels.Levels.{Levels}
use Rattle.cert_lexer.specs.declared.levels.PartLevels.{PartLevels}
use Rattle.cert_lexer.specs.declared.outline.Change.{Change}
use Rattle.cert_lexer.specs.declared.outline.Frame.{Frame}
use Rattle.cert_lexer.specs.declared.outline.Innermost.{Innermost}
use Rattle.cert_lexer.specs.declared.outline.Outline.{Outline}
use Rattle.cert_lexer.specs.Following.{PositionFollows}
use Rattle.cert_lexer.specs.Levels.{open_parts_after, open_parts_of, capped, has_deep, marks_taken, shallow}
use Rattle.cert_lexer.specs.Outlines.{frames_of, innermost_of}

-- the open brackets, the innermost first
abbrev pub frames_in : Outline → List Frame
frames_in o = onto o.frames.items []

-- the stored levels are the marks before the first part that is too deep, and whether there is one
pub record Held (levels : Marks) (found : Bool) (marks : Marks) : Type 0 where
  pub kept : levels ≡ shallow marks
  pub deep : found ≡ has_deep marks

abbrev pub Holds : PartLevels → Marks → Type 0
Holds m marks = Held m.levels.items m.deep marks

-- the unfinished bounds that the code stores, the innermost first
abbrev pub open_parts_in : Levels → List OpenPart
open_parts_in l = onto l.begun.items []

-- an unfinished bound with its numbers capped at 2^64-1
abbrev pub capped_open_part : OpenPart → OpenPart
capped_open_part b = record { above = capped b.above; start = capped b.start }

-- the current terms of these bounds begin after the first part that is too deep, so that raising their marks changes
-- nothing that is stored
abbrev pub AreBehind : Marks → List OpenPart → Type 0
AreBehind marks [] = ⊤
AreBehind marks (b ∷ bs) =
    (length (shallow marks) ≤ b.start) × (has_deep marks ≡ true) × AreBehind marks bs

-- the code represents these marks, and stores the outermost of these unfinished bounds; the others begin after the
-- first part that is too deep
pub record ShowsLevels (l : Levels) (marks : Marks) (bs : List OpenPart) : Type 0 where
  pub held : Holds l.marked marks
  pub count : l.count ≡ capped (length marks)
  pub inner : List OpenPart
  pub outer : List OpenPart
  pub all : inner ++ outer ≡ bs
  pub begun : open_parts_in l ≡ map capped_open_part outer
  pub behind : AreBehind marks inner

-- the code represents the marks and the unfinished bounds after a piece that changes the open brackets
abbrev pub ShowsTaken : Levels → Option Frame → Innermost → Piece → Change → Marks → List OpenPart → Type 0
ShowsTaken l round i piece change marks bs =
    ShowsLevels l (marks_taken bs round i piece marks)
    (open_parts_after change (length (marks_taken bs round i piece marks)) round i bs)

-- the code's state represents the outline, the marks and the unfinished bounds of the pieces read so far
pub record Representation (f : ParserState) (s : Follower) : Type 0 where
  pub frames : frames_in s.outline ≡ frames_of f.outer
  pub innermost : s.outline.innermost ≡ innermost_of f
  pub levels : ShowsLevels s.levels (marks_of_state f) (open_parts_of f)
  pub standing : PositionFollows f

-- the code accepts a piece exactly if the state does, and then represents the next state
abbrev pub Accepted : ParserState → Piece → Follower → Bool → Type 0
Accepted f piece s true = (g : ParserState) × (step f piece ≡ Some g) × Representation g s
Accepted f piece s false = (step f piece ≡ None) × Representation f s
