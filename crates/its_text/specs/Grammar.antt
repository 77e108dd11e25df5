-- The reader of program texts: trees, and the tokens that they are written as.
use Rattle.std.specs.Prelude.{◌≡◌, codes, List, [], ◌∷◌, IsFalse, ⊤}
use Rattle.expr_text.specs.text_core.Names.{is_same}
use Rattle.expr_text.specs.text_core.Readers.{Reader, onto}
use Rattle.its_text.specs.Pieces.{Piece}
use Rattle.its_text.specs.Written.{Target, Marked, Bare, WrittenRule, Section, Goal, Start, Variables, Rules, Comment}
use Rattle.its_text.specs.Written.{pieces_behind}
use Rattle.its_text.specs.GrammarStates.{GrammarState}
use Rattle.its_text.specs.Steps.{beginning, step, finish}
use Rattle.its_text.specs.Kinds.{Kind, kind_number}
use Rattle.its_text.specs.StateFaults.{faults_of_state, break_kind}

-- After an arrow, `Com_1` is no symbol of its own.
abbrev pub IsTarget : Target → Type 0
IsTarget (Marked t) = ⊤
IsTarget (Bare t) = IsFalse (is_same t.name (codes "Com_1"))

abbrev pub HaveTargets : List WrittenRule → Type 0
HaveTargets [] = ⊤
HaveTargets (r ∷ rules) = IsTarget r.target × HaveTargets rules

abbrev pub IsSection : Section → Type 0
IsSection Goal = ⊤
IsSection (Start name) = ⊤
IsSection (Variables names) = ⊤
IsSection (Rules rules) = HaveTargets rules
IsSection (Comment bytes) = ⊤

abbrev pub AreSections : List Section → Type 0
AreSections [] = ⊤
AreSections (s ∷ sections) = IsSection s × AreSections sections

-- The sections are written as these tokens.
pub record Writes (sections : List Section) (ps : List Piece) : Type 0 where
  pub are : AreSections sections
  pub pieces : onto (pieces_behind sections) [] ≡ ps

-- The reader of program texts.
abbrev pub programs : Reader Piece (List Section) GrammarState Kind
programs = record {
  Writes = Writes;
  beginning = beginning;
  step = step;
  finish = finish;
  number = kind_number;
  shown = faults_of_state;
  stop_kind = break_kind;
}
