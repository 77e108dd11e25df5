-- How outlines and levels follow the pieces that have been read.
use Rattle.std.specs.Prelude.{◌≡◌, true, false, length, Option, Some, None, ⊤}
use Rattle.its_model.specs.model.Bounds.{Parts}
use Rattle.bound_text.specs.Shapes.{is_empty}
use Rattle.bound_text.specs.Pieces.{Piece}
use Rattle.bound_text.specs.ParserStates.{ParserState, Position, RunCaret, ItemRead, BlankRead, PlusRead, CommaRead, is_input, last}
use Rattle.bound_text.specs.ParserStates.{can_end, levels_above}
use Rattle.bound_text.specs.Inside.{marks_of_state}
use Rattle.bound_text.specs.Steps.{step}
use Rattle.cert_lexer.specs.declared.levels.OpenPart.{OpenPart}
use Rattle.cert_lexer.specs.declared.outline.OutlineStep.{OutlineStep}
use Rattle.cert_lexer.specs.Outlines.{frames_of, innermost_of, innermost_frame, frames_behind, lead}
use Rattle.cert_lexer.specs.Levels.{open_parts_of, before_term, marks_behind, open_parts_after}
use Rattle.bound_text.specs.ParserStates.{sum_at}

-- the position can come after these factors
abbrev pub MayFollow : Position → Parts → Type 0
MayFollow (RunCaret i) fs = is_input i (last fs) ≡ false
MayFollow ItemRead fs = is_empty fs ≡ false
MayFollow BlankRead fs = can_end fs ≡ true
MayFollow PlusRead fs = can_end fs ≡ true
MayFollow CommaRead fs = can_end fs ≡ true
MayFollow position fs = ⊤

abbrev pub PositionFollows : ParserState → Type 0
PositionFollows f = MayFollow f.position f.factors

-- the innermost unfinished bound
abbrev pub open_parts_in : ParserState → OpenPart
open_parts_in f = record {
  above = levels_above f.outer;
  start = length (before_term f.outer (sum_at f.position f.outer f.terms) f.terms);
}

-- a piece leads from one state to another, whose outline, marks and unfinished bounds are those of a step of the
-- outline
pub record Follows (f : ParserState) (piece : Piece) (g : ParserState) (l : OutlineStep) : Type 0 where
  pub innermost : innermost_of g ≡ l.innermost
  pub frames : frames_of g.outer ≡ frames_behind l.change (frames_of f.outer)
  pub marks : marks_of_state g
      ≡ marks_behind (open_parts_in f) (innermost_frame (frames_of f.outer)) (innermost_of f) piece (marks_of_state f)
  pub begun : open_parts_of g
      ≡ open_parts_after l.change (length (marks_of_state g)) (innermost_frame (frames_of f.outer)) (innermost_of f)
      (open_parts_of f)
  pub standing : PositionFollows g

-- a state and an outline both accept a piece, or both reject it
abbrev pub FollowsWhere : ParserState → Piece → Option ParserState → Option OutlineStep → Type 0
FollowsWhere f piece None None = ⊤
FollowsWhere f piece (Some g) (Some l) = Follows f piece g l
FollowsWhere f piece None (Some l) = ⊥
FollowsWhere f piece (Some g) None = ⊥

-- a state accepts exactly the pieces that its outline accepts, and the outline, marks and unfinished bounds after them
-- are those of the next state
pub record OutlinesAgree : Type 0 where
  pub each : (f : ParserState) (piece : Piece) → PositionFollows f
      → FollowsWhere f piece (step f piece)
      (lead (innermost_frame (frames_of f.outer)) (innermost_of f) piece)
