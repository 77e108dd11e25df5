-- How the reader of while programs meets an expression.
use Rattle.std.specs.Prelude.{◌≡◌, ℕ, ◌≤◌, false, List, [], ◌∷◌, ◌++◌, length}
use Rattle.text_core.specs.Tokens.{pieces}
use Rattle.while_text.specs.model.Limits.{place_limit}
use Rattle.while_text.specs.declared.piece.Sort.{Sort}
use Rattle.while_text.specs.declared.piece.Sort.TheVariants as sorts
use Rattle.while_text.specs.declared.piece.Follower.{Follower}
use Rattle.while_text.specs.declared.piece.Follower.TheVariants as followers
use Rattle.while_text.specs.declared.piece.Piece.{Piece}
use Rattle.while_text.specs.declared.phase.Phase.{Phase}
use Rattle.while_text.specs.declared.phase.Standing.TheVariants.{Sound}
use Rattle.while_text.specs.Drafts.{no_state}
use Rattle.while_text.specs.Lexing.{tokens}
use Rattle.while_text.specs.Reading.{State, read}

-- The state after tokens, read one by one.
abbrev pub read_all : List ℕ → State → List Piece → State
read_all text s [] = s
read_all text s (p ∷ ps) = read_all text (read text p s) ps

-- How a token continues the expression before it.
abbrev pub follower_by : Sort → Follower
follower_by sorts.Plus = followers.Operator
follower_by sorts.Minus = followers.Operator
follower_by sorts.Times = followers.Operator
follower_by sorts.Caret = followers.Caret
follower_by _ = followers.Other

-- The tokens follow one another in a text, followed by a token that continues no expression.
pub record AreIn (text : List ℕ) (ps : List Piece) (next : Piece) : Type 0 where
  pub before : List Piece
  pub after : List Piece
  pub whole : pieces (tokens text) ≡ before ++ (ps ++ next ∷ after)
  pub ends : follower_by next.sort ≡ followers.Other

-- The text has had no fault, an expression begins in this part of it, and the inputs are within their limit.
pub record BeginsExpression (phase : Phase) (s : State) : Type 0 where
  pub standing : s.standing ≡ Sound
  pub phase_is : s.course.phase ≡ phase
  pub tokens_are : s.course.tokens ≡ 0
  pub depth_is : s.course.depth ≡ 0
  pub raised_is : s.course.raised ≡ false
  pub state_is_represented : s.draft.grammar_state ≡ no_state
  pub inputs : length s.draft.names ≤ place_limit
