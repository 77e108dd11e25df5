-- The reader of bounds.
use Rattle.std.specs.Prelude.{◌≡◌, ℕ, Bool, false, ◌&&◌, ◌||◌, nat_lt, Option, Some, None, List, [], ◌∷◌}
use Rattle.text_core.specs.model.Bounds.{Bound}
use Rattle.text_core.specs.Tokens.{Token, pieces}
use Rattle.text_core.specs.Readers.{Fault, Reader}
use Rattle.text_core.specs.Faults.{faults_at}
use Rattle.bound_text.specs.Shapes.{IsShaped}
use Rattle.bound_text.specs.Pieces.{Piece}
use Rattle.bound_text.specs.Writing.{pieces_of}
use Rattle.bound_text.specs.Kinds.{Kind, Syntax, NumberTooLarge, UnknownName, TooDeep, TooLarge, number_of, kinds}
use Rattle.bound_text.specs.ParserStates.{ParserState, nodes_of, levels_of}
use Rattle.bound_text.specs.Steps.{step, beginning, finish}
use Rattle.bound_text.specs.Checks.{is_large, is_small_base, is_large_base, is_unlisted, begins, caret_next}
use Rattle.bound_expr.specs.Limits.{depth_limit, node_limit}

-- the bound is written as these pieces
abbrev pub Writes : Bound → List Piece → Type 0
Writes b ps = IsShaped b × (pieces_of b ≡ ps)

-- whether a number that comes next is a base: an item begins there, and `^` follows the number
abbrev pub is_base : ParserState → List Piece → Bool
is_base f behind = begins f.position && caret_next behind

-- whether the tree so far has more than 200 levels
abbrev pub is_deep : Option ParserState → Bool
is_deep None = false
is_deep (Some f) = nat_lt depth_limit (levels_of f)

-- whether the tree so far has more than 4,096 nodes
abbrev pub has_many : Option ParserState → Bool
has_many None = false
has_many (Some f) = nat_lt node_limit (nodes_of f)

-- the faults of the next piece by kind, where n names are listed: a base under 2; a number over 2^127-1, or a base over
-- 2^64-1; a name that isn't listed; more than 200 levels with it; more than 4,096 nodes with it
abbrev pub stands : ℕ → ParserState → Piece → List Piece → Kind → Bool
stands n f piece behind Syntax = is_base f behind && is_small_base piece
stands n f piece behind NumberTooLarge = is_large piece || (is_base f behind && is_large_base piece)
stands n f piece behind UnknownName = is_unlisted n piece
stands n f piece behind TooDeep = is_deep (step f piece)
stands n f piece behind TooLarge = has_many (step f piece)

-- the faults that a state has at the first byte of the next piece
abbrev pub shown : ℕ → ParserState → List (Token Piece) → List (Fault Kind)
shown n f [] = []
shown n f (t ∷ rest) = faults_at t.at (stands n f t.piece (pieces rest)) kinds

-- the reader of bounds over n variables; a piece that can't follow is `Syntax`
abbrev pub bounds : ℕ → Reader Piece Bound ParserState Kind
bounds n = record {
  Writes = Writes;
  beginning = beginning;
  step = step;
  finish = finish;
  number = number_of;
  shown = λ len done f rest. shown n f rest;
  stop_kind = λ f rest. Syntax;
}
