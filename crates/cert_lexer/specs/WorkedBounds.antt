-- Worked values of bounds inside proof files at the limit of levels, and of the order of refusals.
use Rattle.std.specs.Prelude.{◌≡◌, ℕ, zero, suc, true, false, List, [], ◌∷◌, ◌++◌, Some, None}
use Rattle.its_model.specs.model.Bounds.{Bound, Input, PowerOf, NoParts, Part}
use Rattle.bound_text.specs.ParserStates.{ParserState, Whole, ItemRead}
use Rattle.bound_text.specs.Steps.{state_at_position}
use Rattle.bound_text.specs.Kinds as kinds
use Rattle.bound_text.specs.declared.piece.Piece.{Piece}
use Rattle.bound_text.specs.declared.piece.Piece.TheVariants.{Variable, Number, Maximum, Open, Close, Times, Caret}
use Rattle.bound_text.specs.declared.piece.Piece.TheVariants.{Plus, Blank, Comma}
use Rattle.text_grammar.specs.text_core.Readers.{Fault}
use Rattle.text_grammar.specs.text_core.Reading.{Refused}
use Rattle.cert_lexer.specs.declared.inner.Inner.{Inner}
use Rattle.cert_lexer.specs.declared.kind.ProofKind.{ProofKind}
use Rattle.cert_lexer.specs.declared.kind.ProofKind.TheVariants.{Syntax, NumberTooLarge, TooDeep, BadReference, Limit}
use Rattle.cert_lexer.specs.Bounds.{bound_answer, deep_part, is_before, kind_of}

-- `2^(2^( .. 2^A))`, with this many powers
abbrev pub tower : ℕ → Bound
tower zero = Input 0
tower (suc n) = PowerOf 2 (tower n)

-- the state after the pieces of a bound that nothing surrounds
abbrev pub alone : Bound → ParserState
alone b = state_at_position Whole NoParts (Part b NoParts) ItemRead

-- each piece with a length of one byte
abbrev pub each_alone : List Piece → List Inner
each_alone [] = []
each_alone (x ∷ xs) = record { piece = x; len = 1 } ∷ each_alone xs

-- n times these pieces, and then the rest
abbrev pub times_then : ℕ → List Piece → List Piece → List Piece
times_then zero xs rest = rest
times_then (suc n) xs rest = xs ++ times_then n xs rest

-- a bound over `A` and `B` inside `A + B*2^(` and `)`, n times: each adds the three levels of a sum, a product and a power
abbrev pub in_terms : ℕ → List Piece → List Inner
in_terms n xs =
    each_alone (times_then n (Variable 0 ∷ Blank ∷ Plus ∷ Blank ∷ Variable 1 ∷ Times ∷ Number 2 ∷ Caret ∷ Open ∷ [])
    (xs ++ times_then n (Close ∷ []) []))

-- `max(A, i*j)*B`, of variables with these numbers
abbrev pub pushed : ℕ → ℕ → List Piece
pushed i j =
    Maximum ∷ Variable 0 ∷ Comma ∷ Blank ∷ Variable i ∷ Times ∷ Variable j ∷ Close ∷ Times ∷ Variable 1 ∷ []

-- a refusal at a position
abbrev pub refusal : ProofKind → ℕ → Fault ProofKind
refusal kind at = record { kind = kind; at = at }

-- bounds of 200 levels are read, and those of one more are refused
pub record LevelsAreWorkedOut : Type 0 where
  pub deepest : deep_part (alone (tower 199)) ≡ None
  pub one_deeper : deep_part (alone (tower 200)) ≡ Some 599
  -- a part is refused at its beginning if later pieces push it too deep
  pub pushed_down : bound_answer 2 (in_terms 66 (pushed 0 1)) ≡ Refused (refusal TooDeep 595)
  -- two names that aren't listed are two variables
  pub unlisted : bound_answer 2 (in_terms 66 (pushed 600 602)) ≡ Refused (refusal TooDeep 595)
  -- a variable can't follow itself, so the pieces after that aren't examined
  pub twice : bound_answer 2 (in_terms 66 (pushed 1 1)) ≡ Refused (refusal TooDeep 598)

-- of two refusals the one at the lesser position comes first, and of two at one position the one that is listed first
-- here
pub record OrderIsWorkedOut : Type 0 where
  pub position : is_before (refusal Limit 4) (refusal Syntax 5) ≡ true
  pub behind : is_before (refusal Syntax 5) (refusal Limit 4) ≡ false
  pub syntax : is_before (refusal Syntax 5) (refusal NumberTooLarge 5) ≡ true
  pub too_large : is_before (refusal NumberTooLarge 5) (refusal TooDeep 5) ≡ true
  pub too_deep : is_before (refusal TooDeep 5) (refusal BadReference 5) ≡ true
  pub reference : is_before (refusal BadReference 5) (refusal Limit 5) ≡ true
  pub limit : is_before (refusal Limit 5) (refusal BadReference 5) ≡ false
  pub same : is_before (refusal Limit 5) (refusal Limit 5) ≡ false

-- the kinds of a bound's refusals as those of a proof file
pub record KindsAreWorkedOut : Type 0 where
  pub name : kind_of kinds.UnknownName ≡ BadReference
  pub size : kind_of kinds.TooLarge ≡ Limit
  pub levels : kind_of kinds.TooDeep ≡ TooDeep
  pub number : kind_of kinds.NumberTooLarge ≡ NumberTooLarge
  pub syntax : kind_of kinds.Syntax ≡ Syntax

-- all worked values of bounds inside proof files
pub record BoundsAreWorkedOut : Type 0 where
  pub levels : LevelsAreWorkedOut
  pub order : OrderIsWorkedOut
  pub kinds : KindsAreWorkedOut
