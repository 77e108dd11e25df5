-- The tests that the code makes on a guard.
use Rattle.std.specs.Prelude.{◌≡◌, Bool, true, false, not, ◌&&◌, Option, Some, None}
use Rattle.expr_text.specs.Pieces.{Sign, Piece, Word, Digits, Open, Close, Plus, Minus, Times, Caret, Related, Joining}
use Rattle.expr_text.specs.Guards.{relation_of}
use Rattle.expr_text.specs.StateNames.{truth_worded}
use Rattle.expr_text.specs.TermGrammarStates as terms
use Rattle.expr_reader.specs.declared.piece.Piece as code
use Rattle.expr_reader.specs.declared.piece.Sign as signs
use Rattle.expr_reader.specs.declared.guard.GuardState.{GuardState}
use Rattle.expr_reader.specs.declared.guard.GuardState.TheVariants.{AtomWanted, LeftSide, RightSide, AtomRead}
use Rattle.expr_reader.specs.declared.guard.GuardReader.{GuardReader}
use Rattle.expr_reader.specs.declared.expression.Expression.{Expression}
use Rattle.expr_reader.specs.Views.{grammar_state_of, sign_of, piece_of, term_in}
use Rattle.expr_reader.specs.Standing.{Clears}
use Rattle.expr_reader.specs.GuardRepresentation.{relating_in}

-- the optional piece as plain data
abbrev pub piece_in : Option code.Piece → Option Piece
piece_in None = None
piece_in (Some p) = Some (piece_of p)

-- an atom must follow
abbrev pub is_wanting : GuardState → Bool
is_wanting AtomWanted = true
is_wanting LeftSide = false
is_wanting RightSide = false
is_wanting AtomRead = false

-- part of a left side has been read
abbrev pub is_left : GuardState → Bool
is_left AtomWanted = false
is_left LeftSide = true
is_left RightSide = false
is_left AtomRead = false

-- the relation has been read
abbrev pub is_right : GuardState → Bool
is_right AtomWanted = false
is_right LeftSide = false
is_right RightSide = true
is_right AtomRead = false

-- an atom has been read
abbrev pub is_read : GuardState → Bool
is_read AtomWanted = false
is_read LeftSide = false
is_read RightSide = false
is_read AtomRead = true

-- the state after a piece of an expression
abbrev pub begun_at : GuardState → GuardState
begun_at AtomWanted = LeftSide
begun_at LeftSide = LeftSide
begun_at RightSide = RightSide
begun_at AtomRead = AtomRead

-- a piece is a conjunction sign
abbrev pub is_joining : Piece → Bool
is_joining (Joining joint) = true
is_joining (Word name) = false
is_joining (Digits digits) = false
is_joining Open = false
is_joining Close = false
is_joining Plus = false
is_joining Minus = false
is_joining Times = false
is_joining Caret = false
is_joining (Related sign) = false

-- the sign of the relation that a piece is
abbrev pub sign_read : Piece → Option Sign
sign_read (Related sign) = Some sign
sign_read (Word name) = None
sign_read (Digits digits) = None
sign_read Open = None
sign_read Close = None
sign_read Plus = None
sign_read Minus = None
sign_read Times = None
sign_read Caret = None
sign_read (Joining joint) = None

abbrev pub sign_in : Option signs.Sign → Option Sign
sign_in None = None
sign_in (Some s) = Some (sign_of s)

-- a piece is a word of the atom that always holds
abbrev pub names_truth : Piece → Bool
names_truth (Word name) = truth_worded name
names_truth (Digits digits) = false
names_truth Open = false
names_truth Close = false
names_truth Plus = false
names_truth Minus = false
names_truth Times = false
names_truth Caret = false
names_truth (Related sign) = false
names_truth (Joining joint) = false

-- the expression can end; a piece continues the expression
abbrev pub can_end : Expression → Bool
can_end e = terms.is_empty (grammar_state_of e).outer && terms.has_factor (grammar_state_of e).operand

abbrev pub goes_on : Expression → Option Piece → Bool
goes_on e None = false
goes_on e (Some p) = terms.goes_on_from (grammar_state_of e).outer (grammar_state_of e).operand p

-- the right side ends before the next piece
abbrev pub ends_right : GuardReader → Option Piece → Bool
ends_right r next = is_right r.state && can_end r.expression && not (goes_on r.expression next)

-- the left side ends at a relation
pub record IsRelated (old : GuardReader) (sign : Sign) (new : GuardReader) : Type 0 where
  pub was_left : old.state ≡ LeftSide
  pub ended : can_end old.expression ≡ true
  pub state_is : new.state ≡ RightSide
  pub related_is : relating_in new.related
      ≡ Some (record { left = term_in old.expression; relation = relation_of sign })
  pub cleared : Clears old.expression new.expression
  pub atoms_are : new.atoms ≡ old.atoms

-- a relation is taken after a left side that can end; elsewhere nothing changes
pub record IsUnrelated (old new : GuardReader) : Type 0 where
  pub kept : new ≡ old
  pub not_left : is_left old.state && can_end old.expression ≡ false

abbrev pub Relates : GuardReader → Sign → Bool → GuardReader → Type 0
Relates old sign true new = IsRelated old sign new
Relates old sign false new = IsUnrelated old new
