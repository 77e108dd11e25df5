-- Bounds inside a proof file: a bound is read as a text of its own; if that refuses it, a part that is too deep is
-- refused at the piece with which it begins, if that comes first.
use Rattle.std.specs.Prelude.{◌≡◌, ℕ, suc, Bool, false, nat_lt, ◌==◌, ◌&&◌, ◌||◌, if◌then◌else◌, List, [], ◌∷◌, map, length}
use Rattle.std.specs.Prelude.{Option, Some, None}
use Rattle.std.specs.List.{position}
use Rattle.its_model.specs.model.Bounds.{Bound}
use Rattle.bound_expr.specs.Numbers.{ReadsBelow}
use Rattle.bound_expr.specs.Tidy.{IsTidy}
use Rattle.bound_expr.specs.Views.{bound_of}
use Rattle.bound_text.specs.Pieces.{Piece}
use Rattle.bound_text.specs.Printing.{piece_of}
use Rattle.bound_text.specs.Kinds.{Kind}
use Rattle.bound_text.specs.Kinds as kinds
use Rattle.bound_text.specs.ParserStates.{ParserState}
use Rattle.bound_text.specs.Steps.{beginning, step}
use Rattle.bound_text.specs.Reading.{bounds}
use Rattle.bound_text.specs.Texts.{IsWithin}
use Rattle.bound_text.specs.Writing.{pieces_of}
use Rattle.bound_text.specs.Inside.{marks_of_state}
use Rattle.bound_text.specs.declared.fault.Fault as bound_fault
use Rattle.bound_text.specs.declared.fault.Fault.TheVariants as faults
use Rattle.text_grammar.specs.text_core.Tokens.{Token}
use Rattle.text_grammar.specs.text_core.Readers.{Fault}
use Rattle.text_grammar.specs.text_core.Reading.{Answer, Parsed, Refused, answer}
use Rattle.text_grammar.specs.Marks.{refusal_of}
use Rattle.cert_lexer.specs.declared.inner.Inner.{Inner}
use Rattle.cert_lexer.specs.declared.inner.BoundRead as code
use Rattle.cert_lexer.specs.declared.inner.BoundRead.TheVariants as read
use Rattle.cert_lexer.specs.declared.kind.ProofKind.{ProofKind}
use Rattle.cert_lexer.specs.declared.kind.ProofKind.TheVariants.{Syntax, NumberTooLarge, TooDeep, BadReference, Limit}

-- the number of a kind: of two refusals at one position that with the lesser number comes first
abbrev pub number_of : ProofKind → ℕ
number_of Syntax = 1
number_of NumberTooLarge = 2
number_of TooDeep = 3
number_of BadReference = 4
number_of Limit = 5

-- a bound inside a proof may have this many levels
abbrev pub bound_levels : ℕ
bound_levels = 200

-- the kind of a refusal of a bound
abbrev pub kind_of : Kind → ProofKind
kind_of kinds.Syntax = Syntax
kind_of kinds.NumberTooLarge = NumberTooLarge
kind_of kinds.UnknownName = BadReference
kind_of kinds.TooDeep = TooDeep
kind_of kinds.TooLarge = Limit

-- the kind of a refusal of the code of bounds, which is none where memory ran out
abbrev pub kind_from : bound_fault.Fault → Option ProofKind
kind_from faults.Syntax = Some Syntax
kind_from faults.NumberTooLarge = Some NumberTooLarge
kind_from faults.UnknownName = Some BadReference
kind_from faults.TooDeep = Some TooDeep
kind_from faults.TooLarge = Some Limit
kind_from faults.Memory = None

-- a refusal of a bound as one of a proof
abbrev pub as_cert_refusal : Fault Kind → Fault ProofKind
as_cert_refusal x = record { kind = kind_of x.kind; at = x.at }

-- the answer that is a refusal of this kind at a position
abbrev pub refused_at : ℕ → ProofKind → Answer Bound ProofKind
refused_at at kind = Refused (record { kind = kind; at = at })

-- pieces as plain data
abbrev pub pieces_in : List Inner → List Piece
pieces_in xs = map (λ x. piece_of x.piece) xs

-- the pieces of a bound as tokens whose positions are their numbers
abbrev pub counted_from : ℕ → List Inner → List (Token Piece)
counted_from i [] = []
counted_from i (x ∷ xs) = record { piece = piece_of x.piece; at = i; upto = suc i } ∷ counted_from (suc i) xs

-- an answer with the kinds of a proof file
abbrev pub as_cert_answer : Answer Bound Kind → Answer Bound ProofKind
as_cert_answer (Parsed b) = Parsed b
as_cert_answer (Refused x) = Refused (as_cert_refusal x)

-- the answer to the pieces of a whole bound as a text of their own, over n start arguments
abbrev pub answer_alone : ℕ → List Inner → Answer Bound ProofKind
answer_alone n xs = as_cert_answer (answer (bounds n) (length xs) (counted_from 0 xs))

-- the state in which reading stops that has come to a state: where a piece can't follow, or at the end
abbrev pub last_state : ParserState → Option ParserState → List Piece → ParserState
last_state f None ps = f
last_state f (Some g) [] = g
last_state f (Some g) (p ∷ ps) = last_state g (step g p) ps

abbrev pub stops_in : List Piece → ParserState
stops_in ps = last_state beginning (Some beginning) ps

-- whether a mark is deeper than the limit
abbrev pub is_deep : Option ℕ → Bool
is_deep None = false
is_deep (Some level) = nat_lt bound_levels level

-- the number of the piece with which the first part begins that is too deep in the tree so far, if one is
abbrev pub deep_part : ParserState → Option ℕ
deep_part f = position is_deep (marks_of_state f)

-- a refusal comes before another: it is at a lesser position, or at the same one with a lesser number
abbrev pub is_before : Fault ProofKind → Fault ProofKind → Bool
is_before x y = nat_lt x.at y.at || ((x.at == y.at) && nat_lt (number_of x.kind) (number_of y.kind))

-- the first of two refusals
abbrev pub earlier : Fault ProofKind → Fault ProofKind → Fault ProofKind
earlier x y = if is_before y x then y else x

-- the first of a refusal and that of the part that is too deep which begins with this piece, if one is
abbrev pub refusal_with : Fault ProofKind → Option ℕ → Fault ProofKind
refusal_with x None = x
refusal_with x (Some at) = earlier x (record { kind = TooDeep; at = at })

abbrev pub answer_with : Answer Bound ProofKind → Option ℕ → Answer Bound ProofKind
answer_with (Parsed b) deep = Parsed b
answer_with (Refused x) deep = Refused (refusal_with x deep)

-- the answer to the pieces of a whole bound: that to them as a text of their own, but a refusal gives way to that of the
-- first part that is too deep where reading stops, if this comes first
abbrev pub bound_answer : ℕ → List Inner → Answer Bound ProofKind
bound_answer n xs = answer_with (answer_alone n xs) (deep_part (stops_in (pieces_in xs)))

-- the result of reading, as an answer
abbrev pub answer_of : code.BoundRead → Answer Bound ProofKind
answer_of (read.Parsed b) = Parsed (bound_of b)
answer_of (read.Refused x) = Refused (refusal_of x)

-- the answer to pieces that spell a tidy bound within the limits, over n start arguments, is that bound
pub record BoundsAreAnswered : Type 0 where
  pub each : (n : ℕ) (b : Bound) (xs : List Inner) → IsTidy b → ReadsBelow n b → IsWithin b
      → map (λ x. piece_of x.piece) xs ≡ pieces_of b → bound_answer n xs ≡ Parsed b

-- the bound is tidy, within the limits, over n start arguments, and spelled by these pieces
pub record IsSpelled (n : ℕ) (b : Bound) (xs : List Inner) : Type 0 where
  pub tidy : IsTidy b
  pub listed : ReadsBelow n b
  pub within : IsWithin b
  pub spells : map (λ x. piece_of x.piece) xs ≡ pieces_of b

pub record BoundsAreSpelled : Type 0 where
  pub each : (n : ℕ) (b : Bound) (xs : List Inner) → bound_answer n xs ≡ Parsed b → IsSpelled n b xs
