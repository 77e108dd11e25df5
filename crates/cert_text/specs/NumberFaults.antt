-- The faults of the pieces of a proof file, and their positions.
use Rattle.std.specs.Prelude.{ℕ, ◌+◌, ◌-◌, Bool, true, false, not, ◌||◌, ◌&&◌, ◌==◌, nat_lt, nat_le, is_some}
use Rattle.std.specs.Prelude.{List, [], ◌∷◌, ◌++◌, length, take, Option, Some, None, if◌then◌else◌}
use Rattle.its_model.specs.model.Programs.{Program, Rule, rule_at, arity_of}
use Rattle.its_model.specs.model.Bounds.{Bound, Constant}
use Rattle.cert_types.specs.rule_forms.linear_forms.Limits.{certificate_limit, point_limit}
use Rattle.bound_text.specs.declared.piece.Piece.{Piece as BoundPiece}
use Rattle.text_grammar.specs.text_core.Choices.{when}
use Rattle.text_grammar.specs.text_core.Reading.{Answer, Parsed, Refused}
use Rattle.cert_lexer.specs.declared.inner.Inner.{Inner}
use Rattle.cert_lexer.specs.declared.piece.Word.{Word}
use Rattle.cert_lexer.specs.declared.piece.Word.TheVariants as word
use Rattle.cert_lexer.specs.declared.piece.Behind.{Behind}
use Rattle.cert_lexer.specs.declared.piece.Behind.TheVariants as behind
use Rattle.cert_lexer.specs.declared.piece.Piece.{Piece}
use Rattle.cert_lexer.specs.declared.piece.Piece.TheVariants.{First, Name, Number, Sign as ASign, Place, InBound}
use Rattle.cert_lexer.specs.declared.piece.Piece.TheVariants.{Wrong}
use Rattle.cert_text.specs.declared.phase.Next.{Next}
use Rattle.cert_text.specs.declared.phase.Next.TheVariants as next
use Rattle.cert_lexer.specs.declared.kind.ProofKind.{ProofKind}
use Rattle.cert_lexer.specs.declared.kind.ProofKind.TheVariants as kind
use Rattle.cert_text.specs.Spelled.{level_limit, lemma_limit, gap_limit}
use Rattle.cert_text.specs.Texts.{name_at}
use Rattle.cert_lexer.specs.Bounds.{bound_answer}
use Rattle.cert_text.specs.Remembered.{State, in_64}

-- the first kind if there is one, else the other: of two faults at one position the first is reported
abbrev pub or_else : Option ProofKind → Option ProofKind → Option ProofKind
or_else (Some a) other = Some a
or_else None other = other

-- the greatest number that is read in this state
abbrev pub number_limit : State → ℕ
number_limit s = if s.in_gap then point_limit else certificate_limit

-- whether there is an earlier lemma with this number
abbrev pub has_lemma : State → ℕ → Bool
has_lemma s n = nat_lt 0 n && nat_le n (length s.lemmas)

-- whether a rule has a place of its target with this number
abbrev pub has_place : Program → Option Rule → ℕ → Bool
has_place p None n = false
has_place p (Some r) n = nat_lt 0 n && nat_le n (arity_of p r.target)

-- the fault of a number that is over the limit
abbrev pub too_large : State → ℕ → Option ProofKind
too_large s n = when (nat_lt (number_limit s) n) kind.NumberTooLarge

-- the fault of a number: it is too large, or there is no such earlier lemma, rule or place
abbrev pub fault_of_number : Program → State → Next → ℕ → Option ProofKind
fault_of_number p s next.Nothing n = None
fault_of_number p s next.Node n = None
fault_of_number p s next.Symbol n = None
fault_of_number p s next.Lemma n =
    or_else (too_large s n)
    (when (not (has_lemma s n)) kind.BadReference)
fault_of_number p s next.Rule n =
    or_else (too_large s n)
    (when (not (is_some (rule_at p n))) kind.BadReference)
fault_of_number p s next.Place n =
    or_else (too_large s n)
    (when (not (has_place p (rule_at p s.draft.rule) n)) kind.BadReference)
fault_of_number p s next.Number n = too_large s n

-- the fault of a word that begins a node: `cost` under version 1, or a node that is too deep
abbrev pub is_cost : Word → Bool
is_cost word.Cost = true
is_cost w = false

abbrev pub fault_of_node : State → Word → Option ProofKind
fault_of_node s w =
    or_else (when (is_cost w && not s.priced) kind.Syntax) (when (nat_lt level_limit s.levels) kind.TooDeep)

-- the fault of a word that begins a line: one lemma or gap too many, or an `end` under version 2 without a node on
-- costs
abbrev pub fault_of_line : State → Word → Option ProofKind
fault_of_line s word.Lemma = when (nat_le lemma_limit (length s.lemmas)) kind.Limit
fault_of_line s word.Gap = when (nat_le gap_limit (length s.gaps)) kind.Limit
fault_of_line s word.End = when (s.priced && not s.paid) kind.Syntax
fault_of_line s w = None

-- the fault of a name: no such symbol, or the fault of the word that it is
abbrev pub fault_of_name : Program → State → Next → Word → ℕ → Option ProofKind
fault_of_name p s next.Symbol w symbol = when (nat_le (length p.symbols) symbol) kind.BadReference
fault_of_name p s next.Node w symbol = fault_of_node s w
fault_of_name p s coming w symbol = fault_of_line s w

-- the fault of the part after the name of a symbol that exists, as the number of one of its places
abbrev pub fault_of_behind : Program → State → ℕ → Behind → Option ProofKind
fault_of_behind p s symbol behind.NoNumber = Some kind.Syntax
fault_of_behind p s symbol behind.Nothing = Some kind.Syntax
fault_of_behind p s symbol behind.LeadingZero = Some kind.Syntax
fault_of_behind p s symbol (behind.Number n) =
    or_else (too_large s n)
    (when ((n == 0) || nat_lt (arity_of p symbol) n) kind.BadReference)

-- the fault of a place in a list of shut places: no such symbol, or no such place of it
abbrev pub fault_of_place : Program → State → ℕ → Behind → Option ProofKind
fault_of_place p s symbol b =
    or_else (when (nat_le (length p.symbols) symbol) kind.BadReference) (fault_of_behind p s symbol b)

-- the number of bytes before the fault of a place: none if there is no such symbol; the name if no number follows it;
-- else the name and the dot
abbrev pub name_bytes : Program → ℕ → Behind → ℕ
name_bytes p symbol behind.NoNumber = if nat_le (length p.symbols) symbol then 0 else length (name_at p symbol)
name_bytes p symbol b = if nat_le (length p.symbols) symbol then 0 else length (name_at p symbol) + 1

-- the number of bytes of pieces of a bound
abbrev pub bytes_of : List Inner → ℕ
bytes_of [] = 0
bytes_of (i ∷ is) = i.len + bytes_of is

-- the answer to a bound as a text of its own, over the start arguments of a program
abbrev pub read_bound : Program → List Inner → Answer Bound ProofKind
read_bound p is = bound_answer (length p.start_names) is

-- parts of an answer to a bound: the kind of its refusal; the bound if there is none; and the number of pieces before
-- the refused one
abbrev pub fault_of_answer : Answer Bound ProofKind → Option ProofKind
fault_of_answer (Parsed b) = None
fault_of_answer (Refused x) = Some x.kind

abbrev pub bound_in : Answer Bound ProofKind → Bound
bound_in (Parsed b) = b
bound_in (Refused x) = Constant 0

abbrev pub refused_before : Answer Bound ProofKind → ℕ
refused_before (Parsed b) = 0
refused_before (Refused x) = x.at

-- the pieces of the bound that ends with this piece
abbrev pub with_last : State → BoundPiece → ℕ → List Inner
with_last s piece len = s.pieces ++ record { piece = piece; len = len } ∷ []

-- the fault of a piece that can follow; for the last piece of a bound it is the first refusal of the bound
abbrev pub fault_of_piece : Program → State → Piece → Option ProofKind
fault_of_piece p s First = None
fault_of_piece p s (Name w symbol) = fault_of_name p s s.coming w symbol
fault_of_piece p s (Number n) = fault_of_number p s s.coming n
fault_of_piece p s (ASign mark) = None
fault_of_piece p s (Place symbol b) = fault_of_place p s symbol b
fault_of_piece p s (InBound piece len true) = fault_of_answer (read_bound p (with_last s piece len))
fault_of_piece p s (InBound piece len false) = None
fault_of_piece p s Wrong = None

-- the position of the refusal of a bound, where `at` is the position of its last piece: the bound's beginning plus the
-- bytes of the pieces before the refused one
abbrev pub position_in_bound : List Inner → List Inner → Answer Bound ProofKind → ℕ → ℕ
position_in_bound before is a at = at - bytes_of before + bytes_of (take (refused_before a) is)

-- the position of a piece's fault, where the piece is at this position; positions from 2^64-1 on count as that one
abbrev pub position_of : Program → State → Piece → ℕ → ℕ
position_of p s (Place symbol b) at = in_64 (at + name_bytes p symbol b)
position_of p s (InBound piece len last) at =
    in_64 (position_in_bound s.pieces (with_last s piece len) (read_bound p (with_last s piece len)) at)
position_of p s piece at = at
