-- How a proof file is cut into pieces.
use Rattle.std.specs.Prelude.{ℕ, ◌-◌, ◌+◌, ◌^◌, min, ◌==◌, ◌&&◌, ◌||◌, nat_le, nat_lt, Bool, true, false, not}
use Rattle.std.specs.Prelude.{if◌then◌else◌}
use Rattle.std.specs.Prelude.{List, [], ◌∷◌, length, take, drop, map, codes, Option, Some, None}
use Rattle.std.specs.List.{list_all}
use Rattle.std.specs.Char.{is_ascii_digit}
use Rattle.its_model.specs.model.Programs.{Name as NameBytes, Program}
use Rattle.bound_expr.specs.Limits.{cap}
use Rattle.bound_text.specs.declared.piece.Piece.{Piece as BoundPiece}
use Rattle.bound_text.specs.declared.piece.Piece.TheVariants as bound
use Rattle.bound_text.specs.Pieces as pieces
use Rattle.bound_text.specs.Lexing as bounds
use Rattle.text_grammar.specs.text_core.Prefixes.{prefix}
use Rattle.text_grammar.specs.text_core.Names.{begins_name, continues_name, is_same, position_of}
use Rattle.text_grammar.specs.text_core.Bytes.{has_leading_zero, value_up_to}
use Rattle.text_grammar.specs.text_core.Tokens.{Token, Lexeme, Lexer, tokens_in}
use Rattle.cert_lexer.specs.declared.piece.Word.{Word}
use Rattle.cert_lexer.specs.declared.piece.Word.TheVariants as word
use Rattle.cert_lexer.specs.declared.piece.Sign.TheVariants as sign
use Rattle.cert_lexer.specs.declared.piece.Behind.{Behind}
use Rattle.cert_lexer.specs.declared.piece.Behind.TheVariants as behind
use Rattle.cert_lexer.specs.declared.piece.Piece.{Piece}
use Rattle.cert_lexer.specs.declared.piece.Piece.TheVariants.{First, Name, Number, Sign as ASign, Place, InBound}
use Rattle.cert_lexer.specs.declared.piece.Piece.TheVariants.{Wrong}
use Rattle.cert_lexer.specs.declared.piece.Mode.{Mode}
use Rattle.cert_lexer.specs.declared.piece.Mode.TheVariants as mode

-- a word, and the bytes that spell it
pub record Spelled : Type 0 where
  pub bytes : NameBytes
  pub word : Word

abbrev pub spelled : NameBytes → Word → Spelled
spelled bytes w = record { bytes = bytes; word = w }

-- the words of proof files: those that begin lines and nodes, those inside nodes, and those of gaps
abbrev pub node_words : List Spelled
node_words =
    spelled (codes "lemma") word.Lemma ∷
    spelled (codes "gap") word.Gap ∷
    spelled (codes "end") word.End ∷
    spelled (codes "cite") word.Cite ∷
    spelled (codes "start") word.Start ∷
    spelled (codes "empty") word.Empty ∷
    spelled (codes "unreached") word.Unreached ∷
    spelled (codes "never") word.Never ∷
    spelled (codes "rank") word.Rank ∷
    spelled (codes "spread") word.Spread ∷
    spelled (codes "cycle") word.Cycle ∷
    spelled (codes "weaken") word.Weaken ∷
    spelled (codes "cost") word.Cost ∷
    []

abbrev pub other_words : List Spelled
other_words =
    spelled (codes "uses") word.Uses ∷
    spelled (codes "set") word.Set ∷
    spelled (codes "den") word.Den ∷
    spelled (codes "forms") word.Forms ∷
    spelled (codes "moves") word.Moves ∷
    spelled (codes "floor") word.Floor ∷
    spelled (codes "up") word.Up ∷
    spelled (codes "low") word.Low ∷
    spelled (codes "poly") word.Poly ∷
    spelled (codes "lin") word.Lin ∷
    spelled (codes "to") word.To ∷
    spelled (codes "shut") word.Shut ∷
    spelled (codes "kept") word.Kept ∷
    []

-- the word in the list that a name is, if it is one, or else the other word
abbrev pub word_among : List Spelled → Word → NameBytes → Word
word_among [] other name = other
word_among (w ∷ ws) other name = if is_same name w.bytes then w.word else word_among ws other name

-- the word that a name is, if it is one
abbrev pub word_of : NameBytes → Word
word_of name = word_among node_words (word_among other_words word.Other name) name

-- the position of a name in a list, or the list's length; positions from 2^32-1 on count as that one
abbrev pub symbol_of : List NameBytes → NameBytes → ℕ
symbol_of names name = min (position_of name names) (2 ^ 32 - 1)

-- a piece with the number of its bytes
abbrev pub lexeme : Piece → ℕ → Lexeme (Option Piece)
lexeme piece len = record { piece = Some piece; len = len }

-- the lexeme of a name, among the names of symbols
abbrev pub name_lexeme : List NameBytes → NameBytes → Lexeme (Option Piece)
name_lexeme symbols name = lexeme (Name (word_of name) (symbol_of symbols name)) (length name)

-- the lexeme of digits
abbrev pub digits_lexeme : List ℕ → Lexeme (Option Piece)
digits_lexeme digits =
    lexeme (if has_leading_zero digits then Wrong else Number (value_up_to cap digits)) (length digits)

-- the piece of a byte that begins neither a name nor a number
abbrev pub sign_at : ℕ → Piece
sign_at b =
    if b == 32 then ASign sign.Blank
    else if b == 10 then ASign sign.LineFeed
    else if b == 91 then ASign sign.OpenSquare
    else if b == 93 then ASign sign.CloseSquare
    else if b == 123 then ASign sign.OpenBrace
    else if b == 125 then ASign sign.CloseBrace
    else if b == 40 then ASign sign.Open
    else if b == 41 then ASign sign.Close
    else if b == 59 then ASign sign.Semicolon
    else if b == 46 then ASign sign.Dot
    else if b == 45 then ASign sign.Minus
    else Wrong

-- the lexeme that begins with byte b where nothing is open; it takes the longest name, or the longest row of digits
abbrev pub plain_lexeme : List NameBytes → ℕ → List ℕ → Lexeme (Option Piece)
plain_lexeme symbols b bytes =
    if begins_name b then name_lexeme symbols (b ∷ prefix continues_name bytes)
    else if is_ascii_digit b then digits_lexeme (b ∷ prefix is_ascii_digit bytes)
    else lexeme (sign_at b) 1

-- whether bytes continue a name
abbrev pub goes_on : List ℕ → Bool
goes_on [] = false
goes_on (b ∷ bytes) = continues_name b

-- bytes begin with `koat-proof`, and not with a longer word
abbrev pub is_first : List ℕ → Bool
is_first bytes =
    nat_le 10 (length bytes) && is_same (take 10 bytes) (codes "koat-proof") && not (goes_on (drop 10 bytes))

-- the bytes after the last dot, or else those given
abbrev pub behind_last_dot : Option (List ℕ) → List ℕ → Option (List ℕ)
behind_last_dot before [] = before
behind_last_dot before (b ∷ bytes) = behind_last_dot (if b == 46 then Some bytes else before) bytes

-- the meaning of the digits after a dot
abbrev pub behind_dot : List ℕ → Behind
behind_dot [] = behind.Nothing
behind_dot (b ∷ bytes) =
    if has_leading_zero (b ∷ bytes) then behind.LeadingZero else behind.Number (value_up_to cap (b ∷ bytes))

-- the piece of a run of bytes in a list of shut places: the symbol before its last dot and the number after it; a run
-- without a dot, or whose last dot is followed by other bytes than digits, is a name
abbrev pub place_in : List NameBytes → List ℕ → Option (List ℕ) → Piece
place_in symbols run None = Place (symbol_of symbols run) behind.NoNumber
place_in symbols run (Some after) =
    if list_all is_ascii_digit after
    then Place (symbol_of symbols (take (length run - length after - 1) run)) (behind_dot after)
    else Place (symbol_of symbols run) behind.NoNumber

abbrev pub place_lexeme : List NameBytes → List ℕ → Lexeme (Option Piece)
place_lexeme symbols run = lexeme (place_in symbols run (behind_last_dot None run)) (length run)

-- the variable of a name at a position among n start arguments. Each occurrence of a name that is none of them is a
-- variable of its own: n plus the number of the bound's pieces before it; variables from 2^32-1 on count as that one
abbrev pub variable_at : ℕ → ℕ → ℕ → ℕ
variable_at n before i = min (if nat_lt i n then i else i + before) (2 ^ 32 - 1)

-- a piece of a bound over n start arguments, after this many others
abbrev pub bound_piece : ℕ → ℕ → pieces.Piece → BoundPiece
bound_piece n before (pieces.Variable i) = bound.Variable (variable_at n before i)
bound_piece n before (pieces.Number value) = bound.Number value
bound_piece n before pieces.Maximum = bound.Maximum
bound_piece n before pieces.Open = bound.Open
bound_piece n before pieces.Close = bound.Close
bound_piece n before pieces.Times = bound.Times
bound_piece n before pieces.Caret = bound.Caret
bound_piece n before pieces.Plus = bound.Plus
bound_piece n before pieces.Blank = bound.Blank
bound_piece n before pieces.Comma = bound.Comma
bound_piece n before pieces.Wrong = bound.Wrong

-- a byte ends a bound with this many open brackets: a closing bracket that closes none of these, or what follows a node
abbrev pub ends_bound : ℕ → ℕ → Bool
ends_bound depth b = (b == 59) || (b == 125) || (b == 10) || ((b == 41) && (depth == 0))

-- a bound with this many open brackets ends before these bytes, or with the text
abbrev pub ends_before : ℕ → List ℕ → Bool
ends_before depth [] = true
ends_before depth (b ∷ bytes) = ends_bound depth b

-- the number of open brackets after a piece of a bound, at most 2^64-1
abbrev pub depth_behind : ℕ → BoundPiece → ℕ
depth_behind depth bound.Open = min (depth + 1) (2 ^ 64 - 1)
depth_behind depth bound.Maximum = min (depth + 1) (2 ^ 64 - 1)
depth_behind depth bound.Close = depth - 1
depth_behind depth piece = depth

-- the number of pieces of a bound before the next piece, at most 2^64-1; 0 after the bound's last piece
abbrev pub pieces_behind : ℕ → Bool → ℕ
pieces_behind before true = 0
pieces_behind before false = min (before + 1) (2 ^ 64 - 1)

-- the lexeme of a piece of a bound with this many open brackets, before these bytes
abbrev pub inner_lexeme : ℕ → List ℕ → BoundPiece → ℕ → Lexeme (Option Piece)
inner_lexeme depth behind piece len = lexeme (InBound piece len (ends_before (depth_behind depth piece) behind)) len

-- the first piece of a bound over n start arguments in bytes, after this many others
abbrev pub bound_lexeme : ℕ → ℕ → ℕ → List ℕ → Lexeme pieces.Piece → Lexeme (Option Piece)
bound_lexeme n depth before bytes l = inner_lexeme depth (drop l.len bytes) (bound_piece n before l.piece) l.len

-- the names of the symbols of a program
abbrev pub symbol_names : Program → List NameBytes
symbol_names p = map (λ s. s.name) p.symbols

-- the piece that bytes begin with in a mode, where symbols and start arguments have these names
abbrev pub lexeme_in : List NameBytes → List NameBytes → Mode → ℕ → List ℕ → Lexeme (Option Piece)
lexeme_in symbols arguments mode.Beginning b bytes =
    if is_first (b ∷ bytes) then lexeme First 10 else plain_lexeme symbols b bytes
lexeme_in symbols arguments mode.InShut b bytes =
    if begins_name b then place_lexeme symbols (b ∷ prefix continues_name bytes) else plain_lexeme symbols b bytes
lexeme_in symbols arguments (mode.InBound depth before) b bytes =
    if ends_bound depth b then plain_lexeme symbols b bytes
    else bound_lexeme (length arguments) depth before (b ∷ bytes) (bounds.lexeme_at arguments b bytes)
lexeme_in symbols arguments mode.Plain b bytes = plain_lexeme symbols b bytes
lexeme_in symbols arguments mode.Closed b bytes = plain_lexeme symbols b bytes
lexeme_in symbols arguments mode.ClosedBlank b bytes = plain_lexeme symbols b bytes
lexeme_in symbols arguments mode.To b bytes = plain_lexeme symbols b bytes

-- the mode after a piece, if no list and no bound is open before it
abbrev pub plain_behind : Piece → Mode
plain_behind (Name word.Shut symbol) = mode.InShut
plain_behind (ASign sign.Close) = mode.Closed
plain_behind piece = mode.Plain

-- the mode after a piece: a list of shut places continues up to its `]`, and a bound begins after `) to `
abbrev pub mode_with : Mode → Piece → Mode
mode_with mode.InShut (ASign sign.CloseSquare) = mode.Plain
mode_with mode.InShut piece = mode.InShut
mode_with mode.Closed (ASign sign.Blank) = mode.ClosedBlank
mode_with mode.ClosedBlank (Name word.To symbol) = mode.To
mode_with mode.To (ASign sign.Blank) = mode.InBound 0 0
mode_with (mode.InBound depth before) (InBound piece len last) =
    mode.InBound (depth_behind depth piece) (pieces_behind before last)
mode_with m piece = plain_behind piece

abbrev pub mode_behind : Mode → Option Piece → Mode
mode_behind m None = m
mode_behind m (Some piece) = mode_with m piece

-- the lexer of proof files, given the names of symbols and of start arguments
abbrev pub lexer_with : List NameBytes → List NameBytes → Lexer Piece Mode
lexer_with symbols arguments = record { lexeme_in = lexeme_in symbols arguments; mode_behind = mode_behind }

-- the lexer of a program's proof files, and their tokens
abbrev pub lexer_of : Program → Lexer Piece Mode
lexer_of p = lexer_with (symbol_names p) p.start_names

abbrev pub tokens : Program → List ℕ → List (Token Piece)
tokens p bytes = tokens_in (lexer_of p) mode.Beginning 0 0 bytes
