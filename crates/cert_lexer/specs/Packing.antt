-- Packed pieces of a bound: a mark for each, in order, and lists of the values of those that their marks don't
-- determine.
use Rattle.std.specs.Prelude.{ℕ, ◌+◌, List, [], ◌∷◌}
use Rattle.bound_text.specs.declared.piece.Piece.{Piece}
use Rattle.bound_text.specs.declared.piece.Piece.TheVariants as bound
use Rattle.cert_lexer.specs.declared.inner.Inner.{Inner}
use Rattle.cert_lexer.specs.declared.marks.Mark.{Mark}
use Rattle.cert_lexer.specs.declared.marks.Mark.TheVariants as mark
use Rattle.cert_lexer.specs.declared.marks.Short.{Short}
use Rattle.cert_lexer.specs.declared.marks.ShortKind.{ShortKind}
use Rattle.cert_lexer.specs.declared.marks.ShortKind.TheVariants as short
use Rattle.cert_lexer.specs.declared.marks.Source.{Source}
use Rattle.cert_lexer.specs.declared.marks.Source.TheVariants as source

-- a piece with this many bytes
abbrev pub inner_with : Piece → ℕ → Inner
inner_with piece len = record { piece = piece; len = len }

-- where the piece of a mark is found: the mark determines it, or it is the next of the short pieces or of the long ones
abbrev pub mark_source : Mark → Source
mark_source mark.Maximum = source.Known (inner_with bound.Maximum 4)
mark_source mark.Open = source.Known (inner_with bound.Open 1)
mark_source mark.Close = source.Known (inner_with bound.Close 1)
mark_source mark.Times = source.Known (inner_with bound.Times 1)
mark_source mark.Caret = source.Known (inner_with bound.Caret 1)
mark_source mark.Plus = source.Known (inner_with bound.Plus 1)
mark_source mark.Blank = source.Known (inner_with bound.Blank 1)
mark_source mark.Comma = source.Known (inner_with bound.Comma 1)
mark_source mark.Wrong = source.Known (inner_with bound.Wrong 1)
mark_source mark.Short = source.Shorts
mark_source mark.Long = source.Longs

-- the piece of a short form
abbrev pub short_piece : ShortKind → ℕ → Piece
short_piece short.Variable value = bound.Variable value
short_piece short.Number value = bound.Number value
short_piece short.Wrong value = bound.Wrong

abbrev pub short_inner : Short → Inner
short_inner s = inner_with (short_piece s.kind s.value) s.len

-- the next short piece and the next long one; if there is none, a piece of no bytes replaces it
abbrev pub missing : Inner
missing = inner_with bound.Wrong 0

abbrev pub next_short : List Short → Inner
next_short [] = missing
next_short (s ∷ ss) = short_inner s

abbrev pub next_long : List Inner → Inner
next_long [] = missing
next_long (l ∷ ls) = l

abbrev pub next_at : Source → List Short → List Inner → Inner
next_at (source.Known inner) ss ls = inner
next_at source.Shorts ss ls = next_short ss
next_at source.Longs ss ls = next_long ls

-- the pieces after the next one
abbrev pub tail_of : {X : Type 0} → List X → List X
tail_of [] = []
tail_of (x ∷ xs) = xs

abbrev pub shorts_behind : Source → List Short → List Short
shorts_behind (source.Known inner) ss = ss
shorts_behind source.Shorts ss = tail_of ss
shorts_behind source.Longs ss = ss

abbrev pub longs_behind : Source → List Inner → List Inner
longs_behind (source.Known inner) ls = ls
longs_behind source.Shorts ls = ls
longs_behind source.Longs ls = tail_of ls

-- the pieces of these marks, with these short and long pieces
abbrev pub unpacked : List Mark → List Short → List Inner → List Inner
unpacked [] ss ls = []
unpacked (m ∷ ms) ss ls =
    next_at (mark_source m) ss ls ∷ unpacked ms (shorts_behind (mark_source m) ss) (longs_behind (mark_source m) ls)

-- the number of short pieces, and of long ones, that marks take
abbrev pub shorts_at : Source → ℕ
shorts_at (source.Known inner) = 0
shorts_at source.Shorts = 1
shorts_at source.Longs = 0

abbrev pub longs_at : Source → ℕ
longs_at (source.Known inner) = 0
longs_at source.Shorts = 0
longs_at source.Longs = 1

abbrev pub shorts_taken : List Mark → ℕ
shorts_taken [] = 0
shorts_taken (m ∷ ms) = shorts_at (mark_source m) + shorts_taken ms

abbrev pub longs_taken : List Mark → ℕ
longs_taken [] = 0
longs_taken (m ∷ ms) = longs_at (mark_source m) + longs_taken ms
