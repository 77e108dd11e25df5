-- The worked values of how small beginnings of proof files are cut, and where they break off.
use Rattle.std.proofs.Common.{ℕ, ◌<◌, Bool, true, false, cond, refl, arith, lit<}
use Rattle.std.specs.Prelude.{◌==◌}
use Rattle.cert_lexer.specs.declared.piece.Word.{Word}
use Rattle.cert_lexer.specs.declared.piece.Word.TheVariants as word
use Rattle.cert_lexer.specs.declared.piece.Sign.{Sign}
use Rattle.cert_lexer.specs.declared.piece.Sign.TheVariants as sign
use Rattle.cert_lexer.specs.declared.piece.Piece.{Piece}
use Rattle.cert_lexer.specs.declared.piece.Piece.TheVariants.{First, Name, Number, Sign as ASign, Place, InBound, Wrong}
use Rattle.cert_lexer.specs.Grammar.{class_of, class_of_word, class_of_sign, class_of_number}
use Rattle.text_grammar.specs.Texts.{IsLawful}
use Rattle.cert_text.specs.WorkedReading.{bare, CutsAreWorkedOut, BreaksAreWorkedOut, ReadingIsWorkedOut}
use Rattle.cert_lexer.proofs.ReadableGrammar.{readable}

-- the class of each piece is below 46
word_classed : (w : Word) → class_of_word w < 46
word_classed word.Lemma = lit< tt
word_classed word.Gap = lit< tt
word_classed word.End = lit< tt
word_classed word.Cite = lit< tt
word_classed word.Start = lit< tt
word_classed word.Empty = lit< tt
word_classed word.Unreached = lit< tt
word_classed word.Never = lit< tt
word_classed word.Rank = lit< tt
word_classed word.Spread = lit< tt
word_classed word.Cycle = lit< tt
word_classed word.Weaken = lit< tt
word_classed word.Cost = lit< tt
word_classed word.Uses = lit< tt
word_classed word.Set = lit< tt
word_classed word.Den = lit< tt
word_classed word.Forms = lit< tt
word_classed word.Moves = lit< tt
word_classed word.Floor = lit< tt
word_classed word.Up = lit< tt
word_classed word.Low = lit< tt
word_classed word.Poly = lit< tt
word_classed word.Lin = lit< tt
word_classed word.To = lit< tt
word_classed word.Shut = lit< tt
word_classed word.Kept = lit< tt
word_classed word.Other = lit< tt

sign_classed : (s : Sign) → class_of_sign s < 46
sign_classed sign.Blank = lit< tt
sign_classed sign.LineFeed = lit< tt
sign_classed sign.OpenSquare = lit< tt
sign_classed sign.CloseSquare = lit< tt
sign_classed sign.OpenBrace = lit< tt
sign_classed sign.CloseBrace = lit< tt
sign_classed sign.Open = lit< tt
sign_classed sign.Close = lit< tt
sign_classed sign.Semicolon = lit< tt
sign_classed sign.Dot = lit< tt
sign_classed sign.Minus = lit< tt

number_classed : (n : ℕ) → class_of_number n < 46
number_classed n = go (n == 0) (n == 1) (n == 2)
  where
    go : (a b c : Bool) → cond a 28 (cond b 29 (cond c 30 31)) < 46
    go true b c = lit< tt
    go false true c = lit< tt
    go false false true = lit< tt
    go false false false = lit< tt

pub classed : (piece : Piece) → class_of piece < 46
classed First = lit< tt
classed (Name w symbol) = word_classed w
classed (Number n) = number_classed n
classed (ASign s) = sign_classed s
classed (Place symbol b) = lit< tt
classed (InBound piece len last) = lit< tt
classed Wrong = lit< tt

-- texts of the grammar are lawful
lawful : IsLawful bare
lawful = record {
  readable = readable;
  classed = classed;
  differ = λ a b e. e;
  floor_next = λ es at. omega arith;
  floor_shown = λ es t y a. absurd a;
  floor_did = λ es m at. omega arith;
  floor_read = λ es t at some behind. omega (arith, some, behind);
}

-- the worked cuts hold
cuts : CutsAreWorkedOut
cuts = record {
  first = refl;
  longer = refl;
  again = refl;
  names = refl;
  result_variable = refl;
  leading_zero = refl;
  other = refl;
  tab = refl;
  carriage_return = refl;
  over_127 = refl;
  largest_byte = refl;
  places = refl;
  dots = refl;
  closed = refl;
  behind_bound = refl;
  ended = refl;
  open_end = refl;
  unlisted = refl;
  anew = refl;
  to_alone = refl;
}

-- the worked positions at which texts break off hold
breaks : BreaksAreWorkedOut
breaks = record {
  nothing_at_all = refl;
  no_lemma = refl;
  costs = refl;
  third = refl;
  twelve = refl;
  leading_zero = refl;
  shorter = refl;
  longer = refl;
  no_blank = refl;
  tab = refl;
  carriage_return = refl;
  no_line_feed = refl;
  lemma = refl;
  other_word = refl;
  two_blanks = refl;
  gap_first = refl;
  never = refl;
  bound = refl;
  no_bound = refl;
  minus_zero = refl;
  no_constant = refl;
}

-- all worked values of reading hold
pub reading_worked_out : ReadingIsWorkedOut
reading_worked_out = record { readable = readable; lawful = lawful; cuts = cuts; breaks = breaks }
