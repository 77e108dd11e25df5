-- Which pieces belong to a class.
use Rattle.std.proofs.Common.{◌≡◌, ℕ, ◌≤◌, ◌-◌, Bool, true, false, cond, refl, ap, sym, ◌∙◌, arith}
use Rattle.std.specs.Prelude.{◌==◌, slice_index_or}
use Rattle.bound_text.specs.declared.piece.Piece.{Piece as BoundPiece}
use Rattle.cert_lexer.specs.declared.piece.Word.{Word}
use Rattle.cert_lexer.specs.declared.piece.Word.TheVariants as word
use Rattle.cert_lexer.specs.declared.piece.Sign.{Sign}
use Rattle.cert_lexer.specs.declared.piece.Sign.TheVariants as sign
use Rattle.cert_lexer.specs.declared.piece.Behind.{Behind}
use Rattle.cert_lexer.specs.declared.piece.Piece.{Piece}
use Rattle.cert_lexer.specs.declared.piece.Piece.TheVariants.{First, Name, Number, Sign as ASign, Place, InBound, Wrong}
use Rattle.cert_lexer.specs.Grammar.{class_of, class_of_number, class_of_sign, class_of_word, signs, words}

-- the word of a word's class, and the byte of a sign's class
word_of_class : ℕ → Word
word_of_class c = slice_index_or words (c - 1) word.Other

sign_of_class : ℕ → Sign
sign_of_class c = slice_index_or signs (c - 32) sign.Minus

word_back : (w : Word) → word_of_class (class_of_word w) ≡ w
unfolding word_of_class
word_back word.Lemma = refl
word_back word.Gap = refl
word_back word.End = refl
word_back word.Cite = refl
word_back word.Start = refl
word_back word.Empty = refl
word_back word.Unreached = refl
word_back word.Never = refl
word_back word.Rank = refl
word_back word.Spread = refl
word_back word.Cycle = refl
word_back word.Weaken = refl
word_back word.Cost = refl
word_back word.Uses = refl
word_back word.Set = refl
word_back word.Den = refl
word_back word.Forms = refl
word_back word.Moves = refl
word_back word.Floor = refl
word_back word.Up = refl
word_back word.Low = refl
word_back word.Poly = refl
word_back word.Lin = refl
word_back word.To = refl
word_back word.Shut = refl
word_back word.Kept = refl
word_back word.Other = refl

sign_back : (k : Sign) → sign_of_class (class_of_sign k) ≡ k
unfolding sign_of_class
sign_back sign.Blank = refl
sign_back sign.LineFeed = refl
sign_back sign.OpenSquare = refl
sign_back sign.CloseSquare = refl
sign_back sign.OpenBrace = refl
sign_back sign.CloseBrace = refl
sign_back sign.Open = refl
sign_back sign.Close = refl
sign_back sign.Semicolon = refl
sign_back sign.Dot = refl
sign_back sign.Minus = refl

-- words have the classes from 1 to 27, numbers those from 28 to 31, and signs those from 32 to 42
word_range : (w : Word) → (1 ≤ class_of_word w) × (class_of_word w ≤ 27)
word_range word.Lemma = (omega arith, omega arith)
word_range word.Gap = (omega arith, omega arith)
word_range word.End = (omega arith, omega arith)
word_range word.Cite = (omega arith, omega arith)
word_range word.Start = (omega arith, omega arith)
word_range word.Empty = (omega arith, omega arith)
word_range word.Unreached = (omega arith, omega arith)
word_range word.Never = (omega arith, omega arith)
word_range word.Rank = (omega arith, omega arith)
word_range word.Spread = (omega arith, omega arith)
word_range word.Cycle = (omega arith, omega arith)
word_range word.Weaken = (omega arith, omega arith)
word_range word.Cost = (omega arith, omega arith)
word_range word.Uses = (omega arith, omega arith)
word_range word.Set = (omega arith, omega arith)
word_range word.Den = (omega arith, omega arith)
word_range word.Forms = (omega arith, omega arith)
word_range word.Moves = (omega arith, omega arith)
word_range word.Floor = (omega arith, omega arith)
word_range word.Up = (omega arith, omega arith)
word_range word.Low = (omega arith, omega arith)
word_range word.Poly = (omega arith, omega arith)
word_range word.Lin = (omega arith, omega arith)
word_range word.To = (omega arith, omega arith)
word_range word.Shut = (omega arith, omega arith)
word_range word.Kept = (omega arith, omega arith)
word_range word.Other = (omega arith, omega arith)

number_range : (n : ℕ) → (28 ≤ class_of_number n) × (class_of_number n ≤ 31)
number_range n = go (n == 0) (n == 1) (n == 2)
  where
    go : (a b c : Bool) → (28 ≤ cond a 28 (cond b 29 (cond c 30 31))) × (cond a 28 (cond b 29 (cond c 30 31)) ≤ 31)
    go true b c = (omega arith, omega arith)
    go false true c = (omega arith, omega arith)
    go false false true = (omega arith, omega arith)
    go false false false = (omega arith, omega arith)

sign_range : (k : Sign) → (32 ≤ class_of_sign k) × (class_of_sign k ≤ 42)
sign_range sign.Blank = (omega arith, omega arith)
sign_range sign.LineFeed = (omega arith, omega arith)
sign_range sign.OpenSquare = (omega arith, omega arith)
sign_range sign.CloseSquare = (omega arith, omega arith)
sign_range sign.OpenBrace = (omega arith, omega arith)
sign_range sign.CloseBrace = (omega arith, omega arith)
sign_range sign.Open = (omega arith, omega arith)
sign_range sign.Close = (omega arith, omega arith)
sign_range sign.Semicolon = (omega arith, omega arith)
sign_range sign.Dot = (omega arith, omega arith)
sign_range sign.Minus = (omega arith, omega arith)

-- a piece of the class of a sign is that sign
pub class_sign : (q : Piece) (k : Sign) → class_of q ≡ class_of_sign k → q ≡ ASign k
class_sign First k e = let r = sign_range k in let l = r.0 in absurd (omega (arith, e, l))
class_sign (Name w symbol) k e =
    let r = sign_range k in let l = r.0 in let v = word_range w in let h = v.1 in absurd (omega (arith, e, l, h))
class_sign (Number n) k e =
    let r = sign_range k in let l = r.0 in let v = number_range n in let h = v.1 in absurd (omega (arith, e, l, h))
class_sign (ASign j) k e = ap ASign (sym (sign_back j) ∙ ap sign_of_class e ∙ sign_back k)
class_sign (Place symbol b) k e = let r = sign_range k in let h = r.1 in absurd (omega (arith, e, h))
class_sign (InBound p len last) k e = let r = sign_range k in let h = r.1 in absurd (omega (arith, e, h))
class_sign Wrong k e = let r = sign_range k in let h = r.1 in absurd (omega (arith, e, h))

-- a piece of the class of a word is that word
pub class_word : (q : Piece) (w : Word) → class_of q ≡ class_of_word w → (symbol : ℕ) × (q ≡ Name w symbol)
class_word First w e = let r = word_range w in let l = r.0 in absurd (omega (arith, e, l))
class_word (Name v symbol) w e =
    (symbol, ap (λ (u : Word). Name u symbol) (sym (word_back v) ∙ ap word_of_class e ∙ word_back w))
class_word (Number n) w e =
    let r = word_range w in let h = r.1 in let v = number_range n in let l = v.0 in absurd (omega (arith, e, l, h))
class_word (ASign j) w e =
    let r = word_range w in let h = r.1 in let v = sign_range j in let l = v.0 in absurd (omega (arith, e, l, h))
class_word (Place symbol b) w e = let r = word_range w in let h = r.1 in absurd (omega (arith, e, h))
class_word (InBound p len last) w e = let r = word_range w in let h = r.1 in absurd (omega (arith, e, h))
class_word Wrong w e = let r = word_range w in let h = r.1 in absurd (omega (arith, e, h))

-- a piece of the class of a number is a number of that class
pub class_number : (q : Piece) (n : ℕ) → class_of q ≡ class_of_number n
    → (m : ℕ) × (q ≡ Number m) × (class_of_number m ≡ class_of_number n)
class_number First n e = let r = number_range n in let l = r.0 in absurd (omega (arith, e, l))
class_number (Name w symbol) n e =
    let r = number_range n in let l = r.0 in let v = word_range w in let h = v.1 in absurd (omega (arith, e, l, h))
class_number (Number m) n e = (m, refl, e)
class_number (ASign j) n e =
    let r = number_range n in let h = r.1 in let v = sign_range j in let l = v.0 in absurd (omega (arith, e, l, h))
class_number (Place symbol b) n e = let r = number_range n in let h = r.1 in absurd (omega (arith, e, h))
class_number (InBound p len last) n e = let r = number_range n in let h = r.1 in absurd (omega (arith, e, h))
class_number Wrong n e = let r = number_range n in let h = r.1 in absurd (omega (arith, e, h))

-- a piece of class 43 is a place, and a piece of class 44 one of a bound
pub class_place : (q : Piece) → class_of q ≡ 43 → (symbol : ℕ) × (b : Behind) × (q ≡ Place symbol b)
class_place First e = absurd (omega (arith, e))
class_place (Name w symbol) e = let v = word_range w in let h = v.1 in absurd (omega (arith, e, h))
class_place (Number m) e = let v = number_range m in let h = v.1 in absurd (omega (arith, e, h))
class_place (ASign j) e = let v = sign_range j in let h = v.1 in absurd (omega (arith, e, h))
class_place (Place symbol b) e = (symbol, b, refl)
class_place (InBound p len last) e = absurd (omega (arith, e))
class_place Wrong e = absurd (omega (arith, e))

pub class_bound : (q : Piece) → class_of q ≡ 44 → (p : BoundPiece) × (len : ℕ) × (last : Bool) × (q ≡ InBound p len last)
class_bound First e = absurd (omega (arith, e))
class_bound (Name w symbol) e = let v = word_range w in let h = v.1 in absurd (omega (arith, e, h))
class_bound (Number m) e = let v = number_range m in let h = v.1 in absurd (omega (arith, e, h))
class_bound (ASign j) e = let v = sign_range j in let h = v.1 in absurd (omega (arith, e, h))
class_bound (Place symbol b) e = absurd (omega (arith, e))
class_bound (InBound p len last) e = (p, len, last, refl)
class_bound Wrong e = absurd (omega (arith, e))

-- a piece of class 0 is the first word
pub class_first : (q : Piece) → class_of q ≡ 0 → q ≡ First
class_first First e = refl
class_first (Name w symbol) e = let v = word_range w in let l = v.0 in absurd (omega (arith, e, l))
class_first (Number m) e = let v = number_range m in let l = v.0 in absurd (omega (arith, e, l))
class_first (ASign j) e = let v = sign_range j in let l = v.0 in absurd (omega (arith, e, l))
class_first (Place symbol b) e = absurd (omega (arith, e))
class_first (InBound p len last) e = absurd (omega (arith, e))
class_first Wrong e = absurd (omega (arith, e))
