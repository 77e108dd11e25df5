-- The reader of rows satisfies the laws of a reader.
use Rattle.std.proofs.Common.{◌≡◌, List, [], ◌∷◌, Option, Some, None, refl, ap, sym, ◌∙◌, arith}
use Rattle.text_core.specs.Readers.{onto, next, walk, reached}
use Rattle.text_core.specs.Laws.{Laws}
use Rattle.text_core.specs.Rows.{Piece, Number, Comma, Wrong, Row, One, More, row_then, ParserState, Begins, Behind, Open}
use Rattle.text_core.specs.Rows.{Kind, Syntax, TooLarge, TooMany, number_of, step, finish, rows}

-- the pieces that a state stands for, followed by the rest
abbrev state_then : ParserState → List Piece → List Piece
state_then Begins rest = rest
state_then (Behind row) rest = row_then row rest
state_then (Open row) rest = row_then row (Comma ∷ rest)

-- after a step, the state stands for one more piece
step_sound : (f g : ParserState) (p : Piece) (rest : List Piece) → step f p ≡ Some g → state_then f (p ∷ rest) ≡ state_then g rest
step_sound Begins g (Number n) rest e = let s : Behind (One n) ≡ g = cc in ap (λ (h : ParserState). state_then h rest) s
step_sound Begins g Comma rest e = cc
step_sound Begins g Wrong rest e = cc
step_sound (Behind row) g (Number n) rest e = cc
step_sound (Behind row) g Comma rest e = let s : Open row ≡ g = cc in ap (λ (h : ParserState). state_then h rest) s
step_sound (Behind row) g Wrong rest e = cc
step_sound (Open row) g (Number n) rest e = let s : Behind (More row n) ≡ g = cc in ap (λ (h : ParserState). state_then h rest) s
step_sound (Open row) g Comma rest e = cc
step_sound (Open row) g Wrong rest e = cc

-- the pieces read are those that the state stands for
read_so : (done : List Piece) (f : ParserState) (rest : List Piece) → reached rows done ≡ Some f → onto done rest ≡ state_then f rest
read_so [] f rest e = let s : Begins ≡ f = cc in ap (λ (h : ParserState). state_then h rest) s
read_so (p ∷ done) f rest e = go (reached rows done) refl e (λ g h. read_so done g (p ∷ rest) h)
  where
    go : (o : Option ParserState) → reached rows done ≡ o → next step o p ≡ Some f → ((g : ParserState) → reached rows done ≡ Some g → onto done (p ∷ rest) ≡ state_then g (p ∷ rest)) → onto done (p ∷ rest) ≡ state_then f rest
    go None h k ih = cc
    go (Some g) h k ih = ih g h ∙ step_sound g f p rest k

-- the pieces of a row lead to the state after it
row_read : (row : Row) (rest : List Piece) → walk step (Some Begins) (row_then row rest) ≡ walk step (Some (Behind row)) rest
row_read (One n) rest = refl
row_read (More row n) rest = row_read row (Comma ∷ Number n ∷ rest)

-- each state can be completed
completed : (f : ParserState) → (row : Row) × (more : List Piece) × (row_then row [] ≡ state_then f more)
completed Begins = (One 0, Number 0 ∷ [], refl)
completed (Behind row) = (row, [], refl)
completed (Open row) = (More row 0, Number 0 ∷ [], refl)

-- in a state in which a text can end, its row is written as the pieces that the state stands for
finished : (f : ParserState) (row : Row) → finish f ≡ Some row → row_then row [] ≡ state_then f []
finished Begins row e = cc
finished (Behind r) row e = let s : r ≡ row = cc in ap (λ (q : Row). row_then q []) (sym s)
finished (Open r) row e = cc

-- kinds with the same number are equal
kinds_differ : (a b : Kind) → number_of a ≡ number_of b → a ≡ b
kinds_differ Syntax Syntax h = refl
kinds_differ TooLarge TooLarge h = refl
kinds_differ TooMany TooMany h = refl
kinds_differ a b h = absurd (omega (arith, h))

-- the reader of rows satisfies the laws
pub row_laws : Laws rows
row_laws = record {
  goes_on = λ done f e. let c = completed f in (c.0, c.1, c.2 ∙ sym (read_so done f c.1 e));
  ends = λ done f t e fin. finished f t fin ∙ sym (read_so done f [] e);
  reads = λ t ps w. (Behind t, ap (walk step (Some Begins)) (sym w) ∙ row_read t [], refl);
  differ = kinds_differ;
}
