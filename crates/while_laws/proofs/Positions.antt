-- An accepted program has one position for each statement, in the order of the text.
use Rattle.std.proofs.Common.{◌≡◌, ℕ, zero, suc, ◌+◌, ◌-◌, ◌≤◌, List, [], ◌∷◌, ◌++◌, length, length-append, refl}
use Rattle.std.proofs.Common.{sym, ap}
use Rattle.std.proofs.Common.{subst, arith, Option, Some, None}
use Rattle.std.specs.Prelude.{⊤}
use Rattle.text_core.specs.Tokens.{Token, pieces, tokens_in, token_then}
use Rattle.text_grammar.specs.declared.token_stream.OneMode.TheVariants.{Plain}
use Rattle.text_grammar.specs.Marks.{lexer_of}
use Rattle.while_text.specs.model.Programs.{Name}
use Rattle.while_text.specs.while_model.Statements.{Statements, size}
use Rattle.while_text.specs.declared.piece.Piece.{Piece}
use Rattle.while_text.specs.declared.piece.Sort.{Sort}
use Rattle.while_text.specs.Lexing.{lexeme_at, sort_at, piece_in, tokens}
use Rattle.while_text.specs.Reading.{Source}
use Rattle.while_laws.specs.ProgramLaws.{AreAscending, PositionsAreOfStatements}
use Rattle.while_laws.specs.SpelledPrograms.{SpellStatements, nothing, assignment, choice, skip, loop, branch}
use Rattle.while_laws.specs.SpelledPrograms.{branch_else}
use Rattle.while_laws.specs.SpelledPrograms.{SpellProgram}
use Rattle.while_laws.proofs.ProgramsAccepted.{programs_read}

-- There are as many positions as statements.
one_each : (text : List ℕ) (names : List Name) {program : Statements} {at : List ℕ} {ps : List Piece}
    → SpellStatements text names program at ps → length at ≡ size program
one_each text names nothing = refl
one_each text names (assignment name becomes end value e a b v c w) = ap suc (one_each text names w)
one_each text names (choice name becomes any end a b q c w) = ap suc (one_each text names w)
one_each text names (skip word end a b w) = ap suc (one_each text names w)
one_each text names (loop word opening closing begin end tests body {test} {block} {rest} {inner} {at} {ps} a b v c o u
    e w) =
    let k = one_each text names u in let l = one_each text names w in let n = length-append inner at in
    omega (arith, k, l, n)
one_each text names (branch word opening closing begin end tests body {test} {block} {rest} {inner} {at} {ps} a b v c o
    u e w) =
    let k = one_each text names u in let l = one_each text names w in let n = length-append inner at in
    omega (arith, k, l, n)
one_each text names (branch_else word opening closing begin end second begin_other end_other tests body others {test}
    {block} {other} {rest} {inner} {outer} {at} {ps} a b v c o u e d p q f w) =
    let k = one_each text names u in let l = one_each text names w in let i = one_each text names q in
    let n = length-append inner (outer ++ at) in let m = length-append outer at in omega (arith, k, l, i, n, m)

-- The numbers are the positions of some of these tokens, in their order.
data IsPart : List ℕ → List Piece → Type 0 where
  none : IsPart [] []
  passed : (p : Piece) {at : List ℕ} {ps : List Piece} → IsPart at ps → IsPart at (p ∷ ps)
  kept : (p : Piece) {at : List ℕ} {ps : List Piece} → IsPart at ps → IsPart (p.at ∷ at) (p ∷ ps)

passed_all : (qs : List Piece) {at : List ℕ} {ps : List Piece} → IsPart at ps → IsPart at (qs ++ ps)
passed_all [] h = h
passed_all (q ∷ qs) h = passed q (passed_all qs h)

part_then : {at more : List ℕ} {ps qs : List Piece} → IsPart at ps → IsPart more qs → IsPart (at ++ more) (ps ++ qs)
part_then none k = k
part_then (passed p h) k = passed p (part_then h k)
part_then (kept p h) k = kept p (part_then h k)

-- The positions of statements are positions of their tokens.
positions_in : (text : List ℕ) (names : List Name) {program : Statements} {at : List ℕ} {ps : List Piece}
    → SpellStatements text names program at ps → IsPart at ps
positions_in text names nothing = none
positions_in text names (assignment name becomes end value e a b v c w) =
    kept name (passed becomes (passed_all value (passed end (positions_in text names w))))
positions_in text names (choice name becomes any end a b q c w) =
    kept name (passed becomes (passed any (passed end (positions_in text names w))))
positions_in text names (skip word end a b w) = kept word (passed end (positions_in text names w))
positions_in text names (loop word opening closing begin end tests body a b v c o u e w) =
    kept word (passed opening (passed_all tests (passed closing (passed begin
    (part_then (positions_in text names u) (passed end (positions_in text names w)))))))
positions_in text names (branch word opening closing begin end tests body a b v c o u e w) =
    kept word (passed opening (passed_all tests (passed closing (passed begin
    (part_then (positions_in text names u) (passed end (positions_in text names w)))))))
positions_in text names (branch_else word opening closing begin end second begin_other end_other tests body others a b v
    c o u e d p q f w) =
    kept word (passed opening (passed_all tests (passed closing (passed begin
    (part_then (positions_in text names u) (passed end (passed second (passed begin_other
    (part_then (positions_in text names q) (passed end_other (positions_in text names w)))))))))))

-- The positions of tokens ascend from a number on, and so do numbers.
abbrev PiecesFrom : ℕ → List Piece → Type 0
PiecesFrom n [] = ⊤
PiecesFrom n (p ∷ ps) = (n ≤ p.at) × PiecesFrom (p.at + 1) ps

abbrev From : ℕ → List ℕ → Type 0
From n [] = ⊤
From n (m ∷ ms) = (n ≤ m) × From (m + 1) ms

from_less : (m n : ℕ) (at : List ℕ) → m ≤ n → From n at → From m at
from_less m n [] h k = k
from_less m n (a ∷ at) h (l, k) = (omega (arith, h, l), k)

part_from : {at : List ℕ} {ps : List Piece} → IsPart at ps → (n : ℕ) → PiecesFrom n ps → From n at
part_from none n h = tt
part_from (passed p {at} k) n (l, h) = from_less n (p.at + 1) at (omega (arith, l)) (part_from k (p.at + 1) h)
part_from (kept p k) n (l, h) = (l, part_from k (p.at + 1) h)

ascending : (n : ℕ) (at : List ℕ) → From n at → AreAscending at
ascending n [] h = tt
ascending n (a ∷ []) h = tt
ascending n (a ∷ b ∷ at) (l, (m, h)) = (omega (arith, m), ascending (a + 1) (b ∷ at) (m, h))

pieces_less : (k : ℕ) (ps : List Piece) → PiecesFrom (k + 1) ps → PiecesFrom k ps
pieces_less k [] h = tt
pieces_less k (p ∷ ps) (l, h) = (omega (arith, l), h)

module _ (text : List ℕ) where
  -- The positions of the tokens of a text ascend.
  pieces_from : (k over : ℕ) (rest : List ℕ) → k + length rest ≡ length text
      → PiecesFrom k (pieces (tokens_in (lexer_of (lexeme_at (length text))) Plain k over rest))
  pieces_from k over [] n = tt
  pieces_from k (suc over) (b ∷ rest) n =
      pieces_less k (pieces (tokens_in (lexer_of (lexeme_at (length text))) Plain (k + 1) over rest))
      (pieces_from (k + 1) over rest (omega (arith, n)))
  pieces_from k zero (b ∷ rest) n =
      go (sort_at b rest).piece (pieces_from (k + 1) ((sort_at b rest).len - 1) rest (omega (arith, n)))
    where
      more : List (Token Piece)
      more = tokens_in (lexer_of (lexeme_at (length text))) Plain (k + 1) ((sort_at b rest).len - 1) rest

      at : length text - length (b ∷ rest) ≡ k
      at = omega (arith, n)

      go : (o : Option Sort) → PiecesFrom (k + 1) (pieces more)
          → PiecesFrom k (pieces (token_then k (sort_at b rest).len
          (piece_in (length text) (b ∷ rest) (sort_at b rest) o) more))
      go None h = pieces_less k (pieces more) h
      go (Some sort) h = (
        (let e = at in omega (arith, e)),
        subst (λ (j : ℕ). PiecesFrom (j + 1) (pieces more)) (sym at) h,
      )

  -- The positions of a program ascend.
  positions_ascend : (source : Source) → SpellProgram text source (pieces (tokens text)) → AreAscending source.at
  positions_ascend source w =
      ascending 0 source.at (part_from (subst (IsPart source.at) (sym w.whole)
      (passed w.word (passed_all w.inputs (positions_in text source.names w.program)))) 0
      (pieces_from 0 0 text (omega arith)))

pub positions_hold : PositionsAreOfStatements
positions_hold = record {
  one_each = λ text source h. one_each text source.names (programs_read.spelled text source h).program;
  in_order = λ text source h. positions_ascend text source (programs_read.spelled text source h);
}
