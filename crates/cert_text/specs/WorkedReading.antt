-- Worked values of where texts of proof files break off, apart from references and limits.
use Rattle.std.specs.Prelude.{◌≡◌, ℕ, true, false, List, [], ◌∷◌, ◌++◌, length, codes, ⊤}
use Rattle.text_grammar.specs.text_core.Tokens.{pieces}
use Rattle.text_grammar.specs.text_core.Reading.{Answer, Parsed, Refused, answer}
use Rattle.text_grammar.specs.Sounding.{is_readable}
use Rattle.text_grammar.specs.Texts.{Text, IsLawful, reader}
use Rattle.bound_text.specs.declared.piece.Piece.TheVariants as bound
use Rattle.cert_lexer.specs.declared.piece.Word.TheVariants as word
use Rattle.cert_lexer.specs.declared.piece.Sign.TheVariants as sign
use Rattle.cert_lexer.specs.declared.piece.Behind.TheVariants as behind
use Rattle.cert_lexer.specs.declared.piece.Piece.{Piece}
use Rattle.cert_lexer.specs.declared.piece.Piece.TheVariants.{First, Name, Number, Sign as ASign, Place, InBound}
use Rattle.cert_lexer.specs.declared.piece.Piece.TheVariants.{Wrong}
use Rattle.cert_lexer.specs.Grammar.{proof_grammar}
use Rattle.cert_lexer.specs.Lexing.{tokens}
use Rattle.its_model.specs.model.Programs.{Program}
use Rattle.cert_text.specs.Worked.{counting}

-- texts of the grammar whose tokens have no faults, and which all denote the same value
abbrev pub bare : Text Piece ⊤ ℕ
bare = record {
  grammar = proof_grammar;
  value = λ es. tt;
  faults = λ es t. [];
  floor = λ es at. at;
  number = λ kind. kind;
  stop_kind = λ piece. 1;
}

-- the bytes are cut into these pieces
abbrev pub IsCutInto : List ℕ → List Piece → Type 0
IsCutInto bytes ps = pieces (tokens counting bytes) ≡ ps

-- the answer to reading these bytes
abbrev pub ComesTo : List ℕ → Answer ⊤ ℕ → Type 0
ComesTo bytes a = answer (reader bare) (length bytes) (tokens counting bytes) ≡ a

-- the bytes are a whole text, or break off at this position
abbrev pub IsRead : List ℕ → Type 0
IsRead bytes = ComesTo bytes (Parsed tt)

abbrev pub BreaksOffAt : List ℕ → ℕ → Type 0
BreaksOffAt bytes at = ComesTo bytes (Refused (record { kind = 1; at = at }))

-- a program whose symbols have dots in their names
abbrev pub dotted : Program
dotted = record {
  symbols = record { name = codes "a.b"; arity = 1 } ∷ record { name = codes "a."; arity = 2 } ∷ [];
  start = 0;
  start_names = codes "A" ∷ [];
  rules = [];
}

-- worked values of how bytes are cut
pub record CutsAreWorkedOut : Type 0 where
  -- the first word is a piece of its own, but not at the beginning of a longer word; elsewhere it is a name and a `-`
  pub first : IsCutInto (codes "koat-proof 1") (First ∷ ASign sign.Blank ∷ Number 1 ∷ [])
  pub longer : IsCutInto (codes "koat-proofs") (Name word.Other 2 ∷ ASign sign.Minus ∷ Name word.Other 2 ∷ [])
  pub again : IsCutInto (codes " koat-proof")
      (ASign sign.Blank ∷ Name word.Other 2 ∷ ASign sign.Minus ∷ Name word.Other 2 ∷ [])
  -- names of symbols are cut as the longest ones, and digits too
  pub names : IsCutInto (codes "l1 l0.1 uses")
      (Name word.Other 1 ∷ ASign sign.Blank ∷ Name word.Other 2 ∷ ASign sign.Blank ∷ Name word.Uses 2 ∷ [])
  pub result_variable : IsCutInto (codes "10.2") (Number 10 ∷ ASign sign.Dot ∷ Number 2 ∷ [])
  pub leading_zero : IsCutInto (codes "01") (Wrong ∷ [])
  pub other : IsCutInto (codes "+") (Wrong ∷ [])
  -- no other byte is a blank or a line feed: not a tab, not a carriage return, and none over 127
  pub tab : IsCutInto (9 ∷ []) (Wrong ∷ [])
  pub carriage_return : IsCutInto (13 ∷ []) (Wrong ∷ [])
  pub over_127 : IsCutInto (128 ∷ []) (Wrong ∷ [])
  pub largest_byte : IsCutInto (255 ∷ []) (Wrong ∷ [])
  -- a place of a symbol is cut as one piece in the list of shut places, and nowhere else
  pub places : IsCutInto (codes "shut [l1.1 l0. l0.01 l0.1x] l1.1")
      (Name word.Shut 2 ∷ ASign sign.Blank ∷ ASign sign.OpenSquare
      ∷ Place 1 (behind.Number 1) ∷ ASign sign.Blank ∷ Place 0 behind.Nothing ∷ ASign sign.Blank
      ∷ Place 0 behind.LeadingZero ∷ ASign sign.Blank ∷ Place 2 behind.NoNumber ∷ ASign sign.CloseSquare
      ∷ ASign sign.Blank ∷ Name word.Other 2 ∷ [])
  -- the longest name is taken, with its dots; in a list of shut places the number of a place follows the last dot
  pub dots : pieces (tokens dotted (codes "a.b a. a.b.1 shut [a.b.1 a..2 a.b a.1]"))
      ≡ Name word.Other 0 ∷ ASign sign.Blank ∷ Name word.Other 1 ∷ ASign sign.Blank ∷ Name word.Other 2 ∷ ASign sign.Blank
      ∷ Name word.Shut 2 ∷ ASign sign.Blank ∷ ASign sign.OpenSquare ∷ Place 0 (behind.Number 1) ∷ ASign sign.Blank
      ∷ Place 1 (behind.Number 2) ∷ ASign sign.Blank ∷ Place 0 behind.NoNumber ∷ ASign sign.Blank
      ∷ Place 2 (behind.Number 1) ∷ ASign sign.CloseSquare ∷ []
  -- a bound begins after `) to `, and ends before a bracket that closes none of its own
  pub closed : IsCutInto (codes ") to 2^(A))")
      (ASign sign.Close ∷ ASign sign.Blank ∷ Name word.To 2 ∷ ASign sign.Blank
      ∷ InBound (bound.Number 2) 1 false ∷ InBound bound.Caret 1 false ∷ InBound bound.Open 1 false
      ∷ InBound (bound.Variable 0) 1 false ∷ InBound bound.Close 1 true ∷ ASign sign.Close ∷ [])
  pub behind_bound : IsCutInto (codes ") to max(A, 1); A")
      (ASign sign.Close ∷ ASign sign.Blank ∷ Name word.To 2 ∷ ASign sign.Blank
      ∷ InBound bound.Maximum 4 false ∷ InBound (bound.Variable 0) 1 false ∷ InBound bound.Comma 1 false
      ∷ InBound bound.Blank 1 false ∷ InBound (bound.Number 1) 1 false ∷ InBound bound.Close 1 true
      ∷ ASign sign.Semicolon ∷ ASign sign.Blank
      ∷ Name word.Other 2 ∷ [])
  -- the end of the text ends a bound
  pub ended : IsCutInto (codes ") to A)")
      (ASign sign.Close ∷ ASign sign.Blank ∷ Name word.To 2 ∷ ASign sign.Blank
      ∷ InBound (bound.Variable 0) 1 true ∷ ASign sign.Close ∷ [])
  pub open_end : IsCutInto (codes ") to (A")
      (ASign sign.Close ∷ ASign sign.Blank ∷ Name word.To 2 ∷ ASign sign.Blank
      ∷ InBound bound.Open 1 false ∷ InBound (bound.Variable 0) 1 true ∷ [])
  -- each occurrence of a name that is no start argument is a variable of its own, other than all start arguments
  pub unlisted : IsCutInto (codes ") to B*A*B")
      (ASign sign.Close ∷ ASign sign.Blank ∷ Name word.To 2 ∷ ASign sign.Blank
      ∷ InBound (bound.Variable 1) 1 false ∷ InBound bound.Times 1 false ∷ InBound (bound.Variable 0) 1 false
      ∷ InBound bound.Times 1 false ∷ InBound (bound.Variable 5) 1 true ∷ [])
  pub anew : IsCutInto (codes ") to B; start) to B")
      (ASign sign.Close ∷ ASign sign.Blank ∷ Name word.To 2 ∷ ASign sign.Blank
      ∷ InBound (bound.Variable 1) 1 true ∷ ASign sign.Semicolon ∷ ASign sign.Blank ∷ Name word.Start 2
      ∷ ASign sign.Close ∷ ASign sign.Blank ∷ Name word.To 2 ∷ ASign sign.Blank
      ∷ InBound (bound.Variable 1) 1 true ∷ [])
  pub to_alone : IsCutInto (codes "to A") (Name word.To 2 ∷ ASign sign.Blank ∷ Name word.Other 2 ∷ [])

-- the positions at which texts break off; the first byte after `koat-proof 1` and its line feed is byte 13, and `lemma
-- ` ends at 19
pub record BreaksAreWorkedOut : Type 0 where
  pub nothing_at_all : BreaksOffAt [] 0
  pub no_lemma : IsRead (codes "koat-proof 1\nend\n")
  pub costs : IsRead (codes "koat-proof 2\nend\n")
  pub third : BreaksOffAt (codes "koat-proof 3\n") 11
  pub twelve : BreaksOffAt (codes "koat-proof 12\n") 11
  pub leading_zero : BreaksOffAt (codes "koat-proof 01\n") 11
  pub shorter : BreaksOffAt (codes "koat-pro 1\n") 0
  pub longer : BreaksOffAt (codes "koat-proofs 1\n") 0
  pub no_blank : BreaksOffAt (codes "koat-proof-1\n") 10
  pub tab : BreaksOffAt (codes "koat-proof" ++ 9 ∷ codes "1\n") 10
  pub carriage_return : BreaksOffAt (codes "koat-proof 1" ++ 13 ∷ codes "\nend\n") 12
  pub no_line_feed : BreaksOffAt (codes "koat-proof 1\nend") 16
  pub lemma : IsRead (codes "koat-proof 1\nlemma start\nend\n")
  pub other_word : BreaksOffAt (codes "koat-proof 1\nlemma begin\n") 19
  pub two_blanks : BreaksOffAt (codes "koat-proof 1\nlemma  start\n") 19
  pub gap_first : BreaksOffAt (codes "koat-proof 1\ngap [") 17
  pub never : IsRead (codes "koat-proof 1\nlemma never (cite 1)\nend\n")
  pub bound : IsRead (codes "koat-proof 1\nlemma weaken (start) to A\nend\n")
  pub no_bound : BreaksOffAt (codes "koat-proof 1\nlemma weaken (start) to \n") 37
  pub minus_zero : BreaksOffAt (codes "koat-proof 1\nlemma spread 1.1 up lin 1 [-0]") 41
  pub no_constant : BreaksOffAt (codes "koat-proof 1\nlemma spread 1.1 up lin 1 []") 40

-- all worked values of reading: the grammar can be read, its texts are lawful, and bytes are cut and break off as
-- stated
pub record ReadingIsWorkedOut : Type 0 where
  pub readable : is_readable proof_grammar ≡ true
  pub lawful : IsLawful bare
  pub cuts : CutsAreWorkedOut
  pub breaks : BreaksAreWorkedOut
