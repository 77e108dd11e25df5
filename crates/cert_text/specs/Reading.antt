-- The proof files of a program as texts of their grammar.
use Rattle.std.specs.Prelude.{ℕ, Bool, true, false, is_some, ◌||◌, if◌then◌else◌, Option, None, [], ◌∷◌, ◌++◌}
use Rattle.its_model.specs.model.Programs.{Program}
use Rattle.cert_types.specs.cert_rules.Gaps.{ProofFile}
use Rattle.text_grammar.specs.Texts.{Text}
use Rattle.text_grammar.specs.Folds.{Fold, folded}
use Rattle.cert_lexer.specs.declared.piece.Sign.TheVariants as sign
use Rattle.cert_lexer.specs.declared.piece.Behind.{Behind}
use Rattle.cert_lexer.specs.declared.piece.Behind.TheVariants as behind
use Rattle.cert_lexer.specs.declared.piece.Piece.{Piece}
use Rattle.cert_lexer.specs.declared.piece.Piece.TheVariants.{First, Name, Number, Sign as ASign, Place, InBound}
use Rattle.cert_lexer.specs.declared.piece.Piece.TheVariants.{Wrong}
use Rattle.cert_text.specs.declared.phase.Next.TheVariants as next
use Rattle.cert_lexer.specs.declared.kind.ProofKind.{ProofKind}
use Rattle.cert_lexer.specs.declared.kind.ProofKind.TheVariants as kind
use Rattle.cert_lexer.specs.Grammar.{proof_grammar}
use Rattle.cert_text.specs.Remembered.{State, Draft, begun, done, in_32}
use Rattle.cert_lexer.specs.Bounds.{number_of}
use Rattle.cert_text.specs.NumberFaults.{fault_of_piece, position_of, read_bound, bound_in, with_last}

-- the parts with one more shut place
abbrev pub with_shut : ℕ → Behind → Draft → Draft
with_shut symbol (behind.Number n) d = record d { shut = d.shut ++ record { symbol = symbol; place = in_32 n } ∷ [] }
with_shut symbol b d = d

-- the state after a piece
abbrev pub moved : Program → Piece → State → State
moved p First s = s
moved p (Name w symbol) s = record s { symbol = symbol; coming = next.Nothing }
moved p (Number n) s = record s { number = n; coming = next.Nothing }
moved p (ASign sign.Minus) s = record s { negative = true }
moved p (ASign mark) s = s
moved p (Place symbol b) s = record s { draft = with_shut symbol b s.draft }
moved p (InBound piece len true) s =
    record s { bound = bound_in (read_bound p (with_last s piece len)); pieces = [] }
moved p (InBound piece len false) s = record s { pieces = with_last s piece len }
moved p Wrong s = s

-- the progress of reading: the state, and whether there was a fault
pub record Progress : Type 0 where
  pub kept : State
  pub broken : Bool

-- the progress after a piece
abbrev pub read_piece : Program → Piece → Progress → Progress
read_piece p piece s =
    record { kept = moved p piece s.kept; broken = s.broken || is_some (fault_of_piece p s.kept piece) }

-- the fault of a piece that is reported: none after the first one
abbrev pub reported_fault : Program → Progress → Piece → Option ProofKind
reported_fault p s piece = if s.broken then None else fault_of_piece p s.kept piece

-- the file that was read
abbrev pub file_in : State → ProofFile
file_in s = record { lemmas = s.lemmas; gaps = s.gaps }

-- the reading of proof files, piece by piece
abbrev pub proof_fold : Program → Fold Piece Progress ProofFile ProofKind
proof_fold p = record {
  begun = record { kept = begun; broken = false };
  read = read_piece p;
  done = λ m s. record { kept = done m s.kept; broken = s.broken };
  reported_fault = reported_fault p;
  position = λ s t. position_of p s.kept t.piece t.at;
  floor = λ s at. if s.broken then at else 0;
  tree = λ s. file_in s.kept;
  number = number_of;
  stop_kind = λ piece. kind.Syntax;
}

-- the texts of the proof files of a program
abbrev pub proofs_of : Program → Text Piece ProofFile ProofKind
proofs_of p = folded (proof_fold p) proof_grammar
