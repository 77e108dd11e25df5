-- The faults that the code reports, and when a result is right.
use Rattle.std.specs.Prelude.{◌≡◌, ℕ, List, length, Result, Ok, Err, Option, Some, None, IfSome}
use Rattle.its_model.specs.model.Programs.{Program}
use Rattle.cert_types.specs.AnswerViews.{file_of}
use Rattle.cert_types.specs.declared.file.ProofFile.{ProofFile}
use Rattle.cert_types.specs.cert_rules.Gaps as plain
use Rattle.text_grammar.specs.text_core.Readers.{Fault}
use Rattle.text_grammar.specs.text_core.Faults.{IsFirst}
use Rattle.text_grammar.specs.text_core.Reading.{IsTree}
use Rattle.text_grammar.specs.Texts.{reader}
use Rattle.cert_lexer.specs.declared.kind.ProofKind.{ProofKind}
use Rattle.cert_lexer.specs.declared.piece.Piece.{Piece}
use Rattle.cert_lexer.specs.Lexing.{tokens}
use Rattle.cert_text.specs.declared.error.ProofTextError.{ProofTextError}
use Rattle.cert_text.specs.NumberFaults.{fault_of_piece, position_of}
use Rattle.cert_text.specs.Reading.{proofs_of}
use Rattle.cert_text.specs.Remembered.{State}
use Rattle.cert_text.specs.StatedErrors.{refusal_in}

-- a refusal of a kind at a position, if there is one
abbrev pub kind_at : Option ProofKind → ℕ → Option (Fault ProofKind)
kind_at None at = None
kind_at (Some kind) at = Some (record { kind = kind; at = at })

-- the fault that is reported of a piece at a position
abbrev pub refusal_of : Program → State → Piece → ℕ → Option (Fault ProofKind)
refusal_of p s piece at = kind_at (fault_of_piece p s piece) (position_of p s piece at)

-- a result is right: the file whose text the bytes are, which no other file has; or exactly their first refusal; or
-- memory ran out
abbrev pub Answers : Program → List ℕ → Result ProofFile ProofTextError → Type 0
Answers p bytes (Ok file) = IsTree (reader (proofs_of p)) (length bytes) (tokens p bytes) (file_of file)
Answers p bytes (Err e) = IfSome (refusal_in e) (IsFirst (reader (proofs_of p)) (length bytes) (tokens p bytes))

-- the result is this file, or memory ran out
abbrev pub GivesBack : plain.ProofFile → Result ProofFile ProofTextError → Type 0
GivesBack f (Ok file) = file_of file ≡ f
GivesBack f (Err e) = refusal_in e ≡ None
