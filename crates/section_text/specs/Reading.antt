-- The reader of a program's sections.
use Rattle.std.specs.Prelude.{ℕ, Bool, false, ◌||◌, is_some, if◌then◌else◌, List, Option, None}
use Rattle.its_model.specs.model.Programs.{Program}
use Rattle.refined_programs.specs.Annotated.{Section}
use Rattle.text_grammar.specs.Texts.{Text}
use Rattle.text_grammar.specs.Folds.{Fold, folded}
use Rattle.section_text.specs.declared.kind.SectionKind.{SectionKind}
use Rattle.section_text.specs.declared.kind.SectionKind.TheVariants.{Syntax}
use Rattle.section_text.specs.declared.piece.Piece.{Piece}
use Rattle.section_text.specs.Grammar.{section_grammar}
use Rattle.section_text.specs.Drafts.{Draft, begun, done, read_in}
use Rattle.section_text.specs.Faults.{fault_of_piece, number_of}

-- the progress of reading: the state, and whether there was a fault
pub record Progress : Type 0 where
  pub draft : Draft
  pub broken : Bool

-- the progress after a piece
abbrev pub read_piece : Program → List ℕ → Piece → Progress → Progress
read_piece q text p s = record {
  draft = read_in s.draft.role q text p s.draft;
  broken = s.broken || is_some (fault_of_piece q text p s.draft);
}

-- the fault of a piece that is reported: none after the first one
abbrev pub reported_fault : Program → List ℕ → Progress → Piece → Option SectionKind
reported_fault q text s p = if s.broken then None else fault_of_piece q text p s.draft

-- the section that was read
abbrev pub section_in : Draft → Section
section_in d = record { copies = d.copies; branches = d.branches }

-- the reading of a program's sections, piece by piece
abbrev pub section_fold : Program → List ℕ → Fold Piece Progress Section SectionKind
section_fold q text = record {
  begun = record { draft = begun; broken = false };
  read = read_piece q text;
  done = λ m s. record { draft = done m s.draft; broken = s.broken };
  reported_fault = reported_fault q text;
  position = λ s t. t.at;
  floor = λ s at. if s.broken then at else 0;
  tree = λ s. section_in s.draft;
  number = number_of;
  stop_kind = λ piece. Syntax;
}

-- the texts of the sections of a program
abbrev pub sections_of : Program → List ℕ → Text Piece Section SectionKind
sections_of q text = folded (section_fold q text) section_grammar
