-- Lines as texts of their grammar.
use Rattle.std.specs.Prelude.{ℕ, Bool, false, ◌||◌, is_some, if◌then◌else◌, List, [], Option, None}
use Rattle.its_model.specs.model.Programs.{Name}
use Rattle.potential_types.specs.potential_nodes.SignedNodes.{SignedLemma}
use Rattle.claim_types.specs.program_claims.Claims.{Claim}
use Rattle.text_grammar.specs.Texts.{Text}
use Rattle.text_grammar.specs.Folds.{Fold, folded}
use Rattle.potential_text.specs.declared.kind.LineKind.{LineKind}
use Rattle.potential_text.specs.declared.kind.LineKind.TheVariants.{Syntax}
use Rattle.potential_text.specs.declared.kind.Part.{Part}
use Rattle.potential_text.specs.declared.kind.Part.TheVariants.{Lemmas, Claims}
use Rattle.potential_text.specs.declared.piece.Piece.{Piece}
use Rattle.potential_text.specs.Grammar.{line_grammar}
use Rattle.potential_text.specs.Drafts.{Draft, begun, done, taken}
use Rattle.potential_text.specs.Faults.{fault_of_piece, number_of}

-- the progress of reading: what has been made, and whether there was a fault
pub record Progress : Type 0 where
  pub draft : Draft
  pub broken : Bool

abbrev pub progress : Draft → Bool → Progress
progress d broken = record { draft = d; broken = broken }

-- a piece is read
abbrev pub read_piece : Part → List Name → List ℕ → Piece → Progress → Progress
read_piece part names text p s = record {
  draft = taken names text p s.draft;
  broken = s.broken || is_some (fault_of_piece part names text p s.draft);
}

-- after a refusal no other fault is reported
abbrev pub reported_fault : Part → List Name → List ℕ → Progress → Piece → Option LineKind
reported_fault part names text s p = if s.broken then None else fault_of_piece part names text p s.draft

-- lines over symbols with these names, folded piece by piece; a tree is taken of what was made in the end
abbrev pub line_fold : {T : Type 0} → (Draft → T) → Part → List Name → List ℕ → Fold Piece Progress T LineKind
line_fold tree_in part names text = record {
  begun = record { draft = begun; broken = false };
  read = read_piece part names text;
  done = λ m s. record { draft = done m s.draft; broken = s.broken };
  reported_fault = reported_fault part names text;
  position = λ s t. t.at;
  floor = λ s at. if s.broken then at else 0;
  tree = λ s. tree_in s.draft;
  number = number_of;
  stop_kind = λ piece. Syntax;
}

-- the texts of lines
abbrev pub lines_of : {T : Type 0} → (Draft → T) → Part → List Name → List ℕ → Text Piece T LineKind
lines_of tree_in part names text = folded (line_fold tree_in part names text) line_grammar

-- the lemmas and the claims that were read
abbrev pub lemmas_in : Draft → List SignedLemma
lemmas_in d = d.lemmas

abbrev pub claims_in : Draft → List Claim
claims_in d = d.claims

-- the texts of lemmas over symbols with these names, and of claims, which name none
abbrev pub lemma_texts : List Name → List ℕ → Text Piece (List SignedLemma) LineKind
lemma_texts names text = lines_of lemmas_in Lemmas names text

abbrev pub claim_texts : List ℕ → Text Piece (List Claim) LineKind
claim_texts text = lines_of claims_in Claims [] text
