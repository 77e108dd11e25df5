-- Outcomes of reading: what was read, or why the file is refused.
use Rattle.std.specs.Prelude.{◌≡◌, ◌⊎◌, ℕ, ◌+◌, List}
use Rattle.text_grammar.specs.text_core.Faults.{IsFirst}
use Rattle.text_grammar.specs.text_core.Readers.{Fault}
use Rattle.text_grammar.specs.text_core.Reading.{IsTree}
use Rattle.text_grammar.specs.text_core.Tokens.{Token}
use Rattle.text_grammar.specs.Texts.{Text, reader}
use Rattle.cert_text.specs.cert_lexer.declared.kind.ProofKind.{ProofKind}
use Rattle.cert_text.specs.Remembered.{in_64}
use Rattle.refined_programs.specs.Annotated.{Section}
use Rattle.section_checks.specs.Faults as checks

-- why a section isn't accepted: the copies have no names, or names that don't differ; or else its first fault
pub data SectionRefusal : Type 0 where
  BadNames : SectionRefusal
  FirstFault : checks.Fault → SectionRefusal

-- why a file is refused: its text, with a kind and a position in the file; or its section, which isn't accepted
pub data Refusal : Type 0 where
  AtText : Fault ProofKind → Refusal
  AtSection : Section → SectionRefusal → Refusal

-- something that is read, or why the file is refused
pub data Outcome (T : Type 0) : Type 0 where
  Gives : T → Outcome T
  Refuses : Refusal → Outcome T

-- the outcome is this thing
abbrev pub IsJust : {T : Type 0} → T → Outcome T → Type 0
IsJust x (Gives y) = y ≡ x
IsJust x (Refuses r) = ⊥

-- One thing is read first, and then, by what it is, the next one: the outcome is that of the next one, or the refusal
-- of the first one.
abbrev pub Then : {A B : Type 0} → (Outcome A → Type 0) → (A → Outcome B → Type 0) → Outcome B → Type 0
Then {A} First Next (Gives b) = (a : A) × First (Gives a) × Next a (Gives b)
Then {A} First Next (Refuses r) = First (Refuses r) ⊎ ((a : A) × First (Gives a) × Next a (Refuses r))

-- a part of a file whose text is that of a grammar: the texts of the grammar, the number of the part's bytes, its
-- tokens, the kinds of its refusals, and the position of its first byte in the file
pub record PartText (P T K : Type 0) : Type 0 where
  pub grammar : Text P T K
  pub size : ℕ
  pub tokens : List (Token P)
  pub kind_of : K → ProofKind
  pub begins : ℕ

-- a refusal of a part at a position of the file: the position in the part is counted from where the part begins;
-- greater positions than 2^64-1 count as 2^64-1
abbrev pub in_file : {K : Type 0} → (K → ProofKind) → ℕ → Fault K → Fault ProofKind
in_file kind_of begins x = record { kind = kind_of x.kind; at = in_64 (begins + x.at) }

-- the refusal of a file for a refusal of a part
abbrev pub text_refusal : {K : Type 0} → (K → ProofKind) → ℕ → Fault K → Refusal
text_refusal kind_of begins x = AtText (in_file kind_of begins x)

-- reading a part gives what its text spells, where it has no fault and spells nothing else; or exactly its first fault
abbrev pub TextReads : {P T K : Type 0} → PartText P T K → Outcome T → Type 0
TextReads {P} {T} {K} part (Gives t) = IsTree (reader part.grammar) part.size part.tokens t
TextReads {P} {T} {K} part (Refuses r) =
    (x : Fault K) × IsFirst (reader part.grammar) part.size part.tokens x
    × (r ≡ text_refusal part.kind_of part.begins x)
