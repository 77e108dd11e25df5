-- The parts of a file of the third form.
use Rattle.std.specs.Prelude.{◌≡◌, ℕ, Bool, if◌then◌else◌, List, [], ◌∷◌, ◌++◌}
use Rattle.std.specs.List.{concat}
use Rattle.text_core.specs.Prefixes.{prefix, rest}
use Rattle.proof_parts.specs.Lines.{lines_of}
use Rattle.proof_parts.specs.Kinds.{is_section_line, is_end_line, is_signed_line}
use Rattle.proof_parts.specs.Head.{first_line}

-- the parts of a file, as bytes
pub record Parts : Type 0 where
  pub section : List ℕ
  pub plain : List ℕ
  pub signed : List ℕ
  pub claims : List ℕ

-- the lines through the first one that passes a test; all lines if none does
abbrev pub through : (List ℕ → Bool) → List (List ℕ) → List (List ℕ)
through test [] = []
through test (line ∷ lines) = line ∷ (if test line then [] else through test lines)

-- the lines after the first one that passes a test; none if none does
abbrev pub past : (List ℕ → Bool) → List (List ℕ) → List (List ℕ)
past test [] = []
past test (line ∷ lines) = if test line then lines else past test lines

-- the lines after a section
abbrev pub behind_section : List (List ℕ) → List (List ℕ)
behind_section lines = rest is_section_line lines

-- the lines after a plain part
abbrev pub behind_plain : List (List ℕ) → List (List ℕ)
behind_plain lines = past is_end_line (behind_section lines)

-- The parts of the lines behind the first: the lines at the beginning that are those of a section; then those up to the
-- first one that ends a plain part, and with it; then those at the beginning that are of signed lemmas; then all
-- others.
abbrev pub parts_of_lines : List (List ℕ) → Parts
parts_of_lines lines = record {
  section = concat (prefix is_section_line lines);
  plain = concat (through is_end_line (behind_section lines));
  signed = concat (prefix is_signed_line (behind_plain lines));
  claims = concat (rest is_signed_line (behind_plain lines));
}

-- a file begins with the first line, and these are the parts of the lines behind it
pub record IsCut (bytes : List ℕ) (parts : Parts) : Type 0 where
  pub behind : List ℕ
  pub begins : bytes ≡ first_line ++ behind
  pub parts_are : parts ≡ parts_of_lines (lines_of behind)

-- the parts one behind the other
abbrev pub all_parts : Parts → List ℕ
all_parts parts = parts.section ++ (parts.plain ++ (parts.signed ++ parts.claims))
