-- Kinds of lines.
use Rattle.std.specs.Prelude.{ℕ, Bool, ◌||◌, List, codes}
use Rattle.proof_parts.specs.declared.kind.LineKind.{LineKind}
use Rattle.proof_parts.specs.declared.kind.LineKind.TheVariants as kinds
use Rattle.proof_parts.specs.Lines.{begins_with_word}

-- a line of a section begins with `copy` or `from`, the last line of a plain part with `end`, a line of a signed lemma
-- with `signed`
abbrev pub is_section_line : List ℕ → Bool
is_section_line line = begins_with_word (codes "copy") line || begins_with_word (codes "from") line

abbrev pub is_end_line : List ℕ → Bool
is_end_line line = begins_with_word (codes "end") line

abbrev pub is_signed_line : List ℕ → Bool
is_signed_line line = begins_with_word (codes "signed") line

-- whether a line is of a kind
abbrev pub is_line_of : LineKind → List ℕ → Bool
is_line_of kinds.Section line = is_section_line line
is_line_of kinds.End line = is_end_line line
is_line_of kinds.Signed line = is_signed_line line
