-- Kinds of refusals: those of sections and of lines as those of the same name of plain parts.
use Rattle.cert_text.specs.cert_lexer.declared.kind.ProofKind.{ProofKind}
use Rattle.cert_text.specs.cert_lexer.declared.kind.ProofKind.TheVariants as kinds
use Rattle.section_text.specs.declared.kind.SectionKind.{SectionKind}
use Rattle.section_text.specs.declared.kind.SectionKind.TheVariants as section_kinds
use Rattle.potential_text.specs.declared.kind.LineKind.{LineKind}
use Rattle.potential_text.specs.declared.kind.LineKind.TheVariants as line_kinds

-- the kind of a refusal of a section
abbrev pub kind_of_section : SectionKind → ProofKind
kind_of_section section_kinds.Syntax = kinds.Syntax
kind_of_section section_kinds.NumberTooLarge = kinds.NumberTooLarge
kind_of_section section_kinds.TooDeep = kinds.TooDeep
kind_of_section section_kinds.BadReference = kinds.BadReference
kind_of_section section_kinds.Limit = kinds.Limit

-- the kind of a refusal of lines of lemmas or claims
abbrev pub kind_of_line : LineKind → ProofKind
kind_of_line line_kinds.Syntax = kinds.Syntax
kind_of_line line_kinds.NumberTooLarge = kinds.NumberTooLarge
kind_of_line line_kinds.TooDeep = kinds.TooDeep
kind_of_line line_kinds.BadReference = kinds.BadReference
kind_of_line line_kinds.Limit = kinds.Limit

-- the kind of a refusal of a plain part is itself
abbrev pub same_kind : ProofKind → ProofKind
same_kind kind = kind
