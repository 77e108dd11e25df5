-- The refusal that an error reports.
use Rattle.std.specs.Prelude.{Option, Some, None}
use Rattle.text_grammar.specs.text_core.Readers.{Fault}
use Rattle.section_text.specs.declared.kind.SectionKind.{SectionKind}
use Rattle.section_text.specs.declared.kind.SectionKind.TheVariants as kinds
use Rattle.section_text.specs.declared.error.SectionTextError.{SectionTextError}
use Rattle.section_text.specs.declared.error.SectionTextError.TheVariants.{Syntax, NumberTooLarge, TooDeep, BadReference}
use Rattle.section_text.specs.declared.error.SectionTextError.TheVariants.{Limit, Memory}

-- the refusal of an error; running out of memory has none
abbrev pub refusal_in : SectionTextError → Option (Fault SectionKind)
refusal_in (Syntax at) = Some (record { kind = kinds.Syntax; at = at })
refusal_in (NumberTooLarge at) = Some (record { kind = kinds.NumberTooLarge; at = at })
refusal_in (TooDeep at) = Some (record { kind = kinds.TooDeep; at = at })
refusal_in (BadReference at) = Some (record { kind = kinds.BadReference; at = at })
refusal_in (Limit at) = Some (record { kind = kinds.Limit; at = at })
refusal_in Memory = None
