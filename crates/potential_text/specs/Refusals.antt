-- The refusals of errors.
use Rattle.std.specs.Prelude.{Option, Some, None}
use Rattle.text_grammar.specs.text_core.Readers.{Fault}
use Rattle.potential_text.specs.declared.kind.LineKind.{LineKind}
use Rattle.potential_text.specs.declared.kind.LineKind.TheVariants as kinds
use Rattle.potential_text.specs.declared.error.PotentialTextError.{PotentialTextError}
use Rattle.potential_text.specs.declared.error.PotentialTextError.TheVariants.{Syntax, NumberTooLarge, TooDeep, BadReference}
use Rattle.potential_text.specs.declared.error.PotentialTextError.TheVariants.{Limit, Memory}

-- the refusal of an error; want of memory has none
abbrev pub refusal_in : PotentialTextError → Option (Fault LineKind)
refusal_in (Syntax at) = Some (record { kind = kinds.Syntax; at = at })
refusal_in (NumberTooLarge at) = Some (record { kind = kinds.NumberTooLarge; at = at })
refusal_in (TooDeep at) = Some (record { kind = kinds.TooDeep; at = at })
refusal_in (BadReference at) = Some (record { kind = kinds.BadReference; at = at })
refusal_in (Limit at) = Some (record { kind = kinds.Limit; at = at })
refusal_in Memory = None
