-- The refusal that an error reports.
use Rattle.std.specs.Prelude.{Option, Some, None}
use Rattle.text_grammar.specs.text_core.Readers.{Fault}
use Rattle.cert_lexer.specs.declared.kind.ProofKind.{ProofKind}
use Rattle.cert_lexer.specs.declared.kind.ProofKind.TheVariants as kind
use Rattle.cert_text.specs.declared.error.ProofTextError.{ProofTextError}
use Rattle.cert_text.specs.declared.error.ProofTextError.TheVariants.{Syntax, NumberTooLarge, TooDeep, BadReference}
use Rattle.cert_text.specs.declared.error.ProofTextError.TheVariants.{Limit, Memory}

-- the refusal of an error; running out of memory has none
abbrev pub refusal_in : ProofTextError → Option (Fault ProofKind)
refusal_in (Syntax at) = Some (record { kind = kind.Syntax; at = at })
refusal_in (NumberTooLarge at) = Some (record { kind = kind.NumberTooLarge; at = at })
refusal_in (TooDeep at) = Some (record { kind = kind.TooDeep; at = at })
refusal_in (BadReference at) = Some (record { kind = kind.BadReference; at = at })
refusal_in (Limit at) = Some (record { kind = kind.Limit; at = at })
refusal_in Memory = None
