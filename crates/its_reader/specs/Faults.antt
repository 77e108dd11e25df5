-- Refusals of the code as plain data.
use Rattle.std.specs.Prelude.{◌≡◌, ℕ, List, [], ◌∷◌, Option, Some, None, Result, Ok, Err, ⊤}
use Rattle.model.specs.Programs.{Program}
use Rattle.text_core.specs.Readers.{Fault}
use Rattle.text_core.specs.Reading.{Answer, Parsed, Refused}
use Rattle.its_model.specs.declared.program.Program as code
use Rattle.its_model.specs.Views.{program_of}
use Rattle.its_text.specs.Kinds as kinds
use Rattle.its_reader.specs.declared.error.LimitKind.{LimitKind}
use Rattle.its_reader.specs.declared.error.LimitKind.TheVariants as limits
use Rattle.its_reader.specs.declared.error.ReadError.{ReadError}
use Rattle.its_reader.specs.declared.error.ReadError.TheVariants as errors
use Rattle.its_reader.specs.declared.fault.Kind.{Kind}
use Rattle.its_reader.specs.declared.fault.Kind.TheVariants as codes
use Rattle.its_reader.specs.declared.fault.Fault as found

-- the limit that a limit of the code stands for
abbrev pub limit_of : LimitKind → kinds.LimitKind
limit_of limits.Rules = kinds.TooManyRules
limit_of limits.Arity = kinds.TooManyArguments
limit_of limits.Variables = kinds.TooManyVariables
limit_of limits.Atoms = kinds.TooManyAtoms
limit_of limits.Name = kinds.LongName
limit_of limits.Tokens = kinds.TooManyTokens
limit_of limits.Terms = kinds.TooManyTerms
limit_of limits.Degree = kinds.HighDegree

abbrev pub kind_of : Kind → kinds.Kind
kind_of codes.NotAscii = kinds.NotAscii
kind_of codes.Syntax = kinds.Syntax
kind_of codes.MissingSection = kinds.MissingSection
kind_of codes.RepeatedSection = kinds.RepeatedSection
kind_of codes.ManyTargets = kinds.ManyTargets
kind_of codes.LeftNotVariable = kinds.LeftNotVariable
kind_of codes.LeftRepeated = kinds.LeftRepeated
kind_of codes.ArityDiffers = kinds.ArityDiffers
kind_of codes.NumberTooLarge = kinds.NumberTooLarge
kind_of (codes.Limit k) = kinds.Limit (limit_of k)
kind_of codes.StartUnknown = kinds.StartUnknown
kind_of codes.Disjunction = kinds.Disjunction

-- the plain fault of a fault of the code
abbrev pub fault_of : found.Fault → Fault kinds.Kind
fault_of x = record { kind = kind_of x.kind; at = x.at }

abbrev pub maybe_fault : Option found.Fault → Option (Fault kinds.Kind)
maybe_fault None = None
maybe_fault (Some x) = Some (fault_of x)

abbrev pub maybe_kind : Option Kind → ℕ → List (Fault kinds.Kind)
maybe_kind None at = []
maybe_kind (Some k) at = record { kind = kind_of k; at = at } ∷ []

-- the fault that an error reports; running out of memory is none
abbrev pub fault_in : ReadError → Option (Fault kinds.Kind)
fault_in (errors.NotAscii at) = Some (record { kind = kinds.NotAscii; at = at })
fault_in (errors.Syntax at) = Some (record { kind = kinds.Syntax; at = at })
fault_in (errors.MissingSection at) = Some (record { kind = kinds.MissingSection; at = at })
fault_in (errors.RepeatedSection at) = Some (record { kind = kinds.RepeatedSection; at = at })
fault_in (errors.ManyTargets at) = Some (record { kind = kinds.ManyTargets; at = at })
fault_in (errors.LeftNotVariable at) = Some (record { kind = kinds.LeftNotVariable; at = at })
fault_in (errors.LeftRepeated at) = Some (record { kind = kinds.LeftRepeated; at = at })
fault_in (errors.ArityDiffers at) = Some (record { kind = kinds.ArityDiffers; at = at })
fault_in (errors.NumberTooLarge at) = Some (record { kind = kinds.NumberTooLarge; at = at })
fault_in (errors.Limit k at) = Some (record { kind = kinds.Limit (limit_of k); at = at })
fault_in (errors.StartUnknown at) = Some (record { kind = kinds.StartUnknown; at = at })
fault_in (errors.Disjunction at) = Some (record { kind = kinds.Disjunction; at = at })
fault_in errors.Memory = None

-- the result of the code agrees with the answer to a text; the code may always run out of memory
abbrev pub Says : Answer Program kinds.Kind → Result code.Program ReadError → Type 0
Says (Parsed p) (Ok q) = program_of q ≡ p
Says (Parsed p) (Err e) = fault_in e ≡ None
Says (Refused x) (Ok q) = ⊥
Says (Refused x) (Err errors.Memory) = ⊤
Says (Refused x) (Err e) = fault_in e ≡ Some x
