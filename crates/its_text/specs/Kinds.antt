-- The kinds of refusals of a program's text, and their order at one byte.
use Rattle.std.specs.Prelude.{ℕ}

-- The things that can be too many or too long.
pub data LimitKind : Type 0 where
  TooManyRules : LimitKind
  TooManyArguments : LimitKind
  TooManyVariables : LimitKind
  TooManyAtoms : LimitKind
  LongName : LimitKind
  TooManyTokens : LimitKind
  TooManyTerms : LimitKind
  HighDegree : LimitKind

-- Why a text is refused.
pub data Kind : Type 0 where
  NotAscii : Kind
  Syntax : Kind
  MissingSection : Kind
  RepeatedSection : Kind
  ManyTargets : Kind
  LeftNotVariable : Kind
  LeftRepeated : Kind
  ArityDiffers : Kind
  NumberTooLarge : Kind
  Limit : LimitKind → Kind
  StartUnknown : Kind
  Disjunction : Kind

-- Of two refusals at one byte, the one with the lower number is reported; of two limits, the one listed first.
abbrev pub limit_number : LimitKind → ℕ
limit_number TooManyRules = 10
limit_number TooManyArguments = 11
limit_number TooManyVariables = 12
limit_number TooManyAtoms = 13
limit_number LongName = 14
limit_number TooManyTokens = 15
limit_number TooManyTerms = 16
limit_number HighDegree = 17

abbrev pub kind_number : Kind → ℕ
kind_number NotAscii = 1
kind_number Syntax = 2
kind_number MissingSection = 3
kind_number RepeatedSection = 4
kind_number ManyTargets = 5
kind_number LeftNotVariable = 6
kind_number LeftRepeated = 7
kind_number ArityDiffers = 8
kind_number NumberTooLarge = 9
kind_number (Limit k) = limit_number k
kind_number StartUnknown = 18
kind_number Disjunction = 19
