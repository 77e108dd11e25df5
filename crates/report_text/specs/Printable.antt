-- Reports that are determined by their texts: their numbers fit the types that hold them, their bounds are tidy and
-- over the start arguments, and their gaps have only points that are printed in lines. The report of an analysis is
-- printable if its numbers fit these types, which is a law of a crate above: its bounds are rewritten and over the
-- start arguments; a gap has one move and one kept point for each rule of its set, and its shut places are places of
-- the program's symbols.
use Rattle.std.specs.Prelude.{ℕ, ◌^◌, ◌<◌, ◌≤◌, length, ℤ, nat_abs, Option, Some, None, ⊤}
use Rattle.std.specs.List.{AllByRecursion}
use Rattle.model.specs.Programs.{Program}
use Rattle.model.specs.Bounds.{Bound}
use Rattle.bound_expr.specs.Tidy.{IsTidy}
use Rattle.bound_expr.specs.Numbers.{ReadsBelow}
use Rattle.bound_text.specs.Texts.{FitsTypes}
use Rattle.cert_types.specs.cert_rules.Nodes.{ResultVariable}
use Rattle.cert_types.specs.cert_rules.Gaps.{ScaledPoint, SymbolPlace, Gap}
use Rattle.cert_types.specs.declared.answer.Question.{Question}
use Rattle.cert_types.specs.declared.answer.Question.TheVariants as questions
use Rattle.farkas_cert.specs.linear_forms.declared.limit_cause.LimitCause.{LimitCause}
use Rattle.farkas_cert.specs.linear_forms.declared.limit_cause.LimitCause.TheVariants as causes
use Rattle.cert_types.specs.declared.answer.LimitHit.{LimitHit}
use Rattle.outcome.specs.Reports.{NoTime, NoFunction, TimeHitLimit, TimeLarge, Time, Timed, Untimed}
use Rattle.outcome.specs.Reports.{NoSize, SizeUnbounded, SizeHitLimit, SizeMissing, SizeNonlinear, SizeUntimed, SizeLarge}
use Rattle.outcome.specs.Reports.{Size, Sized, Unsized, RuleCost, Costed, Uncosted, Report}

-- a number has 64 bits
abbrev pub IsShort : ℕ → Type 0
IsShort n = n < 2 ^ 64

-- the absolute value of a number with a sign has 64 bits
abbrev pub IsShortSigned : ℤ → Type 0
IsShortSigned z = IsShort (nat_abs z)

-- a bound is tidy, reads the first n inputs alone, and its numbers fit the types that hold them
pub record IsPrintableBound (n : ℕ) (b : Bound) : Type 0 where
  pub tidy : IsTidy b
  pub listed : ReadsBelow n b
  pub fits : FitsTypes b

-- the numbers of a point are short
pub record IsPrintablePoint (p : ScaledPoint) : Type 0 where
  pub parts : AllByRecursion IsShortSigned p.parts
  pub den : IsShort p.den

-- a place is one of the first n symbols'
pub record IsPrintablePlace (n : ℕ) (s : SymbolPlace) : Type 0 where
  pub symbol : s.symbol < n
  pub place : IsShort s.place

-- a gap has no more moves and no more kept points than rules in its set, shuts places of the first n symbols, and its
-- numbers are short
pub record IsPrintableGap (n : ℕ) (g : Gap) : Type 0 where
  pub rule : IsShort g.rule
  pub set : AllByRecursion IsShort g.set
  pub shut : AllByRecursion (IsPrintablePlace n) g.shut
  pub moves_shown : length g.moves ≤ length g.set
  pub moves : AllByRecursion IsPrintablePoint g.moves
  pub floor : IsPrintablePoint g.floor
  pub kept_shown : length g.kept ≤ length g.set
  pub kept : AllByRecursion IsPrintablePoint g.kept

-- the numbers of a question are short
abbrev pub IsPrintableQuestion : Question → Type 0
IsPrintableQuestion (questions.Empty rule) = IsShort rule
IsPrintableQuestion (questions.Rank rule) = IsShort rule
IsPrintableQuestion (questions.Local rule place) = IsShort rule × IsShort place
IsPrintableQuestion (questions.Cost rule) = IsShort rule

-- the number of a limit is short
abbrev pub IsPrintableCause : LimitCause → Type 0
IsPrintableCause (causes.Range pivot) = IsShort pivot
IsPrintableCause (causes.Budget pivots) = IsShort pivots
IsPrintableCause (causes.Wide entries) = IsShort entries
IsPrintableCause causes.Scale = ⊤

-- the numbers of a limit hit fit
pub record IsPrintableLimitHit (t : LimitHit) : Type 0 where
  pub question : IsPrintableQuestion t.question
  pub cause : IsPrintableCause t.cause

-- the numbers of a rule and a place fit
pub record IsPrintableResultVariable (s : ResultVariable) : Type 0 where
  pub rule : IsShort s.rule
  pub place : IsShort s.place

-- a reason why a time is missing is printable, with this many symbols
abbrev pub IsPrintableNoTime : ℕ → NoTime → Type 0
IsPrintableNoTime n (NoFunction g) = IsPrintableGap n g
IsPrintableNoTime n (TimeHitLimit t) = IsPrintableLimitHit t
IsPrintableNoTime n (TimeLarge nodes) = IsShort nodes

-- a reason why a size is missing is printable
abbrev pub IsPrintableNoSize : NoSize → Type 0
IsPrintableNoSize (SizeUnbounded side ray kept) = AllByRecursion IsShortSigned ray × IsPrintablePoint kept
IsPrintableNoSize (SizeHitLimit t) = IsPrintableLimitHit t
IsPrintableNoSize (SizeMissing s) = IsPrintableResultVariable s
IsPrintableNoSize (SizeNonlinear s) = IsPrintableResultVariable s
IsPrintableNoSize (SizeUntimed rule) = IsShort rule
IsPrintableNoSize (SizeLarge nodes) = IsShort nodes

-- a time is printable on a program
abbrev pub IsPrintableTime : Program → Time → Type 0
IsPrintableTime p (Timed b) = IsPrintableBound (length p.start_names) b
IsPrintableTime p (Untimed w) = IsPrintableNoTime (length p.symbols) w

-- a cost is printable on a program, where the rule has one
abbrev pub IsPrintableCost : Program → Option RuleCost → Type 0
IsPrintableCost p None = ⊤
IsPrintableCost p (Some (Costed b)) = IsPrintableBound (length p.start_names) b
IsPrintableCost p (Some (Uncosted w)) = IsPrintableNoSize w

-- a size is printable on a program
abbrev pub IsPrintableSize : Program → Size → Type 0
IsPrintableSize p (Sized b) = IsPrintableBound (length p.start_names) b
IsPrintableSize p (Unsized w) = IsPrintableNoSize w

-- the total is printable, where there is one
abbrev pub IsPrintableTotal : Program → Option Bound → Type 0
IsPrintableTotal p (Some b) = IsPrintableBound (length p.start_names) b
IsPrintableTotal p None = ⊤

-- a report is printable on a program: its entries are
pub record IsPrintableReport (p : Program) (r : Report) : Type 0 where
  pub times : AllByRecursion (IsPrintableTime p) r.times
  pub costs : AllByRecursion (IsPrintableCost p) r.costs
  pub total : IsPrintableTotal p r.total
  pub sizes : AllByRecursion (AllByRecursion (IsPrintableSize p)) r.sizes
