-- Reports whose numbers fit the types that hold them.
use Rattle.std.specs.Prelude.{Option, Some, None, ⊤}
use Rattle.std.specs.List.{AllByRecursion}
use Rattle.model.specs.Bounds.{Bound}
use Rattle.bound_text.specs.Texts.{HasShortBases}
use Rattle.outcome.specs.cert_rules.Gaps.{Gap}
use Rattle.outcome.specs.Reports.{NoTime, NoFunction, TimeHitLimit, TimeLarge, Time, Timed, Untimed}
use Rattle.outcome.specs.Reports.{Size, Sized, Unsized, RuleCost, Costed, Uncosted, Report}
use Rattle.report_text.specs.Printable.{IsShort, IsPrintablePoint, IsPrintableLimitHit, IsPrintableNoSize}

-- the numbers of a gap have 64 bits
pub record HasShortNumbers (g : Gap) : Type 0 where
  pub rule : IsShort g.rule
  pub set : AllByRecursion IsShort g.set
  pub places : AllByRecursion (λ s. IsShort s.place) g.shut
  pub moves : AllByRecursion IsPrintablePoint g.moves
  pub floor : IsPrintablePoint g.floor
  pub kept : AllByRecursion IsPrintablePoint g.kept

-- the numbers of a reason why a time is missing fit their types
abbrev pub ReasonFits : NoTime → Type 0
ReasonFits (NoFunction g) = HasShortNumbers g
ReasonFits (TimeHitLimit t) = IsPrintableLimitHit t
ReasonFits (TimeLarge nodes) = IsShort nodes

-- the numbers of a time, of a rule's cost, of a size and of the total fit the types that hold them: the bases of powers in
-- a bound, or the numbers of a reason
abbrev pub TimeFits : Time → Type 0
TimeFits (Timed b) = HasShortBases b
TimeFits (Untimed why) = ReasonFits why

abbrev pub CostFits : Option RuleCost → Type 0
CostFits None = ⊤
CostFits (Some (Costed b)) = HasShortBases b
CostFits (Some (Uncosted why)) = IsPrintableNoSize why

abbrev pub SizeFits : Size → Type 0
SizeFits (Sized b) = HasShortBases b
SizeFits (Unsized why) = IsPrintableNoSize why

abbrev pub TotalFits : Option Bound → Type 0
TotalFits (Some b) = HasShortBases b
TotalFits None = ⊤

-- all numbers of a report fit the types that hold them
pub record ReportFits (r : Report) : Type 0 where
  pub times : AllByRecursion TimeFits r.times
  pub costs : AllByRecursion CostFits r.costs
  pub total : TotalFits r.total
  pub sizes : AllByRecursion (AllByRecursion SizeFits) r.sizes
