-- Reports on a program, and when the bounds of a report hold on all of its runs.
use Rattle.std.specs.Prelude.{◌≡◌, ◌↔◌, ℕ, zero, suc, List, length, map, Option, Some, None, IsTrue, IsSome}
use Rattle.std.specs.Prelude.{slice_get, is_some}
use Rattle.std.specs.List.{list_all}
use Rattle.farkas_cert.specs.model.Programs.{Program, arity_of}
use Rattle.farkas_cert.specs.model.Bounds.{Bound}
use Rattle.farkas_cert.specs.model.Facts.{HoldsTime, HoldsSize, HoldsCost, HoldsTotal}
use Rattle.outcome.specs.Reports.{Time, Timed, Size, Sized, RuleCost, Costed, Report, spendings}

-- a report on a program: a time for each rule; a cost for each rule that has one, and for no other; a total exactly
-- where what each rule spends has a bound; and for each rule an entry for each place of its target
pub record IsReportOn (p : Program) (r : Report) : Type 0 where
  pub times : length r.times ≡ length p.rules
  pub costs : map is_some r.costs ≡ map (λ rule. is_some rule.cost) p.rules
  pub total : IsTrue (list_all is_some (spendings r.times r.costs)) ↔ IsSome r.total
  pub sizes : map length r.sizes ≡ map (λ rule. arity_of p rule.target) p.rules

-- the entry of this number, from 1
abbrev pub numbered_entry : {A : Type 0} → List A → ℕ → Option A
numbered_entry entries zero = None
numbered_entry entries (suc n) = slice_get entries n

-- the entry of the place of this number, from 1, where there are entries of places
abbrev pub place_entry : Option (List Size) → ℕ → Option Size
place_entry None i = None
place_entry (Some sizes) i = numbered_entry sizes i

-- every bound that the report gives holds on all runs of the program: each rule occurs at most as often as its time
-- says, its steps cost at most what its cost says, all steps cost at most what the total says, and the absolute value
-- at a place after a rule is at most its size
pub record ReportHolds (p : Program) (r : Report) : Type 0 where
  pub times : (t : ℕ) (b : Bound) → numbered_entry r.times t ≡ Some (Timed b) → HoldsTime p t b
  pub costs : (t : ℕ) (b : Bound) → numbered_entry r.costs t ≡ Some (Some (Costed b)) → HoldsCost p t b
  pub total : (b : Bound) → r.total ≡ Some b → HoldsTotal p b
  pub sizes : (t i : ℕ) (b : Bound) → place_entry (numbered_entry r.sizes t) i ≡ Some (Sized b) → HoldsSize p t i b
