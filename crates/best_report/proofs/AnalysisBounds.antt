-- The bounds of an analysis hold as bounds on their subjects.
use Rattle.std.proofs.Common.{◌≡◌, ℕ, ◌≤◌, Option, Some, None, option_map, refl, ap, arith}
use Rattle.std.specs.Prelude.{ℤ, pos, negsuc, neg_ℤ, ◌≤ℤ◌, nat_abs, IfSome}
use Rattle.std.proofs.lemmas.Int.{ints}
use Rattle.its_model.specs.model.Programs.{Program}
use Rattle.its_model.specs.model.Bounds.{Bound}
use Rattle.its_model.specs.model.Facts.{HoldsTime, HoldsSize, HoldsCost, HoldsTotal}
use Rattle.its_model.specs.model.Runs.{place_value}
use Rattle.model.proofs.Cases.{none_some, some_same}
use Rattle.signed_bounds.specs.Inputs.{signed_of_bound, SignedBoundsKeepValues}
use Rattle.program_claims.specs.Claims.{HoldsOf}
use Rattle.outcome.specs.Reports.{Time, Timed, Untimed, Size, Sized, Unsized, RuleCost, Costed, Uncosted, Report}
use Rattle.outcome.specs.Holding.{ReportHolds, numbered_entry, place_entry}
use Rattle.best_report.specs.declared.subject.Subject.{Subject}
use Rattle.best_report.specs.declared.subject.Subject.TheVariants as subjects
use Rattle.best_report.specs.Subjects.{stated_by}
use Rattle.best_report.specs.Reports.{time_bound, cost_bound, size_bound, analysis_bound, signed_analysis_bound}

-- an entry with a bound
time-entry : (o : Option Time) (b : Bound) → time_bound o ≡ Some b → o ≡ Some (Timed b)
time-entry None b e = absurd (none_some _ e)
time-entry (Some (Timed c)) b e = ap (λ (d : Bound). Some (Timed d)) (some_same _ _ e)
time-entry (Some (Untimed w)) b e = absurd (none_some _ e)

cost-entry : (o : Option (Option RuleCost)) (b : Bound) → cost_bound o ≡ Some b → o ≡ Some (Some (Costed b))
cost-entry None b e = absurd (none_some _ e)
cost-entry (Some None) b e = absurd (none_some _ e)
cost-entry (Some (Some (Costed c))) b e = ap (λ (d : Bound). Some (Some (Costed d))) (some_same _ _ e)
cost-entry (Some (Some (Uncosted w))) b e = absurd (none_some _ e)

size-entry : (o : Option Size) (b : Bound) → size_bound o ≡ Some b → o ≡ Some (Sized b)
size-entry None b e = absurd (none_some _ e)
size-entry (Some (Sized c)) b e = ap (λ (d : Bound). Some (Sized d)) (some_same _ _ e)
size-entry (Some (Unsized w)) b e = absurd (none_some _ e)

-- an absolute value bounds an integer from above and from below
from-above : (z : ℤ) (n m : ℕ) → nat_abs z ≤ n → m ≡ n → z ≤ℤ pos m
from-above (pos k) n m h e = omega (arith, ints, h, e)
from-above (negsuc k) n m h e = omega (arith, ints)

from-below : (z : ℤ) (n m : ℕ) → nat_abs z ≤ n → m ≡ n → neg_ℤ z ≤ℤ pos m
from-below (pos k) n m h e = omega (arith, ints)
from-below (negsuc k) n m h e = omega (arith, ints, h, e)

less : (a n m : ℕ) → a ≤ n → m ≡ n → a ≤ m
less a n m h e = omega (arith, h, e)

module _ (keep : SignedBoundsKeepValues) (p : Program) where
  above-holds : (t i : ℕ) (b : Bound) → HoldsSize p t i b
      → HoldsOf p (stated_by (subjects.Above t i) (signed_of_bound b))
  above-holds t i b h = record {
    each = λ start steps c run last.
        from-above (place_value c i) _ _ (h.each start steps c run last) (keep.each b start);
  }

  below-holds : (t i : ℕ) (b : Bound) → HoldsSize p t i b
      → HoldsOf p (stated_by (subjects.Below t i) (signed_of_bound b))
  below-holds t i b h = record {
    each = λ start steps c run last.
        from-below (place_value c i) _ _ (h.each start steps c run last) (keep.each b start);
  }

  -- the bound of an analysis whose bounds hold, as one on its subject
  pub bound-holds : (r : Report) (s : Subject) (b : Bound) → ReportHolds p r → analysis_bound r s ≡ Some b
      → HoldsOf p (stated_by s (signed_of_bound b))
  bound-holds r (subjects.Time t) b h e =
      let holds : HoldsTime p t b = h.times t b (time-entry (numbered_entry r.times t) b e) in record {
        each = λ start steps c run. less _ _ _ (holds.each start steps c run) (keep.each b start);
      }
  bound-holds r (subjects.Cost t) b h e =
      let holds : HoldsCost p t b = h.costs t b (cost-entry (numbered_entry r.costs t) b e) in record {
        each = λ start steps c run. less _ _ _ (holds.each start steps c run) (keep.each b start);
      }
  bound-holds r subjects.Total b h e =
      let holds : HoldsTotal p b = h.total b e in record {
        each = λ start steps c run. less _ _ _ (holds.each start steps c run) (keep.each b start);
      }
  bound-holds r (subjects.Above t i) b h e =
      above-holds t i b (h.sizes t i b (size-entry (place_entry (numbered_entry r.sizes t) i) b e))
  bound-holds r (subjects.Below t i) b h e =
      below-holds t i b (h.sizes t i b (size-entry (place_entry (numbered_entry r.sizes t) i) b e))

  -- the same over the start values, where there is a bound
  pub found-holds : (r : Report) (s : Subject) → ReportHolds p r
      → IfSome (signed_analysis_bound r s) (λ b. HoldsOf p (stated_by s b))
  found-holds r s h = go (analysis_bound r s) refl
    where
      go : (o : Option Bound) → analysis_bound r s ≡ o
          → IfSome (option_map signed_of_bound o) (λ b. HoldsOf p (stated_by s b))
      go None e = tt
      go (Some b) e = bound-holds r s b h e
