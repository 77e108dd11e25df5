-- A program has one analysis.
use Rattle.std.specs.Prelude.{◌≡◌, ℕ, map, Option, Some, None}
use Rattle.model.specs.Programs.{Program}
use Rattle.outcome.specs.Reports.{Report}
use Rattle.outcome.specs.Views.{report_of}
use Rattle.outcome.specs.declared.entry.CostEntry.{CostEntry}
use Rattle.outcome.specs.declared.entry.CostEntry.TheVariants as costs
use Rattle.outcome.specs.declared.entry.TimeEntry.{TimeEntry}
use Rattle.outcome.specs.declared.entry.TimeEntry.TheVariants as times
use Rattle.outcome.specs.declared.entry.SizeEntry.{SizeEntry}
use Rattle.outcome.specs.declared.outcome_of.Outcome.{Outcome}
use Rattle.cert_types.specs.AnswerViews.{gap_of}
use Rattle.cert_types.specs.Views.{proof_of}
use Rattle.size_bounds.specs.Tables.{lemma_stored}
use Rattle.time_bounds.specs.Numbered.{size_stored}
use Rattle.time_bounds.specs.Analysis.{IsAnalysis}
use Rattle.time_bounds.specs.AnalysisLemmas.{HasLemmas}

-- the number that the entry of a time carries: that of its lemma, or of its gap; 0 where it carries none
abbrev pub number_of_time : TimeEntry → ℕ
number_of_time (times.Known s) = s.lemma
number_of_time (times.Gap g) = g
number_of_time (times.OutOfLimits x) = 0
number_of_time (times.Large n) = 0

-- the number that the entry of a cost carries: that of its lemma; 0 where it carries none
abbrev pub number_of_cost : Option CostEntry → ℕ
number_of_cost None = 0
number_of_cost (Some (costs.Known s)) = s.lemma
number_of_cost (Some (costs.UnboundedSide l)) = 0
number_of_cost (Some (costs.OutOfLimits x)) = 0
number_of_cost (Some (costs.Missing m)) = 0
number_of_cost (Some (costs.Untimed t)) = 0
number_of_cost (Some (costs.Large n)) = 0

-- the number that the entry of a size carries: that of its lemma; 0 where it carries none
abbrev pub number_of_size : SizeEntry → ℕ
number_of_size x = lemma_stored (size_stored x)

-- two outcomes are one as plain data: they have the same report, the same lemmas and the same gaps, in order, and the
-- entries of each time and of each size carry the same numbers
pub record AreOneOutcome (x y : Outcome) : Type 0 where
  pub report : report_of x ≡ report_of y
  pub lemmas : map proof_of x.lemmas.items ≡ map proof_of y.lemmas.items
  pub gaps : map gap_of x.gaps.items ≡ map gap_of y.gaps.items
  pub times : map number_of_time x.times.items ≡ map number_of_time y.times.items
  pub costs : map number_of_cost x.costs.items ≡ map number_of_cost y.costs.items
  pub sizes : map (λ row. map number_of_size row.items) x.sizes.items
      ≡ map (λ row. map number_of_size row.items) y.sizes.items

-- a program has one analysis within a number of pivots: one report, and one outcome with its lemmas
pub record AnalysesAreOne : Type 0 where
  pub each : (p : Program) (pivots : ℕ) (r q : Report) → IsAnalysis p pivots r → IsAnalysis p pivots q → r ≡ q
  pub outcomes : (p : Program) (pivots : ℕ) (x y : Outcome) → IsAnalysis p pivots (report_of x) → HasLemmas p pivots x
      → IsAnalysis p pivots (report_of y) → HasLemmas p pivots y → AreOneOutcome x y
