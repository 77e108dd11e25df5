-- Each reason in the report of an analysis is true of the program.
use Rattle.std.proofs.Common.{◌≡◌, ℕ, zero, suc, List, Option, Some, None, refl, sym, subst, slice_get}
use Rattle.model.specs.Bounds.{Constant}
use Rattle.model.specs.Programs.{Program}
use Rattle.model.proofs.Cases.{none_some}
use Rattle.its_model.specs.Valid.{IsValid}
use Rattle.outcome.specs.Holding.{numbered_entry, place_entry}
use Rattle.outcome.specs.Reports.{NoTime, Untimed, NoSize, SizeUnbounded, SizeHitLimit, SizeMissing, SizeNonlinear, SizeUntimed}
use Rattle.outcome.specs.Reports.{SizeLarge, Size, Unsized, Uncosted, Report}
use Rattle.cert_types.specs.cert_rules.Known.{IsKnown}
use Rattle.cert_types.specs.cert_program.Setting.{setting_of}
use Rattle.bound_fixpoint.specs.Answers.{Target, TimeOf, SizesOf, Lacks, AnswersTime, AnswersTarget}
use Rattle.bound_fixpoint.specs.Derivations.{Derivation, bounds_of}
use Rattle.bound_fixpoint.specs.Keys.{Bounds, over}
use Rattle.bound_fixpoint.specs.Rounds.{IsAskedFor, IsNoBound}
use Rattle.local_size.specs.Places.{value_on}
use Rattle.cost_bounds.specs.CostOutcomes.{NotBounded, IsCostOf}
use Rattle.cost_bounds.specs.CostReasons.{prepared_cost, HasNoCostBound}
use Rattle.cost_bounds.proofs.CostReasons.{reasons-true}
use Rattle.time_bounds.specs.Analysis.{IsAnalysis}
use Rattle.time_bounds.specs.CostWhys.{HasNoCost}
use Rattle.time_bounds.specs.ProgramSearches.{searches_of_program}
use Rattle.bound_fixpoint.specs.Searches.{OfTime, OfSize}
use Rattle.time_bounds.specs.SaidBounds.{bounds_said}
use Rattle.time_bounds.specs.SizeWhys.{HasNoSize}
use Rattle.time_bounds.specs.TimeWhys.{HasNoTime}
use Rattle.time_bounds.specs.Whys.{ReasonsAreTrue, AnalysesGiveReasons}
use Rattle.time_bounds.proofs.PassedForms.{unbounded_passes}
use Rattle.time_bounds.proofs.ReportEntries.{costed_at}
use Rattle.time_bounds.proofs.SaidKnown.{time-sound_at, size-sound, said_known}
use Rattle.time_bounds.proofs.TrueSizeWhys.{place_so}
use Rattle.time_bounds.proofs.TrueTimeWhys.{time_so}

module _ (p : Program) (pivots : ℕ) (valid : IsValid p) (fs : List Derivation) where
  -- the virtual entry has a time with any derivations
  begun : IsKnown (bounds_of p fs 0 0)
  begun = (Constant 1, refl)

  -- the reason why a rule has no time with the derivations is true
  no_time_so : (t : ℕ) (why : NoTime) → IsNoBound (searches_of_program p pivots) (setting_of p) fs t 0 (OfTime why)
      → HasNoTime p pivots (bounds_of p fs) t why
  no_time_so t why h = go h.target h.asked h.is_answer
    where
      go : (g : Target) → IsAskedFor (searches_of_program p pivots) (setting_of p) t 0 g
          → AnswersTarget (searches_of_program p pivots) (setting_of p) (bounds_of p fs) g (Lacks (OfTime why))
          → HasNoTime p pivots (bounds_of p fs) t why
      go (TimeOf u) asked is_answer =
          time_so p pivots valid (bounds_of p fs) begun t asked.0 why
          (subst (λ (n : ℕ). AnswersTime (searches_of_program p pivots) (setting_of p) (bounds_of p fs) n (Lacks (OfTime why)))
          asked.1 is_answer)
      go (SizesOf keys) asked is_answer = absurd asked

  -- the reason why a place has no size with them is true
  no_size_so : (t j : ℕ) (why : NoSize)
      → IsNoBound (searches_of_program p pivots) (setting_of p) fs t (suc j) (OfSize why)
      → HasNoSize p pivots (bounds_of p fs) t (suc j) why
  no_size_so t j why h = go h.target h.asked h.is_answer
    where
      go : (g : Target) → IsAskedFor (searches_of_program p pivots) (setting_of p) t (suc j) g
          → AnswersTarget (searches_of_program p pivots) (setting_of p) (bounds_of p fs) g (Lacks (OfSize why))
          → HasNoSize p pivots (bounds_of p fs) t (suc j) why
      go (TimeOf u) asked is_answer = absurd asked
      go (SizesOf keys) (cs, are, one, has) is_answer =
          place_so p pivots valid (bounds_of p fs) t (suc j) cs are keys one has why is_answer

-- the reason why a cost has no bound is true
cost_so : (p : Program) (pivots : ℕ) → IsValid p → (b : Bounds) (t : ℕ) (why : NoSize) → IsCostOf p pivots (over b) t (NotBounded why)
    → HasNoCost p pivots b t why
cost_so p pivots valid b t why is = go why (reasons-true.each p pivots (over b) t why valid is)
  where
    go : (w : NoSize) → HasNoCostBound p pivots (over b) t w → HasNoCost p pivots b t w
    go (SizeUnbounded side ray kept) k = record {
      step = k;
      passes = unbounded_passes (prepared_cost k.costs).rows (prepared_cost k.costs).left (value_on side (prepared_cost k.costs) 1)
          kept ray k.from k.along;
    }
    go (SizeHitLimit x) k = k
    go (SizeMissing m) k = k
    go (SizeNonlinear m) k = k
    go (SizeUntimed u) k = k
    go (SizeLarge n) k = k

module _ (p : Program) (pivots : ℕ) (valid : IsValid p) (r : Report) (h : IsAnalysis p pivots r) where
  -- each reason of a time in the report is true
  time_why : (t : ℕ) (why : NoTime) → numbered_entry r.times t ≡ Some (Untimed why)
      → HasNoTime p pivots (bounds_said p r) t why
  time_why zero why e = absurd (none_some (Untimed why) e)
  time_why (suc k) why e =
      subst (λ (b : Bounds). HasNoTime p pivots b (suc k) why) (sym (said_known p pivots valid r h))
      (no_time_so p pivots valid h.derivations (suc k) why (time-sound_at p pivots valid r h k (Untimed why) e))

  -- each reason of a cost in the report is true
  cost_why : (t : ℕ) (why : NoSize) → numbered_entry r.costs t ≡ Some (Some (Uncosted why)) → HasNoCost p pivots (bounds_said p r) t why
  cost_why zero why e = absurd (none_some (Some (Uncosted why)) e)
  cost_why (suc k) why e =
      subst (λ (b : Bounds). HasNoCost p pivots b (suc k) why) (sym (said_known p pivots valid r h))
      (cost_so p pivots valid (bounds_of p h.derivations) (suc k) why (costed_at p pivots valid r h k (Some (Uncosted why)) e))

  -- each reason of a size in the report is true
  place_why : (k i : ℕ) (why : NoSize) (o : Option (List Size)) → slice_get r.sizes k ≡ o
      → place_entry o i ≡ Some (Unsized why) → HasNoSize p pivots (bounds_said p r) (suc k) i why
  place_why k i why None e f = absurd (none_some (Unsized why) f)
  place_why k zero why (Some row) e f = absurd (none_some (Unsized why) f)
  place_why k (suc j) why (Some row) e f =
      subst (λ (b : Bounds). HasNoSize p pivots b (suc k) (suc j) why) (sym (said_known p pivots valid r h))
      (no_size_so p pivots valid h.derivations (suc k) j why (size-sound p pivots valid r h k j row (Unsized why) e f))

  size_why : (t i : ℕ) (why : NoSize) → place_entry (numbered_entry r.sizes t) i ≡ Some (Unsized why)
      → HasNoSize p pivots (bounds_said p r) t i why
  size_why zero i why e = absurd (none_some (Unsized why) e)
  size_why (suc k) i why e = place_why k i why (slice_get r.sizes k) refl e

  -- all reasons in the report are true
  pub reasons_so : ReasonsAreTrue p pivots r
  reasons_so = record { times = time_why; costs = cost_why; sizes = size_why }

-- the same for each analysis of a valid program
pub analyses_give_reasons : AnalysesGiveReasons
analyses_give_reasons = record { each = λ p pivots r valid h. reasons_so p pivots valid r h }
