-- The outcome of an analysis with its lemmas is unique: its report determines its gaps and the contents of its entries.
use Rattle.std.proofs.Common.{◌≡◌, ℕ, zero, suc, ◌<◌, ◌≤◌, List, [], ◌∷◌, ◌++◌, length, map, Option, Some, None, refl, sym, ◌∙◌, ap, subst}
use Rattle.std.proofs.Common.{arith}
use Rattle.std.specs.Option.{option_map}
use Rattle.std.specs.declared.alloc.Global.{Global}
use Rattle.std.specs.declared.vec.Vec.{Vec}
use Rattle.model.specs.Programs.{Program}
use Rattle.outcome.specs.Reports.{Time, Timed, Untimed, NoFunction, TimeHitLimit, TimeLarge, Size, Sized, Unsized, Report}
use Rattle.outcome.specs.Reports.{RuleCost, Costed, Uncosted}
use Rattle.outcome.specs.Views.{numbered_gap, time_of, cost_of, size_of, report_of}
use Rattle.outcome.specs.declared.entry.CostEntry.{CostEntry}
use Rattle.outcome.specs.declared.entry.CostEntry.TheVariants as costs
use Rattle.outcome.specs.declared.entry.TimeEntry.{TimeEntry}
use Rattle.outcome.specs.declared.entry.TimeEntry.TheVariants as times
use Rattle.outcome.specs.declared.entry.SizeEntry.{SizeEntry}
use Rattle.outcome.specs.declared.entry.SizeEntry.TheVariants as sizes
use Rattle.outcome.specs.declared.outcome_of.Outcome.{Outcome}
use Rattle.cert_types.specs.cert_rules.Gaps.{Gap}
use Rattle.cert_types.specs.cert_program.Setting.{setting_of}
use Rattle.cert_types.specs.AnswerViews.{gap_of}
use Rattle.cert_types.specs.declared.gap.Gap as code
use Rattle.bound_fixpoint.specs.Derivations.{Derivation, bounds_of, number_in}
use Rattle.bound_fixpoint.specs.Needs.{lemmas_of}
use Rattle.bound_fixpoint.specs.Right.{AreOne}
use Rattle.bound_fixpoint.proofs.DerivationsAreOne.{last_one}
use Rattle.cost_bounds.specs.CostLemmas.{cost_lemmas}
use Rattle.time_bounds.specs.Analysis.{IsAnalysis}
use Rattle.time_bounds.specs.AnalysisLaws.{number_of_time, number_of_cost, number_of_size, AreOneOutcome}
use Rattle.time_bounds.specs.AnalysisLemmas.{CarriesTime, CarriesSize, CarriesSizes, CarryCosts, AreCertified, AreGapsInOrder, HasLemmas}
use Rattle.time_bounds.specs.Numbered.{EachNumbered}
use Rattle.time_bounds.specs.ProgramSearches.{searches_of_program}
use Rattle.time_bounds.proofs.CostEntries.{certified_one, joined}
use Rattle.time_bounds.proofs.OneAnalysis.{analysis_one}

-- the numbers that times of a report carry, from rule t on, after n earlier gaps
abbrev time_numbers : (ℕ → ℕ → ℕ) → ℕ → ℕ → List Time → List ℕ
time_numbers number t n [] = []
time_numbers number t n (Timed b ∷ told) = number t 0 ∷ time_numbers number (suc t) n told
time_numbers number t n (Untimed (NoFunction g) ∷ told) = suc n ∷ time_numbers number (suc t) (suc n) told
time_numbers number t n (Untimed (TimeHitLimit x) ∷ told) = 0 ∷ time_numbers number (suc t) n told
time_numbers number t n (Untimed (TimeLarge k) ∷ told) = 0 ∷ time_numbers number (suc t) n told

-- entries that carry numbers of their lemmas and gaps carry these
times-sound : (number : ℕ → ℕ → ℕ) (gaps : List code.Gap) (t n : ℕ) (entries : List TimeEntry) (count : ℕ)
    → EachNumbered (CarriesTime number) t entries → AreGapsInOrder n entries count
    → map number_of_time entries ≡ time_numbers number t n (map (time_of gaps) entries)
times-sound number gaps t n [] count h g = refl
times-sound number gaps t n (times.Known s ∷ entries) count h g =
    joined s.lemma (number t 0) (map number_of_time entries) (time_numbers number (suc t) n (map (time_of gaps) entries))
    h.0 (times-sound number gaps (suc t) n entries count h.1 g)
times-sound number gaps t n (times.Gap k ∷ entries) count h g =
    joined k (suc n) (map number_of_time entries) (time_numbers number (suc t) (suc n) (map (time_of gaps) entries))
    g.0 (times-sound number gaps (suc t) (suc n) entries count h.1 g.1)
times-sound number gaps t n (times.OutOfLimits x ∷ entries) count h g =
    ap (λ (ks : List ℕ). 0 ∷ ks) (times-sound number gaps (suc t) n entries count h.1 g)
times-sound number gaps t n (times.Large k ∷ entries) count h g =
    ap (λ (ks : List ℕ). 0 ∷ ks) (times-sound number gaps (suc t) n entries count h.1 g)

-- the gaps of a report
abbrev gaps_in : List Time → List Gap
gaps_in [] = []
gaps_in (Timed b ∷ told) = gaps_in told
gaps_in (Untimed (NoFunction g) ∷ told) = g ∷ gaps_in told
gaps_in (Untimed (TimeHitLimit x) ∷ told) = gaps_in told
gaps_in (Untimed (TimeLarge k) ∷ told) = gaps_in told

-- the gaps after the first n
abbrev gaps_behind : ℕ → List code.Gap → List Gap
gaps_behind zero gaps = map gap_of gaps
gaps_behind (suc n) [] = []
gaps_behind (suc n) (g ∷ gaps) = gaps_behind n gaps

-- the next gap after the first n
next_gap : (n : ℕ) (gaps : List code.Gap) → n < length gaps
    → gaps_behind n gaps ≡ numbered_gap gaps (suc n) ∷ gaps_behind (suc n) gaps
next_gap n [] l = absurd (omega (arith, l))
next_gap zero (g ∷ gaps) l = refl
next_gap (suc n) (g ∷ gaps) l = next_gap n gaps (omega (arith, l))

-- after the last gap there is none
no_more : (n : ℕ) (gaps : List code.Gap) → n ≡ length gaps → gaps_behind n gaps ≡ []
no_more zero [] e = refl
no_more zero (g ∷ gaps) e = absurd (let none : ⊥ = cc in none)
no_more (suc n) [] e = refl
no_more (suc n) (g ∷ gaps) e = no_more n gaps (omega (arith, e))

-- gaps in order are no fewer than those before
order_rises : (n : ℕ) (entries : List TimeEntry) (count : ℕ) → AreGapsInOrder n entries count → n ≤ count
order_rises n [] count g = omega (arith, g)
order_rises n (times.Known s ∷ entries) count g = order_rises n entries count g
order_rises n (times.Gap k ∷ entries) count g = let more = order_rises (suc n) entries count g.1 in omega (arith, more)
order_rises n (times.OutOfLimits x ∷ entries) count g = order_rises n entries count g
order_rises n (times.Large k ∷ entries) count g = order_rises n entries count g

-- gaps in order are those of the report
gaps_in_order : (gaps : List code.Gap) (n : ℕ) (entries : List TimeEntry) → AreGapsInOrder n entries (length gaps)
    → gaps_behind n gaps ≡ gaps_in (map (time_of gaps) entries)
gaps_in_order gaps n [] g = no_more n gaps g
gaps_in_order gaps n (times.Known s ∷ entries) g = gaps_in_order gaps n entries g
gaps_in_order gaps n (times.Gap k ∷ entries) g =
    let more = order_rises (suc n) entries (length gaps) g.1 in
    next_gap n gaps (omega (arith, more))
    ∙ joined (numbered_gap gaps (suc n)) (numbered_gap gaps k) (gaps_behind (suc n) gaps)
    (gaps_in (map (time_of gaps) entries)) (ap (numbered_gap gaps) (sym g.0)) (gaps_in_order gaps (suc n) entries g.1)
gaps_in_order gaps n (times.OutOfLimits x ∷ entries) g = gaps_in_order gaps n entries g
gaps_in_order gaps n (times.Large k ∷ entries) g = gaps_in_order gaps n entries g

-- the numbers that sizes of a report carry, from place i after rule t on
abbrev size_numbers : (ℕ → ℕ → ℕ) → ℕ → ℕ → List Size → List ℕ
size_numbers number t i [] = []
size_numbers number t i (Sized b ∷ told) = number t i ∷ size_numbers number t (suc i) told
size_numbers number t i (Unsized w ∷ told) = 0 ∷ size_numbers number t (suc i) told

-- the same for the places after each rule from rule t on
abbrev row_numbers : (ℕ → ℕ → ℕ) → ℕ → List (List Size) → List (List ℕ)
row_numbers number t [] = []
row_numbers number t (row ∷ rows) = size_numbers number t 1 row ∷ row_numbers number (suc t) rows

-- entries that carry numbers of their lemmas carry these
sizes_numbered : (number : ℕ → ℕ → ℕ) (t i : ℕ) (entries : List SizeEntry) → EachNumbered (CarriesSize number t) i entries
    → map number_of_size entries ≡ size_numbers number t i (map size_of entries)
sizes_numbered number t i [] h = refl
sizes_numbered number t i (sizes.Known s ∷ entries) h =
    joined s.lemma (number t i) (map number_of_size entries) (size_numbers number t (suc i) (map size_of entries)) h.0
    (sizes_numbered number t (suc i) entries h.1)
sizes_numbered number t i (sizes.UnboundedSide l ∷ entries) h =
    ap (λ (ks : List ℕ). 0 ∷ ks) (sizes_numbered number t (suc i) entries h.1)
sizes_numbered number t i (sizes.OutOfLimits x ∷ entries) h =
    ap (λ (ks : List ℕ). 0 ∷ ks) (sizes_numbered number t (suc i) entries h.1)
sizes_numbered number t i (sizes.Missing m ∷ entries) h =
    ap (λ (ks : List ℕ). 0 ∷ ks) (sizes_numbered number t (suc i) entries h.1)
sizes_numbered number t i (sizes.Nonlinear m ∷ entries) h =
    ap (λ (ks : List ℕ). 0 ∷ ks) (sizes_numbered number t (suc i) entries h.1)
sizes_numbered number t i (sizes.Untimed r ∷ entries) h =
    ap (λ (ks : List ℕ). 0 ∷ ks) (sizes_numbered number t (suc i) entries h.1)
sizes_numbered number t i (sizes.Large n ∷ entries) h =
    ap (λ (ks : List ℕ). 0 ∷ ks) (sizes_numbered number t (suc i) entries h.1)

rows_numbered : (number : ℕ → ℕ → ℕ) (t : ℕ) (rows : List (Vec SizeEntry Global)) → EachNumbered (CarriesSizes number) t (map (λ row. row.items) rows)
    → map (λ row. map number_of_size row.items) rows ≡ row_numbers number t (map (λ row. map size_of row.items) rows)
rows_numbered number t [] h = refl
rows_numbered number t (row ∷ rows) h =
    joined (map number_of_size row.items) (size_numbers number t 1 (map size_of row.items))
    (map (λ r. map number_of_size r.items) rows) (row_numbers number (suc t) (map (λ r. map size_of r.items) rows))
    (sizes_numbered number t 1 row.items h.0) (rows_numbered number (suc t) rows h.1)

-- the numbers that costs of a report carry, after n lemmas
abbrev cost_numbers : ℕ → List (Option RuleCost) → List ℕ
cost_numbers n [] = []
cost_numbers n (None ∷ told) = 0 ∷ cost_numbers n told
cost_numbers n (Some (Costed b) ∷ told) = suc n ∷ cost_numbers (suc n) told
cost_numbers n (Some (Uncosted w) ∷ told) = 0 ∷ cost_numbers n told

-- entries that carry numbers in order carry these
costs_numbered : (n : ℕ) (entries : List (Option CostEntry)) → CarryCosts n entries
    → map number_of_cost entries ≡ cost_numbers n (map (option_map cost_of) entries)
costs_numbered n [] h = refl
costs_numbered n (None ∷ entries) h = ap (λ (ks : List ℕ). 0 ∷ ks) (costs_numbered n entries h)
costs_numbered n (Some (costs.Known s) ∷ entries) h =
    joined s.lemma (suc n) (map number_of_cost entries) (cost_numbers (suc n) (map (option_map cost_of) entries)) h.0
    (costs_numbered (suc n) entries h.1)
costs_numbered n (Some (costs.UnboundedSide l) ∷ entries) h = ap (λ (ks : List ℕ). 0 ∷ ks) (costs_numbered n entries h)
costs_numbered n (Some (costs.OutOfLimits x) ∷ entries) h = ap (λ (ks : List ℕ). 0 ∷ ks) (costs_numbered n entries h)
costs_numbered n (Some (costs.Missing m) ∷ entries) h = ap (λ (ks : List ℕ). 0 ∷ ks) (costs_numbered n entries h)
costs_numbered n (Some (costs.Untimed r) ∷ entries) h = ap (λ (ks : List ℕ). 0 ∷ ks) (costs_numbered n entries h)
costs_numbered n (Some (costs.Large k) ∷ entries) h = ap (λ (ks : List ℕ). 0 ∷ ks) (costs_numbered n entries h)

-- two outcomes with the lemmas of the analysis of a program, within the same number of pivots, are one
pub outcome_one : (p : Program) (pivots : ℕ) → AreOne (searches_of_program p pivots) → (x y : Outcome)
    → IsAnalysis p pivots (report_of x) → HasLemmas p pivots x → IsAnalysis p pivots (report_of y) → HasLemmas p pivots y
    → AreOneOutcome x y
outcome_one p pivots one x y analysed has others too =
    let same = analysis_one p pivots one (report_of x) (report_of y) analysed others in
    let derivations =
    last_one (searches_of_program p pivots) one (setting_of p) has.derivations too.derivations has.last too.last in
    let moved = subst (λ (fs : List Derivation). AreCertified p pivots (bounds_of p fs) 1 (report_of x).costs has.certified) derivations
    has.are_certified in
    let nodes = certified_one p pivots (bounds_of p too.derivations) 1 (report_of y).costs has.certified too.certified
    (subst (λ (r : Report). AreCertified p pivots (bounds_of p too.derivations) 1 r.costs has.certified) same moved)
    too.are_certified in
    record {
      report = same;
      lemmas = has.lemmas
          ∙ ((λ i. lemmas_of (derivations i) ++ cost_lemmas (setting_of p) (number_in (derivations i)) (nodes i)) ∙ sym too.lemmas);
      costs =
          costs_numbered (length has.derivations) x.costs.items has.carried_costs
          ∙ ((λ i. cost_numbers (length (derivations i)) (same i).costs)
          ∙ sym (costs_numbered (length too.derivations) y.costs.items too.carried_costs));
      gaps =
          gaps_in_order x.gaps.items 0 x.times.items has.gaps
          ∙ (ap (λ (r : Report). gaps_in r.times) same ∙ sym (gaps_in_order y.gaps.items 0 y.times.items too.gaps));
      times =
          times-sound (number_in has.derivations) x.gaps.items 1 0 x.times.items (length x.gaps.items) has.carried_times has.gaps
          ∙ (ap (λ (fs : List Derivation). time_numbers (number_in fs) 1 0 (report_of x).times) derivations
          ∙ (ap (λ (r : Report). time_numbers (number_in too.derivations) 1 0 r.times) same
          ∙ sym (times-sound (number_in too.derivations) y.gaps.items 1 0 y.times.items (length y.gaps.items) too.carried_times
          too.gaps)));
      sizes =
          rows_numbered (number_in has.derivations) 1 x.sizes.items has.carried_sizes
          ∙ (ap (λ (fs : List Derivation). row_numbers (number_in fs) 1 (report_of x).sizes) derivations
          ∙ (ap (λ (r : Report). row_numbers (number_in too.derivations) 1 r.sizes) same
          ∙ sym (rows_numbered (number_in too.derivations) 1 y.sizes.items too.carried_sizes)));
    }
