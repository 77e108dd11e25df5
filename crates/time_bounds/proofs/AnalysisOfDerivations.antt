-- The outcome that the code makes is the analysis of the program.
use Rattle.std.proofs.Common.{◌≡◌, ℕ, suc, ◌+◌, ◌≤◌, List, [], ◌∷◌, length, map, refl, sym, ◌∙◌, ap, arith}
use Rattle.std.specs.Option.{option_map}
use Rattle.std.proofs.lemmas.List.{length-map}
use Rattle.model.specs.Programs.{Program, arity_of}
use Rattle.bound_expr.specs.Views.{bound_of}
use Rattle.outcome.specs.Reports.{Report, Time, Timed, Untimed}
use Rattle.outcome.specs.Views.{time_of, cost_of, report_of}
use Rattle.outcome.specs.declared.outcome_of.Outcome.{Outcome}
use Rattle.cert_types.specs.cert_program.Setting.{setting_of}
use Rattle.bound_fixpoint.specs.Answers.{TimeOf}
use Rattle.bound_fixpoint.specs.Derivations.{Derivation, bounds_of}
use Rattle.bound_fixpoint.specs.Rounds.{IsLast}
use Rattle.bound_fixpoint.specs.Searches.{Searches}
use Rattle.time_bounds.specs.ProgramSearches.{searches_of_program}
use Rattle.time_bounds.specs.TimesSaid.{IsTimeOver, AreTimesOver}
use Rattle.time_bounds.specs.Totals.{spendings_by, total_of}
use Rattle.time_bounds.specs.Analysis.{IsTimeOf, AreTimesOf, AreCostsOver, AreSizeRowsOf, IsAnalysis}
use Rattle.time_bounds.proofs.ReportEntries.{spendings_alike}
use Rattle.time_bounds.proofs.RuleNumbers.{rule_within}

-- the entries over the bounds known with derivations are those of the derivations
times-sound : (q : Searches) (p : Program) (fs : List Derivation) (k : ℕ) (times : List Time) → 1 ≤ k → length times + k ≤ length p.rules + 1
    → AreTimesOver q p (bounds_of p fs) k times → AreTimesOf q p fs k times
times-sound q p fs k [] low high h = tt
times-sound q p fs k (x ∷ times) low high h =
    (one x h.0, times-sound q p fs (suc k) times (omega arith) (omega (arith, high)) h.1)
  where
    one : (x : Time) → IsTimeOver q p (bounds_of p fs) k x → IsTimeOf q p fs k x
    one (Timed b) e = e
    one (Untimed why) e = record {
      missing = e.0;
      target = TimeOf k;
      asked = (rule_within p k low (omega (arith, high)), refl);
      is_answer = e.1;
    }

-- an analysis over these derivations
abbrev pub IsAnalysisWith : Program → ℕ → List Derivation → Report → Type 0
IsAnalysisWith p pivots fs r = (h : IsAnalysis p pivots r) × (h.derivations ≡ fs)

-- the entries with the last derivations, with those of costs and the total, are the program's analysis
pub analysis_of : (p : Program) (pivots : ℕ) (fs : List Derivation) (o : Outcome)
    → IsLast (searches_of_program p pivots) (setting_of p) fs
    → length o.times.items ≡ length p.rules
    → AreTimesOver (searches_of_program p pivots) p (bounds_of p fs) 1 (map (time_of o.gaps.items) o.times.items)
    → length o.costs.items ≡ length p.rules
    → AreCostsOver p pivots (bounds_of p fs) 1 (map (option_map cost_of) o.costs.items)
    → option_map bound_of o.total ≡ total_of (spendings_by o.times.items o.costs.items)
    → map length (report_of o).sizes ≡ map (λ rule. arity_of p rule.target) p.rules
    → AreSizeRowsOf (searches_of_program p pivots) p fs 1 (report_of o).sizes → IsAnalysisWith p pivots fs (report_of o)
analysis_of p pivots fs o last one_each said cost_each costs total places sized =
    let long = length-map o.times.items (time_of o.gaps.items) ∙ one_each in (
      record {
        derivations = fs;
        last = last;
        one_each = long;
        times = times-sound (searches_of_program p pivots) p fs 1 (map (time_of o.gaps.items) o.times.items) (omega arith) (omega (arith, long)) said;
        cost_each = length-map o.costs.items (option_map cost_of) ∙ cost_each;
        costs = costs;
        total = total ∙ ap total_of (sym (spendings_alike o.gaps.items o.times.items o.costs.items));
        places = places;
        sizes = sized;
      },
      refl,
    )
