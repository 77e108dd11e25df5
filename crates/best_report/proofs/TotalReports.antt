-- A report whose total is the sum of what the rules spend, where neither the analysis nor a statement has one, is as good
-- as without that total.
use Rattle.std.proofs.Common.{◌≡◌, ◌∙◌, List, length, Option, Some, None, option_map, refl, sym, ap}
use Rattle.std.specs.Prelude.{ℤ, IsSome}
use Rattle.its_model.specs.model.Programs.{Program}
use Rattle.its_model.specs.model.Bounds.{Bound}
use Rattle.signed_bounds.specs.Bounds.{Signed}
use Rattle.signed_bounds.specs.Inputs.{signed_of_bound}
use Rattle.signed_values.specs.Starts.{comparison_starts}
use Rattle.outcome.specs.Reports.{Report}
use Rattle.program_claims.specs.Claims.{Stated}
use Rattle.best_report.specs.Statements.{first_of, first_on}
use Rattle.best_report.specs.Lines.{Line}
use Rattle.best_report.specs.Spending.{on_all_steps, with_bound_on_all, with_total, sum_of_spendings}
use Rattle.best_report.specs.Choices.{IsNoWorse, IsAtMostStated}
use Rattle.best_report.specs.Reports.{analysis_bound, signed_analysis_bound, KeepsBound, IsNoWorseLine, IsBestReport}
use Rattle.best_report.specs.Reports.{IsChosenOn, IsChosenLine, IsLineAtMostStated, UsesStatements, AreChosen}
use Rattle.best_report.proofs.LinesWithTotal.{sum-same, subjects-same, each-made, each-made-by, lines-total-hold}

-- the first of two bounds is there if one is
first-some : (b o : Option Signed) → IsSome b → IsSome (first_of b o)
first-some None o h = cc
first-some (Some b) o h = refl

none-some : (b : Option Signed) → b ≡ None → IsSome b → ⊥
none-some None e h = cc
none-some (Some b) e h = cc

-- an analysis has the bound over the start values only where it has a bound
some-found : (o : Option Bound) → IsSome (option_map signed_of_bound o) → IsSome o
some-found None h = h
some-found (Some b) h = refl

-- a bound that is there if the analysis has one is no worse with another one behind it
first-no-worse : (starts : List (List ℤ)) (found b o : Option Signed) → (IsSome found → IsSome b)
    → IsNoWorse starts found b → IsNoWorse starts found (first_of b o)
first-no-worse starts None b o keeps h = tt
first-no-worse starts (Some a) None o keeps h = absurd (none-some None refl (keeps refl))
first-no-worse starts (Some a) (Some c) o keeps h = h

-- one that is there if a statement has one is at most that
first-at-most-stated : (starts : List (List ℤ)) (found known b o : Option Signed) → IsAtMostStated starts found known b
    → IsAtMostStated starts found known (first_of b o)
first-at-most-stated starts None None b o h = tt
first-at-most-stated starts (Some a) None b o h = tt
first-at-most-stated starts None (Some k) None o h = absurd h
first-at-most-stated starts None (Some k) (Some b) o h = h
first-at-most-stated starts (Some a) (Some k) None o h = absurd h
first-at-most-stated starts (Some a) (Some k) (Some b) o h = h

module _ (p : Program) (r : Report) (lines : List Line) where
  -- the sum, and the lists at which bounds are compared
  abbrev sum : Option Signed
  sum = sum_of_spendings p lines

  abbrev compared : List (List ℤ)
  compared = comparison_starts (length p.start_names)

  keeps : (l : Line) → KeepsBound r l → KeepsBound r (with_bound_on_all sum l)
  keeps l h has = first-some l.bound (on_all_steps sum l.subject) (h has)

  no-worse : (l : Line) → KeepsBound r l → IsNoWorseLine compared r l → IsNoWorseLine compared r (with_bound_on_all sum l)
  no-worse l h low =
      first-no-worse compared (signed_analysis_bound r l.subject) l.bound (on_all_steps sum l.subject)
      (λ has. h (some-found (analysis_bound r l.subject) has)) low

  -- a report with the sum is one whose bounds hold, and keep those of the analysis
  pub best-with-total : IsBestReport p r lines → IsBestReport p r (with_total p lines)
  best-with-total best = record {
    subjects = subjects-same sum lines ∙ best.subjects;
    hold = lines-total-hold p lines best.hold;
    complete = each-made (λ l. KeepsBound r l) (λ l. KeepsBound r l) (with_bound_on_all sum) keeps lines best.complete;
    no_worse = each-made-by (λ l. KeepsBound r l) (λ l. IsNoWorseLine compared r l) (λ l. IsNoWorseLine compared r l)
        (with_bound_on_all sum) no-worse lines best.complete best.no_worse;
  }

  module _ (stated : List Stated) where
    chosen : (l : Line) → IsChosenOn r stated l.subject l.bound
        → IsChosenLine p r stated (with_total p lines) (with_bound_on_all sum l)
    chosen l h =
        (l.bound, h, ap (λ (b : Option Signed). first_of l.bound (on_all_steps b l.subject)) (sym (sum-same p lines)))

    at-most-stated : (l : Line) → IsLineAtMostStated compared r stated l → IsLineAtMostStated compared r stated (with_bound_on_all sum l)
    at-most-stated l h =
        first-at-most-stated compared (signed_analysis_bound r l.subject) (first_on stated l.subject) l.bound
        (on_all_steps sum l.subject) h

    -- and it uses what is stated
    pub uses-with-total : AreChosen p r stated lines → UsesStatements p r stated (with_total p lines)
    uses-with-total are = record {
      chosen = each-made (λ l. IsChosenOn r stated l.subject l.bound)
          (λ l. IsChosenLine p r stated (with_total p lines) l) (with_bound_on_all sum) chosen lines are.chosen;
      at_most_stated = each-made (λ l. IsLineAtMostStated compared r stated l) (λ l. IsLineAtMostStated compared r stated l)
          (with_bound_on_all sum) at-most-stated lines are.at_most_stated;
    }
