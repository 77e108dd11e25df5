-- Tables by whether a report lacks a bound.
use Rattle.std.proofs.Common.{◌≡◌, Bool, true, false, if◌then◌else◌, ℕ, List, inl, inr, refl, subst}
use Rattle.std.proofs.lemmas.Bool.{both_ways}
use Rattle.outcome.specs.Reports.{Report, is_bounded}
use Rattle.call_plans.specs.declared.status.Status.{Status}
use Rattle.call_plans.specs.declared.status.Status.TheVariants.{Done, Unknown}
use Rattle.call_plans.specs.Plans.{HasRow}
use Rattle.call_plans.specs.Lawful.{AreRows}
use Rattle.call_plans.proofs.Rows.{row_of}
use Rattle.koat_cli.specs.Found.{status_of, HasReport, table_by_report}

-- the answer of the table is the report's status and a text of the report
pub report_answered : (Found : Report → Type 0) (Text : Report → List ℕ → Type 0) (r : Report) (s : Status) (x : List ℕ)
    → s ≡ status_of r → Text r x → HasRow (table_by_report Found Text) s x
report_answered Found Text r s x ends h = go (is_bounded r) refl ends
  where
    go : (v : Bool) → is_bounded r ≡ v → s ≡ (if v then Done else Unknown) → HasRow (table_by_report Found Text) s x
    go true e is = inl (is, record { report = r; holds = h; bounded = e })
    go false e is = inr (inl (is, record { report = r; holds = h; bounded = e }))

-- the rows of the table are rows, if at most one report is found, it comes with its texts, and has at most one text
module _ (Found : Report → Type 0) (Text : Report → List ℕ → Type 0)
    (one : (r q : Report) → Found r → Found q → r ≡ q) (comes : (r : Report) (x : List ℕ) → Text r x → Found r)
    (one_text : (r : Report) (x y : List ℕ) → Text r x → Text r y → x ≡ y) where
  bounded_apart : HasReport Found true → ¬ (HasReport Found false)
  bounded_apart a b =
      both_ways (is_bounded b.report) b.bounded
      (subst (λ (r : Report). is_bounded r ≡ true) (one a.report b.report a.holds b.holds) a.bounded)

  texts_one : (all : Bool) (x y : List ℕ) → HasReport (λ r. Text r x) all → HasReport (λ r. Text r y) all → x ≡ y
  texts_one all x y a b =
      one_text b.report x y
      (subst (λ (r : Report). Text r x) (one a.report b.report (comes a.report x a.holds) (comes b.report y b.holds)) a.holds)
      b.holds

  text_of_found : (all : Bool) (x : List ℕ) → HasReport (λ r. Text r x) all → HasReport Found all
  text_of_found all x a = record { report = a.report; holds = comes a.report x a.holds; bounded = a.bounded }

  pub report_rows : AreRows (table_by_report Found Text)
  report_rows = (
    row_of (texts_one true) (text_of_found true) (bounded_apart, tt),
    (row_of (texts_one false) (text_of_found false) tt, tt),
  )
