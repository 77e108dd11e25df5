-- The statements of the entries of an outcome are those of its report.
use Rattle.std.proofs.Common.{◌≡◌, ℕ, suc, List, [], ◌∷◌, ◌++◌, map, Option, Some, None, refl, ap, ◌∙◌}
use Rattle.std.specs.Prelude.{Vec}
use Rattle.std.proofs.lemmas.List.{append_assoc}
use Rattle.std.specs.Option.{option_map}
use Rattle.std.specs.declared.alloc.Global.{Global}
use Rattle.bound_expr.specs.Views.{bound_of}
use Rattle.bound_expr.specs.declared.bound.Bound.{Bound}
use Rattle.cert_types.specs.declared.gap.Gap.{Gap}
use Rattle.outcome.specs.Reports.{Report}
use Rattle.outcome.specs.Reports as entries
use Rattle.outcome.specs.Views.{time_of, cost_of, size_of, report_of}
use Rattle.outcome.specs.declared.outcome_of.Outcome.{Outcome}
use Rattle.outcome.specs.declared.entry.TimeEntry.{TimeEntry}
use Rattle.outcome.specs.declared.entry.TimeEntry.TheVariants as times
use Rattle.outcome.specs.declared.entry.CostEntry.{CostEntry}
use Rattle.outcome.specs.declared.entry.CostEntry.TheVariants as costs
use Rattle.outcome.specs.declared.entry.SizeEntry.{SizeEntry}
use Rattle.outcome.specs.declared.entry.SizeEntry.TheVariants as sizes
use Rattle.program_claims.specs.Claims.{Stated}
use Rattle.facts_proof.specs.Statements.{each_numbered, time_statements, cost_statements, total_statements}
use Rattle.facts_proof.specs.Statements.{size_statements, place_statements, bound_statements}
use Rattle.facts_proof.specs.Entries.{time_entry, cost_entry, total_entry, size_entry, place_entries}

-- what is given for each element of a list of views is given for each element
each-viewed : {A B C : Type 0} (view : A → B) (f : ℕ → B → List C) (g : ℕ → A → List C)
    → ((k : ℕ) (x : A) → g k x ≡ f k (view x)) → (k : ℕ) (xs : List A)
    → each_numbered g k xs ≡ each_numbered f k (map view xs)
each-viewed view f g same k [] = refl
each-viewed {A} {B} {C} view f g same k (x ∷ xs) =
    ap (λ (ys : List C). ys ++ each_numbered g (suc k) xs) (same k x)
    ∙ ap (λ (ys : List C). f k (view x) ++ ys) (each-viewed view f g same (suc k) xs)

time-viewed : (gaps : List Gap) (t : ℕ) (x : TimeEntry) → time_entry t x ≡ time_statements t (time_of gaps x)
time-viewed gaps t (times.Known s) = refl
time-viewed gaps t (times.Gap n) = refl
time-viewed gaps t (times.OutOfLimits l) = refl
time-viewed gaps t (times.Large n) = refl

cost-viewed : (t : ℕ) (x : Option CostEntry) → cost_entry t x ≡ cost_statements t (option_map cost_of x)
cost-viewed t None = refl
cost-viewed t (Some (costs.Known s)) = refl
cost-viewed t (Some (costs.UnboundedSide l)) = refl
cost-viewed t (Some (costs.OutOfLimits l)) = refl
cost-viewed t (Some (costs.Missing s)) = refl
cost-viewed t (Some (costs.Untimed n)) = refl
cost-viewed t (Some (costs.Large n)) = refl

total-viewed : (x : Option Bound) → total_entry x ≡ total_statements (option_map bound_of x)
total-viewed None = refl
total-viewed (Some b) = refl

size-viewed : (t i : ℕ) (x : SizeEntry) → size_entry t i x ≡ size_statements t i (size_of x)
size-viewed t i (sizes.Known s) = refl
size-viewed t i (sizes.UnboundedSide l) = refl
size-viewed t i (sizes.OutOfLimits l) = refl
size-viewed t i (sizes.Missing s) = refl
size-viewed t i (sizes.Nonlinear s) = refl
size-viewed t i (sizes.Untimed n) = refl
size-viewed t i (sizes.Large n) = refl

places-viewed : (t : ℕ) (xs : Vec SizeEntry Global) → place_entries t xs ≡ place_statements t (map size_of xs.items)
places-viewed t xs = each-viewed size_of (size_statements t) (size_entry t) (size-viewed t) 1 xs.items

-- the statements of all entries
pub entries-viewed : (o : Outcome)
    → each_numbered time_entry 1 o.times.items
    ++ (each_numbered cost_entry 1 o.costs.items
    ++ (total_entry o.total ++ each_numbered place_entries 1 o.sizes.items))
    ≡ bound_statements (report_of o)
entries-viewed o =
    ap (λ (ss : List Stated). ss ++ (each_numbered cost_entry 1 o.costs.items
    ++ (total_entry o.total ++ each_numbered place_entries 1 o.sizes.items)))
    (each-viewed (time_of o.gaps.items) time_statements time_entry (time-viewed o.gaps.items) 1 o.times.items)
    ∙ (ap (λ (ss : List Stated). each_numbered time_statements 1 (report_of o).times ++ (ss
    ++ (total_entry o.total ++ each_numbered place_entries 1 o.sizes.items)))
    (each-viewed (option_map cost_of) cost_statements cost_entry cost-viewed 1 o.costs.items)
    ∙ (ap (λ (ss : List Stated). each_numbered time_statements 1 (report_of o).times
    ++ (each_numbered cost_statements 1 (report_of o).costs ++ (ss ++ each_numbered place_entries 1 o.sizes.items)))
    (total-viewed o.total)
    ∙ ap (λ (ss : List Stated). each_numbered time_statements 1 (report_of o).times
    ++ (each_numbered cost_statements 1 (report_of o).costs ++ (total_statements (report_of o).total ++ ss)))
    (each-viewed (λ (places : Vec SizeEntry Global). map size_of places.items) place_statements place_entries
    places-viewed 1 o.sizes.items)))

-- claims on the times, the costs, the total and the sizes of an outcome, from nothing, are on the bounds of its report
pub all_claimed : (o : Outcome) (none times costs total sizes : List Stated) → none ≡ []
    → times ≡ none ++ each_numbered time_entry 1 o.times.items → costs ≡ times ++ each_numbered cost_entry 1 o.costs.items
    → total ≡ costs ++ total_entry o.total → sizes ≡ total ++ each_numbered place_entries 1 o.sizes.items
    → sizes ≡ bound_statements (report_of o)
all_claimed o none times costs total sizes zero first second third last =
    last
    ∙ (ap (λ (ss : List Stated). ss ++ all-sizes)
    (third ∙ ap (λ (ss : List Stated). ss ++ all-total) (second ∙ ap (λ (ss : List Stated). ss ++ all-costs)
    (first ∙ ap (λ (ss : List Stated). ss ++ all-times) zero)))
    ∙ (append_assoc (all-times ++ all-costs) all-total all-sizes
    ∙ (append_assoc all-times all-costs (all-total ++ all-sizes) ∙ entries-viewed o)))
  where
    all-times : List Stated
    all-times = each_numbered time_entry 1 o.times.items

    all-costs : List Stated
    all-costs = each_numbered cost_entry 1 o.costs.items

    all-total : List Stated
    all-total = total_entry o.total

    all-sizes : List Stated
    all-sizes = each_numbered place_entries 1 o.sizes.items
