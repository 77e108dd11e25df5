-- The lines of two lists beside each other, as a loop writes them: the written text and the remaining one are the
-- whole.
use Rattle.std.proofs.Common.{◌≡◌, ℕ, suc, ◌+◌, ◌≤◌, min, List, [], ◌∷◌, ◌++◌, length, map, drop, refl, sym, ◌∙◌, ap, arith}
use Rattle.std.proofs.Common.{inl, inr, ◌⊎◌, Option}
use Rattle.std.proofs.lemmas.List.{append-nil}
use Rattle.std.proofs.Math.ListN.{drop_of_length-le}
use Rattle.outcome.specs.declared.entry.TimeEntry.{TimeEntry}
use Rattle.outcome.specs.declared.entry.TimeEntry.TheVariants as times
use Rattle.outcome.specs.declared.entry.CostEntry.{CostEntry}
use Rattle.outcome.specs.declared.entry.SizeEntry.{SizeEntry}
use Rattle.outcome.specs.Views.{time_of, size_of}
use Rattle.outcome.specs.cert_types.declared.gap.Gap as code
use Rattle.report_text.specs.Conditions.{rule_cost_of}
use Rattle.koat_cli.specs.ReplayTexts.{lines_beside, count_line, spent_line, spent_lines, greatest_line, greatest_lines}
use Rattle.koat_cli.specs.ReplayTexts.{time_value, size_value}
use Rattle.koat_cli.specs.Steps.{entry_value, cost_lines, place_lines}

-- if one list ends there are no more lines
no_lines_beside : {X Y : Type 0} (line : ℕ → X → Y → List ℕ) (n : ℕ) (xs : List X) → lines_beside line n xs [] ≡ []
no_lines_beside line n [] = refl
no_lines_beside line n (x ∷ xs) = refl

-- after the last pair the lines are whole
pub beside_end : {X Y : Type 0} (line : ℕ → X → Y → List ℕ) (xs : List X) (ys : List Y) (i : ℕ) (old all : List ℕ)
    → min (length xs) (length ys) ≤ i → old ++ lines_beside line (i + 1) (drop i xs) (drop i ys) ≡ all → old ≡ all
beside_end {X} {Y} line xs ys i old all over inv = go (nat_cases (length xs) (length ys) i over)
  where
    nat_cases : (a b i : ℕ) → min a b ≤ i → (a ≤ i) ⊎ (b ≤ i)
    nat_cases a b i h = grind arith

    go : (length xs ≤ i) ⊎ (length ys ≤ i) → old ≡ all
    go (inl le) =
        let step : lines_beside line (i + 1) (drop i xs) (drop i ys) ≡ [] =
        ap (λ (zs : List X). lines_beside line (i + 1) zs (drop i ys)) (drop_of_length-le xs le) in
        sym (append-nil old) ∙ (ap (λ (t : List ℕ). old ++ t) (sym step) ∙ inv)
    go (inr le) =
        let step : lines_beside line (i + 1) (drop i xs) (drop i ys) ≡ [] =
        ap (λ (zs : List Y). lines_beside line (i + 1) (drop i xs) zs) (drop_of_length-le ys le)
        ∙ no_lines_beside line (i + 1) (drop i xs) in
        sym (append-nil old) ∙ (ap (λ (t : List ℕ). old ++ t) (sym step) ∙ inv)

-- pairs have the same lines as their plain data
pub beside_same : {X Y U V : Type 0} (f : ℕ → X → Y → List ℕ) (g : ℕ → U → V → List ℕ) (u : X → U) (v : Y → V)
    → ((n : ℕ) (x : X) (y : Y) → f n x y ≡ g n (u x) (v y)) → (n : ℕ) (xs : List X) (ys : List Y)
    → lines_beside f n xs ys ≡ lines_beside g n (map u xs) (map v ys)
beside_same f g u v same n [] ys = refl
beside_same f g u v same n (x ∷ xs) [] = refl
beside_same f g u v same n (x ∷ xs) (y ∷ ys) =
    ap (λ (t : List ℕ). t ++ lines_beside f (suc n) xs ys) (same n x y)
    ∙ ap (λ (t : List ℕ). g n (u x) (v y) ++ t) (beside_same f g u v same (suc n) xs ys)

-- the value of an entry is that of its time
entry_is_time : (at : List ℕ) (gaps : List code.Gap) (e : TimeEntry) → entry_value at e ≡ time_value at (time_of gaps e)
entry_is_time at gaps (times.Known s) = refl
entry_is_time at gaps (times.Gap g) = refl
entry_is_time at gaps (times.OutOfLimits t) = refl
entry_is_time at gaps (times.Large nodes) = refl

-- mapping the identity leaves a list unchanged
same_list : {X : Type 0} (xs : List X) → map (λ x. x) xs ≡ xs
same_list [] = refl
same_list (x ∷ xs) = ap (λ (ys : List _). x ∷ ys) (same_list xs)

-- the lines of entries are those of their times
pub times_beside : (at : List ℕ) (gaps : List code.Gap) (counts : List ℕ) (entries : List TimeEntry)
    → lines_beside (λ rule n e. count_line rule n (entry_value at e)) 1 counts entries
    ≡ lines_beside (λ rule n t. count_line rule n (time_value at t)) 1 counts (map (time_of gaps) entries)
times_beside at gaps counts entries =
    beside_same (λ rule n e. count_line rule n (entry_value at e)) (λ rule n t. count_line rule n (time_value at t)) (λ n. n)
    (time_of gaps) (λ rule n e. ap (λ (v : List ℕ). count_line rule n v) (entry_is_time at gaps e)) 1 counts entries
    ∙ ap (λ (ns : List ℕ). lines_beside (λ rule n t. count_line rule n (time_value at t)) 1 ns (map (time_of gaps) entries))
    (same_list counts)

-- the lines of costs are those of their plain data
pub costs_beside : (at spent : List ℕ) (entries : List (Option CostEntry))
    → cost_lines at 1 spent entries ≡ spent_lines at spent (map rule_cost_of entries)
costs_beside at spent entries =
    beside_same (λ rule n e. spent_line at rule n (rule_cost_of e)) (spent_line at) (λ n. n) rule_cost_of (λ rule n e. refl) 1
    spent entries
    ∙ ap (λ (ns : List ℕ). lines_beside (spent_line at) 1 ns (map rule_cost_of entries)) (same_list spent)

-- the lines of the places after a rule are those of their sizes
pub places_beside : (at : List ℕ) (rule : ℕ) (numbers : List ℕ) (entries : List SizeEntry)
    → place_lines at rule 1 numbers entries ≡ greatest_lines at rule numbers (map size_of entries)
places_beside at rule numbers entries =
    beside_same (λ place n e. greatest_line rule place n (size_value at (size_of e)))
    (λ place n s. greatest_line rule place n (size_value at s)) (λ n. n) size_of (λ place n e. refl) 1 numbers entries
    ∙ ap (λ (ns : List ℕ). lines_beside (λ place n s. greatest_line rule place n (size_value at s)) 1 ns (map size_of entries))
    (same_list numbers)

-- the lines of the places after all rules are those of their sizes
pub rows_beside : {R S : Type 0} (items : R → List ℕ) (entries : S → List SizeEntry) (at : List ℕ) (rows : List R) (sizes : List S)
    → lines_beside (λ rule r s. place_lines at rule 1 (items r) (entries s)) 1 rows sizes
    ≡ lines_beside (greatest_lines at) 1 (map items rows) (map (λ s. map size_of (entries s)) sizes)
rows_beside items entries at rows sizes =
    beside_same (λ rule r s. place_lines at rule 1 (items r) (entries s)) (greatest_lines at) items
    (λ s. map size_of (entries s)) (λ rule r s. places_beside at rule (items r) (entries s)) 1 rows sizes
