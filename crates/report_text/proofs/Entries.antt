-- The lines of an outcome's entries are those of its report.
use Rattle.cert_types.specs.cert_rules.Gaps.{Gap as PlainGap}
use Rattle.std.proofs.Common.{◌≡◌, ℕ, zero, suc, ◌≤◌, ◌-◌, get_or, arith, List, [], ◌∷◌, ◌++◌, length, map}
use Rattle.std.proofs.Common.{Option, codes, refl, sym, ◌∙◌, ap, subst, append_assoc}
use Rattle.std.specs.Prelude.{decimal}
use Rattle.model.specs.Programs.{Name, Symbol}
use Rattle.cert_types.specs.declared.gap.Gap.{Gap}
use Rattle.outcome.specs.declared.entry.TimeEntry.{TimeEntry}
use Rattle.outcome.specs.declared.entry.TimeEntry.TheVariants as times
use Rattle.outcome.specs.declared.entry.CostEntry.{CostEntry}
use Rattle.outcome.specs.declared.entry.SizeEntry.{SizeEntry}
use Rattle.cert_types.specs.AnswerViews.{gap_of}
use Rattle.outcome.specs.Views.{time_of, size_of, numbered_gap}
use Rattle.report_text.specs.Pieces.{numbered_lines}
use Rattle.report_text.specs.Reports.{time_line, cost_line, size_line, size_lines}
use Rattle.report_text.specs.Reports.{why_time, why_cost, why_size, why_sizes}
use Rattle.outcome.specs.Printing.{HasItsGap}
use Rattle.report_text.specs.Conditions.{rule_cost_of, entry_line}
use Rattle.report_text.specs.Reasons.{gap_text}
use Rattle.report_text.proofs.Lists.{numbered_same}

-- the line of an entry is that of its time
line_of : (names : List Name) (gaps : List Gap) (n : ℕ) (e : TimeEntry) → entry_line names n e ≡ time_line names n (time_of gaps e)
line_of names gaps n (times.Known s) = refl
line_of names gaps n (times.Gap g) = refl
line_of names gaps n (times.OutOfLimits t) = refl
line_of names gaps n (times.Large nodes) = refl

-- the lines of all rules are those of their times
pub times_same : (names : List Name) (gaps : List Gap) (es : List TimeEntry)
    → numbered_lines (entry_line names) 1 es ≡ numbered_lines (time_line names) 1 (map (time_of gaps) es)
times_same names gaps es = numbered_same (entry_line names) (time_line names) (time_of gaps) (line_of names gaps) 1 es

-- the lines that say why rules have their times are those of the report
pub why_times_same : (symbols : List Symbol) (gaps : List Gap) (es : List TimeEntry)
    → numbered_lines (λ rule t. why_time symbols rule (time_of gaps t)) 1 es ≡ numbered_lines (why_time symbols) 1 (map (time_of gaps) es)
why_times_same symbols gaps es =
    numbered_same (λ rule t. why_time symbols rule (time_of gaps t)) (why_time symbols) (time_of gaps) (λ n e. refl) 1 es

-- the lines of what rules cost are those of the report
pub costs_same : (names : List Name) (es : List (Option CostEntry))
    → numbered_lines (λ rule c. cost_line names rule (rule_cost_of c)) 1 es ≡ numbered_lines (cost_line names) 1 (map rule_cost_of es)
costs_same names es = numbered_same (λ rule c. cost_line names rule (rule_cost_of c)) (cost_line names) rule_cost_of (λ n e. refl) 1 es

-- the lines that say why bounds on costs are missing are those of the report
pub why_costs_same : (es : List (Option CostEntry))
    → numbered_lines (λ rule c. why_cost rule (rule_cost_of c)) 1 es ≡ numbered_lines why_cost 1 (map rule_cost_of es)
why_costs_same es = numbered_same (λ rule c. why_cost rule (rule_cost_of c)) why_cost rule_cost_of (λ n e. refl) 1 es

-- the lines of a rule's places, and of the places of all rules
pub sizes_same : {R : Type 0} (items : R → List SizeEntry) (names : List Name) (rows : List R)
    → numbered_lines (λ rule row. numbered_lines (λ place s. size_line names rule place (size_of s)) 1 (items row)) 1 rows
    ≡ numbered_lines (size_lines names) 1 (map (λ row. map size_of (items row)) rows)
sizes_same {R} items names rows =
    numbered_same (λ rule row. numbered_lines (λ place s. size_line names rule place (size_of s)) 1 (items row)) (size_lines names)
    (λ row. map size_of (items row))
    (λ rule row. numbered_same (λ place s. size_line names rule place (size_of s)) (size_line names rule) size_of (λ place s. refl) 1 (items row))
    1 rows

-- the lines that say why places have their sizes are those of the report
pub why_sizes_same : {R : Type 0} (items : R → List SizeEntry) (rows : List R)
    → numbered_lines (λ rule row. numbered_lines (λ place s. why_size rule place (size_of s)) 1 (items row)) 1 rows
    ≡ numbered_lines why_sizes 1 (map (λ row. map size_of (items row)) rows)
why_sizes_same {R} items rows =
    numbered_same (λ rule row. numbered_lines (λ place s. why_size rule place (size_of s)) 1 (items row)) why_sizes
    (λ row. map size_of (items row))
    (λ rule row. numbered_same (λ place s. why_size rule place (size_of s)) (why_size rule) size_of (λ place s. refl) 1 (items row))
    1 rows

-- the gap of a number is the one at its place
pub gap_numbered : (gaps : List Gap) (g : ℕ) (d : Gap) → 1 ≤ g → g ≤ length gaps → numbered_gap gaps g ≡ gap_of (get_or gaps (g - 1) d)
gap_numbered [] zero d low high = absurd (omega arith)
gap_numbered [] (suc g) d low high = absurd (omega arith)
gap_numbered (x ∷ xs) zero d low high = absurd (omega arith)
gap_numbered (x ∷ xs) (suc zero) d low high = refl
gap_numbered (x ∷ xs) (suc (suc n)) d low high =
    let e : suc (suc n) - 1 ≡ suc n = omega arith in
    let f : suc n - 1 ≡ n = omega arith in
    gap_numbered xs (suc n) d (omega arith) (omega arith) ∙ (ap (λ (k : ℕ). gap_of (get_or xs k d)) f ∙ sym (ap (λ (k : ℕ). gap_of (get_or (x ∷ xs) k d)) e))

-- the lines of a rule whose entry names a gap
pub gap_reason : (symbols : List Symbol) (gaps : List Gap) (rule g : ℕ) (entry : TimeEntry) (d : Gap) (old p q : List ℕ)
    → entry ≡ times.Gap g → HasItsGap (length gaps) entry → d ≡ get_or gaps (g - 1) d
    → p ≡ old ++ (codes "why time " ++ (decimal rule ++ codes ": ")) → q ≡ p ++ gap_text symbols (gap_of d)
    → q ≡ old ++ why_time symbols rule (time_of gaps entry)
gap_reason symbols gaps rule g entry d old p q e has same ep eq =
    let gap = gap_text symbols (gap_of d) in
    let there : (1 ≤ g) × (g ≤ length gaps) = subst (λ (x : TimeEntry). HasItsGap (length gaps) x) e has in
    let found : numbered_gap gaps g ≡ gap_of d = gap_numbered gaps g d there.0 there.1 ∙ ap gap_of (sym same) in
    let shown : why_time symbols rule (time_of gaps entry) ≡ codes "why time " ++ (decimal rule ++ (codes ": " ++ gap)) =
    ap (λ (x : TimeEntry). why_time symbols rule (time_of gaps x)) e
    ∙ ap (λ (h : PlainGap). codes "why time " ++ (decimal rule ++ (codes ": " ++ gap_text symbols h))) found in
    eq ∙ (ap (λ (t : List ℕ). t ++ gap) ep
    ∙ (append_assoc old (codes "why time " ++ (decimal rule ++ codes ": ")) gap
    ∙ (ap (λ (t : List ℕ). old ++ t)
    (append_assoc (codes "why time ") (decimal rule ++ codes ": ") gap
    ∙ ap (λ (t : List ℕ). codes "why time " ++ t) (append_assoc (decimal rule) (codes ": ") gap))
    ∙ ap (λ (t : List ℕ). old ++ t) (sym shown))))
