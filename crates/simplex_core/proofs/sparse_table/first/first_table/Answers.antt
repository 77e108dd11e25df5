use Rattle.std.proofs.Common.{◌≡◌, ℕ, ap, refl, sym, ◌∙◌, subst, List, length}
use Rattle.std.specs.Prelude.{ℤ, slice_index}
use Rattle.simplex_core.specs.declared.sparse_table.SparseTable.{SparseTable}
use Rattle.simplex_core.specs.declared.problem.Entry.{Entry}
use Rattle.simplex_core.specs.Building.{HoldsWhole, signed_entries, with_equations, with_costs, AreSumsOf}
use Rattle.simplex_core.proofs.FirstTable.{filled-shows, filled-sums, artificial-zero, costs-zero}
use Rattle.simplex_core.proofs.sparse_table.first.first_table.Goals as goal

-- the table holds the same entries, given by equal lists
entries-held : (a : SparseTable) (sides : List ℤ) (es es' : List Entry) → es ≡ es' → HoldsWhole a (signed_entries es sides) → HoldsWhole a (signed_entries es' sides)
entries-held a sides es es' e h = subst (λ (xs : List Entry). HoldsWhole a (signed_entries xs sides)) e h

-- the table holds the same equations, given by equal lists and sizes
equations-held : (a : SparseTable) (m n m' n' : ℕ) (right sides right' : List ℤ) (es es' : List Entry) → m ≡ m' → n ≡ n' → right ≡ right' → sides ≡ right' → es ≡ es'
    → HoldsWhole a (with_equations m n right (signed_entries es sides) m) → HoldsWhole a (with_equations m' n' right' (signed_entries es' right') m')
equations-held a m n m' n' right sides right' es es' em en er es_is ee h =
    subst (λ (k : ℕ). HoldsWhole a (with_equations k n' right' (signed_entries es' right') k)) em
    (subst (λ (k : ℕ). HoldsWhole a (with_equations m k right' (signed_entries es' right') m)) en
    (subst (λ (xs : List ℤ). HoldsWhole a (with_equations m n xs (signed_entries es' right') m)) er
    (subst (λ (xs : List ℤ). HoldsWhole a (with_equations m n right (signed_entries es' xs) m)) es_is
    (subst (λ (xs : List Entry). HoldsWhole a (with_equations m n right (signed_entries xs sides) m)) ee h))))

-- the table holds the same cost rows, given by equal lists
costs-held : (a : SparseTable) (m m' n n' : ℕ) (g : ℕ → ℕ → ℕ → ℕ → ℤ) (first first' second second' : List ℤ) → m ≡ m' → n ≡ n' → first ≡ first' → second ≡ second'
    → HoldsWhole a (with_costs m (g m n) first second n) → HoldsWhole a (with_costs m' (g m' n') first' second' n')
costs-held a m m' n n' g first first' second second' em en ef es h =
    subst (λ (k : ℕ). HoldsWhole a (with_costs k (g k n') first' second' n')) em
    (subst (λ (k : ℕ). HoldsWhole a (with_costs m (g m k) first' second' k)) en
    (subst (λ (xs : List ℤ). HoldsWhole a (with_costs m (g m n) xs second' n)) ef
    (subst (λ (xs : List ℤ). HoldsWhole a (with_costs m (g m n) first xs n)) es h)))

-- the sums of equal lists, for equal numbers of rows and columns
sums-held : (m n m' n' : ℕ) (sides right : List ℤ) (es es' : List Entry) (sums : List ℤ) → m ≡ m' → n ≡ n' → sides ≡ right → es ≡ es'
    → AreSumsOf (signed_entries es sides) m n sums → AreSumsOf (signed_entries es' right) m' n' sums
sums-held m n m' n' sides right es es' sums em en er ee h =
    subst (λ (k : ℕ). AreSumsOf (signed_entries es' right) k n' sums) em
    (subst (λ (k : ℕ). AreSumsOf (signed_entries es' right) m k sums) en
    (subst (λ (xs : List ℤ). AreSumsOf (signed_entries es' xs) m n sums) er
    (subst (λ (xs : List Entry). AreSumsOf (signed_entries xs sides) m n sums) ee h)))

pub write_rows-requires-clause-none : goal.write_rows-requires-clause-none
write_rows-requires-clause-none c =
    let q = c.args.problem.now in
    let started = c.in_ok-table.ensures in
    artificial-zero q c.write_entries.new.self c.as_slice-right.result.now c.requires.proper (c.in_ok-write_entries.ensures.shape.columns ∙ started.shape.1)
    (entries-held c.write_entries.new.self c.as_slice-right.result.now c.as_slice-entries.result.now q.entries.items c.as_slice-entries.ensures.value c.in_ok-write_entries.ensures.whole)

pub write_costs-requires-clause-none : goal.write_costs-requires-clause-none
write_costs-requires-clause-none c =
    let q = c.args.problem.now in
    let started = c.in_ok-table.ensures in
    let b = c.write_entries.new.self in
    let d = c.write_rows.new.self in
    let held = c.in_ok-write_rows.ensures.whole (signed_entries c.as_slice-entries.result.now c.as_slice-right.result.now) c.in_ok-write_entries.ensures.whole in
    let rows = c.in_ok-write_rows.ensures.shape.rows in
    let columns = c.in_ok-write_rows.ensures.shape.columns in
    costs-zero q d d.rows d.columns q.right.items q.right.items c.requires.proper refl (rows ∙ (c.in_ok-write_entries.ensures.shape.rows ∙ started.shape.0))
    (equations-held d b.rows b.columns d.rows d.columns c.as_slice-right.result.now c.as_slice-right.result.now q.right.items c.as_slice-entries.result.now q.entries.items
    (sym rows) (sym columns) c.as_slice-right.ensures.value c.as_slice-right.ensures.value c.as_slice-entries.ensures.value held)

pub returns : goal.returns
returns c =
    let q = c.args.problem.now in
    let b = c.write_entries.new.self in
    let d = c.write_rows.new.self in
    let e = c.write_costs.new.self in
    let started = c.in_ok-table.ensures in
    let entries = c.in_ok-write_entries.ensures in
    let sides = c.in_ok-write_rows.ensures in
    let costs = c.in_ok-write_costs.ensures in
    let held = sides.whole (signed_entries c.as_slice-entries.result.now c.as_slice-right.result.now) entries.whole in
    let equations = equations-held d b.rows b.columns d.rows d.columns c.as_slice-right.result.now c.as_slice-right.result.now q.right.items c.as_slice-entries.result.now q.entries.items
    (sym sides.shape.rows) (sym sides.shape.columns) c.as_slice-right.ensures.value c.as_slice-right.ensures.value c.as_slice-entries.ensures.value held in
    let rows = sides.shape.rows ∙ (entries.shape.rows ∙ started.shape.0) in
    let columns = sides.shape.columns ∙ (entries.shape.columns ∙ started.shape.1) in
    let length_is : length c.as_slice-right.result.now ≡ q.rows = ap (λ (xs : List ℤ). length xs) c.as_slice-right.ensures.value ∙ c.requires.proper.right in
    let sums = filled-sums d.rows d.columns q.right.items c.in_ok-sums.sums.items (signed_entries q.entries.items q.right.items)
    (sums-held (length c.as_slice-right.result.now) q.cols d.rows d.columns c.as_slice-right.result.now q.right.items c.as_slice-entries.result.now q.entries.items c.in_ok-sums.sums.items
    (length_is ∙ sym rows) (sym columns) c.as_slice-right.ensures.value c.as_slice-entries.ensures.value c.in_ok-sums.ensures.sums) in
    let g : ℕ → ℕ → ℤ = with_equations d.rows d.columns q.right.items (signed_entries q.entries.items q.right.items) d.rows in
    let whole = costs.whole g equations (subst (λ (xs : List ℤ). AreSumsOf g d.rows d.columns xs) (sym c.as_slice.ensures.value) sums) in
    let basis = costs.shape.basis ∙ (sides.shape.basis ∙ entries.shape.basis) in
    filled-shows q e c.requires.proper (costs.shape.rows ∙ rows) (costs.shape.columns ∙ columns)
    (costs-held e d.rows e.rows d.columns e.columns (λ (m n : ℕ). with_equations m n q.right.items (signed_entries q.entries.items q.right.items) m)
    c.as_slice-2.result.now q.first.items c.as_slice-3.result.now q.second.items (sym costs.shape.rows) (sym costs.shape.columns) c.as_slice-2.ensures.value c.as_slice-3.ensures.value whole)
    (λ i l. ap (λ (xs : List ℕ). slice_index xs i) basis ∙ started.basis i l)
