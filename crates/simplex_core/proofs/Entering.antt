-- The least column that may enter is found among the listed entries of a cost row.
use Rattle.std.proofs.Common.{◌≡◌, ◌≢◌, ℕ, zero, suc, ◌+◌, ◌<◌, ◌≤◌, ap, arith, refl, sym, ◌∙◌, subst, ◌⊎◌, inl, inr, Bool, true, false, List, Some, None}
use Rattle.std.specs.Prelude.{pos, int_lt, nat_lt, not, ◌&&◌, slice_get}
use Rattle.std.proofs.lemmas.Bool.{lt-ltb, cases_lt, and_parts}
use Rattle.simplex_core.proofs.Searches.{least-found, least-none, fails-every, each-every}
use Rattle.frac128.specs.declared.frac.Frac.{Frac}
use Rattle.frac128.specs.Zero.{zero as none_left, zero-num}
use Rattle.linear_forms.specs.LinearProgram.{LinearProgram}
use Rattle.int_laws.specs.NormalForm.{is_zero}
use Rattle.sparse_rows.specs.Rows.{fraction_at, IsRow}
use Rattle.sparse_rows.proofs.Listed.{entry-or_zero, entry-order}
use Rattle.simplex_core.specs.declared.sparse_table.SparseTable.{SparseTable}
use Rattle.simplex_core.specs.Tableau.{Tableau, cost_row}
use Rattle.simplex_core.specs.Search.{least, every}
use Rattle.simplex_core.specs.Bland.{may_enter}
use Rattle.simplex_core.specs.Cells.{cell, Shows, IsLineOf}
use Rattle.simplex_core.specs.Positions.{InTable}
use Rattle.simplex_core.proofs.Invariant.{same_or_other}
use Rattle.simplex_core.proofs.Leaving.{least-here, least-more}
use Rattle.simplex_core.proofs.Signs.{negative-shows}

-- if no number below n passes, there is no least one
pub least-fails : (n : ℕ) (f : ℕ → Bool) → ((j : ℕ) → j < n → f j ≡ false) → least n f ≡ None
least-fails zero f fails = refl
least-fails (suc n) f fails = least-more n f (least-fails n f (λ j l. fails j (omega arith))) (fails n (omega arith))

module _ (p : LinearProgram) (a : SparseTable) (t : Tableau) (cost : ℕ) (line : List (ℕ × Frac)) (shows : Shows p a t) (few : cost < 3)
    (of : IsLineOf a (a.rows + cost) line) where
  -- a column that isn't listed doesn't enter
  zero-stays : (j : ℕ) → j < p.columns → fraction_at line j ≡ none_left → may_enter p t cost j ≡ false
  zero-stays j l none =
      let rows = shows.rows in
      let columns = shows.columns in
      let f = fraction_at line j in
      let inside : InTable p.rows p.columns (p.rows + cost) j = record { row = omega arith; column = omega arith; cost = λ _. omega arith } in
      let read = subst (λ (i : ℕ). cell a (i + cost) j ≡ Some f) rows (of.each j (omega arith)) in
      let sign = negative-shows f.num f.den (t.entry (cost_row p cost) j) (t.scale (cost_row p cost)) f.positive (shows.positive (cost_row p cost) inside.row)
      (shows.numbers (cost_row p cost) j f inside read) in
      let zero_num : f.num ≡ pos 0 = ap (λ (g : Frac). g.num) none ∙ zero-num in
      ap (λ (b : Bool). b && every cost (λ k. is_zero (t.entry (cost_row p k) j))) (sym sign ∙ ap (λ z. int_lt z (pos 0)) zero_num)

  -- a column is one of the program's and may enter
  enters : ℕ → Bool
  enters j = nat_lt j p.columns && may_enter p t cost j

  -- a column of the program that doesn't pass the test doesn't enter
  stays : (j : ℕ) → j < p.columns → (nat_lt j p.columns && may_enter p t cost j) ≡ false → may_enter p t cost j ≡ false
  stays j l e = sym (ap (λ (b : Bool). b && may_enter p t cost j) (lt-ltb j p.columns l)) ∙ e

  -- if no listed entry of an index below n enters, only columns from that of the entry of index n on can enter
  pub none-before : (n : ℕ) (x : ℕ × Frac) → IsRow line → slice_get line n ≡ Some x
      → ((k : ℕ) (y : ℕ × Frac) → k < n → slice_get line k ≡ Some y → (nat_lt y.0 p.columns && may_enter p t cost y.0) ≡ false)
      → (j : ℕ) → j < x.0 → j < p.columns → may_enter p t cost j ≡ false
  none-before n x row at before j l m = go (entry-or_zero line j)
    where
      go : ((k : ℕ) × (y : ℕ × Frac) × (slice_get line k ≡ Some y) × (y.0 ≡ j) × (fraction_at line j ≡ y.1)) ⊎ (fraction_at line j ≡ none_left)
          → may_enter p t cost j ≡ false
      go (inr none) = zero-stays j m none
      go (inl (k, y, at_k, place, is)) = by_order (cases_lt k n) (same_or_other k n)
        where
          by_order : (k < n) ⊎ (n ≤ k) → (k ≡ n) ⊎ (k ≢ n) → may_enter p t cost j ≡ false
          by_order (inl b) w = stays j m (subst (λ (i : ℕ). (nat_lt i p.columns && may_enter p t cost i) ≡ false) place (before k y b at_k))
          by_order (inr b) (inl e) =
              let same : Some y ≡ Some x = sym at_k ∙ (ap (slice_get line) e ∙ at) in
              let one : y ≡ x = cc in
              let column = ap (λ (z : ℕ × Frac). z.0) one in
              absurd (omega arith)
          by_order (inr b) (inr d) = let order = entry-order line n k x y row at at_k (omega arith) in absurd (omega arith)

  -- the least column that may enter is the first listed one that does
  pub entering-found : (n : ℕ) (x : ℕ × Frac) → IsRow line → slice_get line n ≡ Some x
      → ((k : ℕ) (y : ℕ × Frac) → k < n → slice_get line k ≡ Some y → (nat_lt y.0 p.columns && may_enter p t cost y.0) ≡ false)
      → x.0 < p.columns → may_enter p t cost x.0 ≡ true → least p.columns (may_enter p t cost) ≡ Some x.0
  entering-found n x row at before within enters_here =
      least-here x.0 p.columns (may_enter p t cost) within
      (least-fails x.0 (may_enter p t cost) (λ j l. none-before n x row at before j l (omega arith))) enters_here

  -- if no listed entry enters, no column does
  pub entering-none : ((k : ℕ) (y : ℕ × Frac) → slice_get line k ≡ Some y → (nat_lt y.0 p.columns && may_enter p t cost y.0) ≡ false)
      → least p.columns (may_enter p t cost) ≡ None
  entering-none before = least-fails p.columns (may_enter p t cost) (λ j m. go j m (entry-or_zero line j))
    where
      go : (j : ℕ) → j < p.columns
          → ((k : ℕ) × (y : ℕ × Frac) × (slice_get line k ≡ Some y) × (y.0 ≡ j) × (fraction_at line j ≡ y.1)) ⊎ (fraction_at line j ≡ none_left)
          → may_enter p t cost j ≡ false
      go j m (inr none) = zero-stays j m none
      go j m (inl (k, y, at_k, place, is)) = stays j m (subst (λ (i : ℕ). (nat_lt i p.columns && may_enter p t cost i) ≡ false) place (before k y at_k))

-- if a column may enter by the cost row of the artificial unknowns, not all its numbers are at least 0
pub some-negative : (p : LinearProgram) (t : Tableau) (j : ℕ) → least p.columns (may_enter p t 0) ≡ Some j
    → every p.columns (λ k. not (int_lt (t.entry (cost_row p 0) k) (pos 0))) ≡ false
some-negative p t j found =
    let at = least-found p.columns (may_enter p t 0) j found in
    let parts = and_parts (int_lt (t.entry (cost_row p 0) j) (pos 0)) true at.1 in
    fails-every p.columns j (λ k. not (int_lt (t.entry (cost_row p 0) k) (pos 0))) at.0 (ap not parts.0)

-- if no column may enter by the cost row of the artificial unknowns, all its numbers are at least 0
pub none-negative : (p : LinearProgram) (t : Tableau) → least p.columns (may_enter p t 0) ≡ None
    → every p.columns (λ k. not (int_lt (t.entry (cost_row p 0) k) (pos 0))) ≡ true
none-negative p t none =
    each-every p.columns (λ k. not (int_lt (t.entry (cost_row p 0) k) (pos 0)))
    (λ j l. ap not (alone (int_lt (t.entry (cost_row p 0) j) (pos 0)) (least-none p.columns (may_enter p t 0) none j l)))
  where
    alone : (b : Bool) → (b && true) ≡ false → b ≡ false
    alone true e = e
    alone false e = refl
