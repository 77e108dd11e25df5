-- What is preserved in the cells of a table while its rows are cleared.
use Rattle.std.proofs.Common.{◌≡◌, ◌≢◌, ℕ, ◌+◌, ◌<◌, ◌≤◌, arith, refl, sym, ◌∙◌, subst, ◌⊎◌, inl, inr, [], ◌∷◌}
use Rattle.std.specs.Prelude.{pos}
use Rattle.frac128.specs.declared.frac.Frac.{Frac}
use Rattle.int_laws.specs.Polynomial.{variable, constant, ◌⊖◌, ◌⊗◌}
use Rattle.int_laws.proofs.Identities.{identity_by_one}
use Rattle.simplex_core.specs.declared.sparse_table.SparseTable.{SparseTable}
use Rattle.simplex_core.specs.Cells.{width, cell, ChangesRow, KeepsRow, IsRowBelow, IsRowClearedBy}
use Rattle.simplex_core.specs.Cells.{IsLessMultiple}
use Rattle.simplex_core.specs.Positions.{InTable}
use Rattle.simplex_core.proofs.Invariant.{same_or_other}

-- a position in a table is one in each table of the same shape
pub InTable-same : (rows columns rows' columns' i j : ℕ) → rows ≡ rows' → columns ≡ columns' → InTable rows columns i j → InTable rows' columns' i j
InTable-same rows columns rows' columns' i j e f h = record {
  row = let a = h.row in omega (arith, e);
  column = let a = h.column in omega (arith, e, f);
  cost = λ l. let a = h.cost (omega (arith, e)) in omega (arith, e, f);
}

-- a row with the same numbers is below the same limit
pub IsRowBelow-same : (bits : ℕ) (a b : SparseTable) (i : ℕ) → b.rows ≡ a.rows → b.columns ≡ a.columns
    → ((j : ℕ) → j < width a → cell b i j ≡ cell a i j) → IsRowBelow bits a i → IsRowBelow bits b i
IsRowBelow-same bits a b i e f same h = record {
  each = λ j g inside is.
      let inside' = InTable-same b.rows b.columns a.rows a.columns i j e f inside in
      h.each j g inside' (sym (same j inside'.column) ∙ is);
}

-- a row is kept if another one changes, or if it changes by nothing
pub KeepsRow-more : (a b d : SparseTable) (r i : ℕ) → KeepsRow a b r → ChangesRow b d i → (i ≡ r → KeepsRow b d i) → KeepsRow a d r
KeepsRow-more a b d r i kept changes same = record {
  rows = changes.rows ∙ kept.rows;
  columns = changes.columns ∙ kept.columns;
  basis = changes.basis ∙ kept.basis;
  row = λ j l. let wide : j < width b = let e = kept.rows in let f = kept.columns in omega (arith, e, f) in go j l wide (same_or_other r i);
}
  where
    go : (j : ℕ) → j < width a → j < width b → (r ≡ i) ⊎ (r ≢ i) → cell d r j ≡ cell a r j
    go j l w (inl e) = subst (λ (k : ℕ). cell d k j ≡ cell b k j) (sym e) ((same (sym e)).row j w) ∙ kept.row j l
    go j l w (inr n) = changes.others r j n w ∙ kept.row j l

-- a row that was cleared after other rows changed was cleared from the first table
pub IsRowClearedBy-from : (a b d : SparseTable) (i r c : ℕ) → c < width a → KeepsRow a b r → ((j : ℕ) → j < width a → cell b i j ≡ cell a i j)
    → IsRowClearedBy b d i r c → IsRowClearedBy a d i r c
IsRowClearedBy-from a b d i r c l kept same h = record {
  each = λ j f factor y g inside is_f is_factor is_y is_g.
      h.each j f factor y g (InTable-same a.rows a.columns b.rows b.columns i j (sym kept.rows) (sym kept.columns) inside)
      (same j inside.column ∙ is_f) (same c l ∙ is_factor) (kept.row j inside.column ∙ is_y) is_g;
}

-- a row that was cleared is still cleared after another row changes
pub IsRowClearedBy-kept : (a b d : SparseTable) (i r c k : ℕ) → i ≢ k → b.rows ≡ a.rows → b.columns ≡ a.columns → ChangesRow b d k → IsRowClearedBy a b i r c → IsRowClearedBy a d i r c
IsRowClearedBy-kept a b d i r c k apart e m changes h = record {
  each = λ j f factor y g inside is_f is_factor is_y is_g.
      h.each j f factor y g inside is_f is_factor is_y
      (sym (changes.others i j apart (let w = inside.column in omega (arith, e, m, w))) ∙ is_g);
}

-- a number less 0 times another is the number itself
pub less_no_multiple : (f factor b : Frac) → factor.num ≡ pos 0 → IsLessMultiple f factor b f
less_no_multiple f factor b none =
    identity_by_one (f.num ∷ f.den ∷ factor.num ∷ factor.den ∷ b.num ∷ b.den ∷ [])
    (variable 0 ⊗ ((variable 1 ⊗ variable 3) ⊗ variable 5))
    (((variable 0 ⊗ variable 3) ⊗ variable 5 ⊖ (variable 2 ⊗ variable 4) ⊗ variable 1) ⊗ variable 1)
    ((variable 4 ⊗ variable 1) ⊗ variable 1) (variable 2) (constant (pos 0)) none refl

-- after one more row changes, one more row is cleared
pub cleared-step : (a b d : SparseTable) (r c n : ℕ) → c < width a → KeepsRow a b r → ChangesRow b d n
    → ((i j : ℕ) → n ≤ i → j < width a → cell b i j ≡ cell a i j)
    → ((i : ℕ) → i ≢ r → i < n → IsRowClearedBy a b i r c)
    → (n ≢ r → IsRowClearedBy b d n r c)
    → (i : ℕ) → i ≢ r → i < n + 1 → IsRowClearedBy a d i r c
cleared-step a b d r c n wide kept changes rest done cleared i apart l = go (same_or_other i n)
  where
    go : (i ≡ n) ⊎ (i ≢ n) → IsRowClearedBy a d i r c
    go (inl e) =
        subst (λ (k : ℕ). IsRowClearedBy a d k r c) (sym e)
        (IsRowClearedBy-from a b d n r c wide kept (λ j w. rest n j (omega arith) w) (cleared (λ f. apart (e ∙ f))))
    go (inr f) = IsRowClearedBy-kept a b d i r c n f kept.rows kept.columns changes (done i apart (omega arith))
