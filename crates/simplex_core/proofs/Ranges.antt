-- The table's numbers are in range exactly if the tableau's are.
use Rattle.std.proofs.Common.{◌≡◌, ◌<◌, ◌^◌, refl, sym, subst, [], ◌∷◌, Bool, true, false}
use Rattle.std.specs.Prelude.{ℤ, pos, ◌*ℤ◌, ◌<ℤ◌, unsigned_abs, MatchBool}
use Rattle.frac128.specs.declared.frac.Frac.{Frac}
use Rattle.frac128.specs.Fraction.{IsFraction}
use Rattle.frac128.proofs.Uniqueness.{same_parts}
use Rattle.int_laws.specs.Polynomial.{variable, constant, ◌⊖◌, ◌⊗◌}
use Rattle.int_laws.proofs.Identities.{identity_by_two}
use Rattle.int_laws.proofs.OrderLaws.{mul-cancel_ℤ}
use Rattle.simplex_core.specs.declared.sparse_table.SparseTable.{SparseTable}
use Rattle.linear_forms.specs.LinearProgram.{LinearProgram}
use Rattle.simplex_core.specs.Tableau.{Tableau}
use Rattle.simplex_core.specs.Sizes.{IsBelow}
use Rattle.simplex_core.specs.Cells.{AreSmall, HasLarge, Shows, ShowsTested}
use Rattle.simplex_core.specs.Outcome.{IsSmallRatio, IsInRange}
use Rattle.simplex_core.specs.TableClauses.{ShowsInRange, ShowsOutOfRange}
use Rattle.simplex_core.proofs.CellLaws.{InTable-same}
use Rattle.simplex_core.proofs.TableLines.{cell-there}

-- a ratio that a small fraction shows is small
small-shows : (f : Frac) (z s : ℤ) → pos 0 <ℤ s → IsFraction f z s → IsBelow 31 f → IsSmallRatio z s
small-shows f z s positive shows below = record {
  each = λ n d pd lowest same.
      let parts = same_parts n d f.num f.den pd f.positive lowest f.lowest (crossed n d same) in
      (subst (λ (w : ℤ). unsigned_abs w < 2 ^ 31) (sym parts.0) below.num, subst (λ (w : ℤ). unsigned_abs w < 2 ^ 31) (sym parts.1) below.den);
}
  where
    crossed : (n d : ℤ) → n *ℤ s ≡ z *ℤ d → n *ℤ f.den ≡ f.num *ℤ d
    crossed n d same =
        mul-cancel_ℤ s (n *ℤ f.den) (f.num *ℤ d) positive
        (identity_by_two (n ∷ d ∷ s ∷ z ∷ f.num ∷ f.den ∷ []) (variable 2 ⊗ (variable 0 ⊗ variable 5)) (variable 2 ⊗ (variable 4 ⊗ variable 1))
        (variable 5) (variable 0 ⊗ variable 2) (variable 3 ⊗ variable 1)
        (constant (pos 0) ⊖ variable 1) (variable 4 ⊗ variable 2) (variable 3 ⊗ variable 5) same shows refl)

-- a table of small numbers shows a tableau in range
pub small-in_range : (p : LinearProgram) (a : SparseTable) (t : Tableau) → Shows p a t → AreSmall a → IsInRange p t
small-in_range p a t shows small = record {
  each = λ i j inside.
      let rows = shows.rows in
      let columns = shows.columns in
      let r = inside.row in
      let k = inside.column in
      let inside' = InTable-same p.rows p.columns a.rows a.columns i j (sym rows) (sym columns) inside in
      let there = cell-there a i j inside' in
      small-shows there.0 (t.entry i j) (t.scale i) (shows.positive i r) (shows.numbers i j there.0 inside there.1)
      (small.each i j there.0 (InTable-same p.rows p.columns a.rows a.columns i j (sym rows) (sym columns) inside) there.1);
}

-- a table with a number that isn't small shows a tableau out of range
pub large-out_of_range : (p : LinearProgram) (a : SparseTable) (t : Tableau) → Shows p a t → HasLarge a → ¬ IsInRange p t
large-out_of_range p a t shows large range =
    let inside = InTable-same a.rows a.columns p.rows p.columns large.row large.column shows.rows shows.columns large.in_table in
    let f = large.number in
    let small = (range.each large.row large.column inside).each f.num f.den f.positive f.lowest (shows.numbers large.row large.column f inside large.is) in
    large.large (record { num = small.0; den = small.1 })

-- a table that shows a tableau in range has small numbers
pub in_range-small : (p : LinearProgram) (a : SparseTable) (t : Tableau) → Shows p a t → IsInRange p t → AreSmall a
in_range-small p a t shows range = record {
  each = λ i j f inside is.
      let there = InTable-same a.rows a.columns p.rows p.columns i j shows.rows shows.columns inside in
      let small = (range.each i j there).each f.num f.den f.positive f.lowest (shows.numbers i j f there is) in
      record { num = small.0; den = small.1 };
}

-- the table's flag decides whether the tableaux that it shows are in range
pub range-decided : (a : SparseTable) (v : Bool) → a.is_small ≡ v → MatchBool v (ShowsInRange ShowsTested a) (ShowsOutOfRange ShowsTested a)
range-decided a true e = record { each = λ p t s. small-in_range p a t s.shows (subst (λ (b : Bool). MatchBool b (AreSmall a) (HasLarge a)) e s.range) }
range-decided a false e = record { each = λ p t s. large-out_of_range p a t s.shows (subst (λ (b : Bool). MatchBool b (AreSmall a) (HasLarge a)) e s.range) }
