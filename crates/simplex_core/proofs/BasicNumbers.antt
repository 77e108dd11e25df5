-- The numbers read off the table of fractions are those of the tableau that it shows.
use Rattle.std.proofs.Common.{◌≡◌, ℕ, ◌+◌, ◌<◌, ap, arith, refl, sym, ◌∙◌, subst, inl, inr, List, Some, [], ◌∷◌}
use Rattle.std.specs.Prelude.{ℤ, pos, ◌-ℤ◌, ◌*ℤ◌, ◌<ℤ◌, slice_get}
use Rattle.std.proofs.lemmas.Option.{slice_get_within}
use Rattle.frac128.specs.declared.frac.Frac.{Frac}
use Rattle.frac128.specs.Fraction.{IsFraction}
use Rattle.int_laws.specs.Polynomial.{variable, constant, ◌⊖◌, ◌⊗◌}
use Rattle.int_laws.proofs.Identities.{identity_by_one}
use Rattle.int_laws.proofs.OrderLaws.{mul-cancel_ℤ}
use Rattle.simplex_core.specs.declared.sparse_table.SparseTable.{SparseTable}
use Rattle.linear_forms.specs.LinearProgram.{LinearProgram}
use Rattle.simplex_core.specs.Tableau.{Tableau, unknowns, cost_row, sign_of, artificial}
use Rattle.simplex_core.specs.Bland.{dual_of}
use Rattle.simplex_core.specs.Positions.{InTable}
use Rattle.simplex_core.specs.Cells.{cell, IsBasicNumber, HoldsBasic, HoldsDual, Shows}
use Rattle.simplex_core.specs.Outcome.{HoldsPoint, IsBasicValue}
use Rattle.simplex_core.specs.TableClauses.{HoldsBasicSolution, AreSides}
use Rattle.simplex_core.proofs.TableLines.{cell-there}

-- the basic solution read off the table is the tableau's
pub solution-read : (p : LinearProgram) (a : SparseTable) (t : Tableau) (at : List Frac) → Shows p a t → HoldsBasic a a.rows at → HoldsBasicSolution p t at
solution-read p a t at shows holds = record { length_is = holds.length_is ∙ shows.columns; each = λ j f read. value j f (holds.each j f read) }
  where
    value : (j : ℕ) (f : Frac) → IsBasicNumber a a.rows j f → IsBasicValue p t j f
    value j f (inl found) =
        let i = found.0 in
        let rows = shows.rows in
        let columns = shows.columns in
        let l : i < p.rows = omega (arith, found.1) in
        let inside : InTable p.rows p.columns i (unknowns p) = record { row = omega arith; column = omega arith; cost = λ k. absurd (omega arith) } in
        let position : a.columns + a.rows ≡ unknowns p = omega arith in
        inl (i, l, sym (shows.basis i l) ∙ found.2, shows.numbers i (unknowns p) f inside (ap (λ (k : ℕ). cell a i k) (sym position) ∙ found.3))
    value j f (inr none) = inr (none.0, λ i l e. none.1 i (let r = shows.rows in omega arith) (shows.basis i l ∙ e))

-- the dual read off the table is the tableau's
pub dual-read : (p : LinearProgram) (a : SparseTable) (t : Tableau) (right : List ℤ) (dual : List Frac) → Shows p a t → AreSides p right → HoldsDual a right a.rows dual
    → HoldsPoint p.rows dual (dual_of p t) (t.scale (cost_row p 0))
dual-read p a t right dual shows sides holds = record { length_is = holds.length_is ∙ shows.rows; each = each }
  where
    scaled : (y z n d s e g : ℤ) → pos 0 <ℤ d → n *ℤ s ≡ e *ℤ d → y *ℤ d ≡ (g *ℤ (d -ℤ n)) *ℤ z → y *ℤ s ≡ (g *ℤ (s -ℤ e)) *ℤ z
    scaled y z n d s e g positive shown given =
        mul-cancel_ℤ d (y *ℤ s) ((g *ℤ (s -ℤ e)) *ℤ z) positive
        (identity_by_one (y ∷ z ∷ n ∷ d ∷ s ∷ g ∷ []) (variable 3 ⊗ (variable 0 ⊗ variable 4)) (((variable 5 ⊗ (variable 3 ⊖ variable 2)) ⊗ variable 1) ⊗ variable 4)
        (variable 4) (variable 0 ⊗ variable 3) ((variable 5 ⊗ (variable 3 ⊖ variable 2)) ⊗ variable 1) given refl
        ∙ identity_by_one (z ∷ n ∷ d ∷ s ∷ e ∷ g ∷ []) (((variable 5 ⊗ (variable 2 ⊖ variable 1)) ⊗ variable 0) ⊗ variable 3)
        (variable 2 ⊗ ((variable 5 ⊗ (variable 3 ⊖ variable 4)) ⊗ variable 0))
        (constant (pos 0) ⊖ variable 5 ⊗ variable 0) (variable 1 ⊗ variable 3) (variable 4 ⊗ variable 2) shown refl)

    each : (i : ℕ) (y : Frac) → slice_get dual i ≡ Some y → IsFraction y (dual_of p t i) (t.scale (cost_row p 0))
    each i y read =
        let rows = shows.rows in
        let columns = shows.columns in
        let inside = slice_get_within dual i y read in
        let size = holds.length_is in
        let there = cell-there a a.rows (a.columns + i) (record { row = omega arith; column = omega arith; cost = λ l. omega arith }) in
        let x = there.0 in
        let row : a.rows ≡ cost_row p 0 = omega arith in
        let column : a.columns + i ≡ artificial p i = omega arith in
        let position : InTable p.rows p.columns (cost_row p 0) (artificial p i) = record { row = omega arith; column = omega arith; cost = λ l. omega arith } in
        let shown = shows.numbers (cost_row p 0) (artificial p i) x position
        (ap (λ (r : ℕ). cell a r (artificial p i)) (sym row) ∙ (ap (λ (j : ℕ). cell a a.rows j) (sym column) ∙ there.1)) in
        let given = holds.each i y x (omega arith) read there.1 in
        scaled y.num y.den x.num x.den (t.scale (cost_row p 0)) (t.entry (cost_row p 0) (artificial p i)) (sign_of (p.right i)) x.positive shown
        (subst (λ (z : ℤ). y.num *ℤ x.den ≡ (sign_of z *ℤ (x.den -ℤ x.num)) *ℤ y.den) (sides.each i) given)
