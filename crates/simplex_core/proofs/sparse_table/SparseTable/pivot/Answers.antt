use Rattle.std.proofs.Common.{◌≡◌, refl, ap, sym, ◌∙◌, subst, arith}
use Rattle.std.specs.Prelude.{◌*ℤ◌, slice_set}
use Rattle.frac128.specs.declared.frac.Frac.{Frac}
use Rattle.frac128.specs.Fraction.{IsFraction}
use Rattle.simplex_core.proofs.CellLaws.{InTable-same}
use Rattle.simplex_core.proofs.SmallRows.{small-same}
use Rattle.simplex_core.proofs.sparse_table.SparseTable.pivot.Goals as goal

pub returns-clause-pivoted : goal.returns-clause-pivoted
returns-clause-pivoted c =
    let first = c.args.self.now in
    let divided = c.in_ok-divide_row.ensures in
    let cleared = c.in_ok-are_others_small.ensures in
    let rows = divided.changes.rows in
    let columns = divided.changes.columns in
    let column = c.requires.column in
    record {
      rows = cleared.kept.rows ∙ rows;
      columns = cleared.kept.columns ∙ columns;
      basis = ap (λ (xs : _). slice_set xs c.args.row c.args.column) (cleared.kept.basis ∙ divided.changes.basis);
      divided = λ j f by g inside is_f is_by is_g.
          let read = c.at-by.ensures in
          let same : c.at-by.result ≡ by = cc in
          subst (λ (h : Frac). IsFraction g (f.num *ℤ h.den) (f.den *ℤ h.num)) same
          (divided.divided.each j f g inside is_f (sym (cleared.kept.row j (let l = inside.column in omega (arith, rows, columns, l))) ∙ is_g));
      cleared = λ i j f factor b g apart inside is_f is_factor is_b is_g.
          (cleared.cleared i apart (let l = inside.row in omega (arith, rows, l))).each j f factor b g
          (InTable-same first.rows first.columns _ _ i j (sym rows) (sym columns) inside)
          (divided.changes.others i j apart inside.column ∙ is_f)
          (divided.changes.others i c.args.column apart (omega (arith, column)) ∙ is_factor)
          (sym (cleared.kept.row j (let l = inside.column in omega (arith, rows, columns, l))) ∙ is_b) is_g;
    }

pub returns-clause-tested : goal.returns-clause-tested
returns-clause-tested c = small-same c.clear_others.new.self _ c.are_all_small-self.result refl refl refl refl c.are_all_small-self.ensures
