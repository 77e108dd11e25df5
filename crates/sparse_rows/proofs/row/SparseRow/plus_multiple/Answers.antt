use Rattle.std.proofs.Common.{ℕ, sym, ◌∙◌, subst}
use Rattle.std.specs.Prelude.{List}
use Rattle.frac128.specs.declared.frac.Frac.{Frac}
use Rattle.sparse_rows.specs.declared.row.SparseError.{SparseError}
use Rattle.sparse_rows.specs.Multiples.{IsRowPlusMultiple, IsRefusal}
use Rattle.sparse_rows.proofs.Merged.{merged-multiple, merged-refusal}
use Rattle.sparse_rows.proofs.row.SparseRow.plus_multiple.Goals as goal

pub returns-in-Ok : goal.returns-in-Ok
returns-in-Ok c =
    let left = c.as_slice-left.ensures ∙ c.self.view_is in
    let right = c.as_slice-right.ensures ∙ c.other.view_is in
    let made = c.merge_into.new.made.items in
    subst (λ (xs : List (ℕ × Frac)). IsRowPlusMultiple xs c.args.by c.args.other.now made) left
    (subst (λ (xs : List (ℕ × Frac)). IsRowPlusMultiple c.as_slice-left.result.now c.args.by xs made) right
    (merged-multiple c.args.by c.as_slice-left.result.now c.as_slice-right.result.now made c.in-Ok.ensures.merged))

pub returns-in-Err : goal.returns-in-Err
returns-in-Err c =
    let left = c.as_slice-left.ensures ∙ c.self.view_is in
    let right = c.as_slice-right.ensures ∙ c.other.view_is in
    subst (λ (xs : List (ℕ × Frac)). IsRefusal xs c.args.by c.args.other.now c.error_of.result) left
    (subst (λ (xs : List (ℕ × Frac)). IsRefusal c.as_slice-left.result.now c.args.by xs c.error_of.result) right
    (subst (λ (e : SparseError). IsRefusal c.as_slice-left.result.now c.args.by c.as_slice-right.result.now e) (sym c.error_of.ensures)
    (merged-refusal c.args.by c.as_slice-left.result.now c.as_slice-right.result.now c.in-Err.stop c.in-Err.ensures.stopped)))
