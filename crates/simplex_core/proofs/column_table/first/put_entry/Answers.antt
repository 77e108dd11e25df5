use Rattle.std.proofs.Common.{rules, ◌≡◌, ◌∙◌, subst, to_z, of_z, refl, length}
use Rattle.std.specs.Int.{w64}
use Rattle.std.specs.Prelude.{ℤ, ◌*ℤ◌}
use Rattle.std.proofs.lemmas.Result.{IfOk-weaker}
use Rattle.std.proofs.lemmas.Option.{slice_get_read}
use Rattle.sparse_columns.specs.Columns.{PutsNumerator}
use Rattle.simplex_core.specs.Tableau.{sign_of}
use Rattle.simplex_core.proofs.ColumnLists.{entry-put}
use Rattle.simplex_core.proofs.column_table.first.put_entry.Goals as goal

pub returns : goal.returns
returns c = IfOk-weaker c.put.result _ _ (λ b puts e n g are.
    let items = c.args.columns.now.items in
    let entry = c.args.entry in
    let x = c.index_mut.result.now in
    let is = slice_get_read items (length items) entry.col x refl c.requires.column c.index_mut.ensures.value in
    let plain : to_z w64 (of_z w64 c.narrow.result) ≡ c.narrow.result = search rules in
    let number : c.narrow.result ≡ c.signed.result = search rules in
    let value : c.signed.result ≡ sign_of c.args.right *ℤ entry.value = search rules in
    entry-put items n g entry (sign_of c.args.right *ℤ entry.value) x c.put.new.self is
    (subst (λ (z : ℤ). PutsNumerator x c.put.new.self entry.row z) (plain ∙ (number ∙ value)) (puts e)) are) c.put.ensures
