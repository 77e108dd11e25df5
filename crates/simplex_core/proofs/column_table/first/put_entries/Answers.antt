use Rattle.std.proofs.Common.{rules, ◌≡◌, ℕ, ◌+◌, ap, ◌∙◌, sym, refl, length, arith, get_or, take, add-one, List, [], ◌∷◌, ◌++◌}
use Rattle.std.specs.Int.{w128}
use Rattle.std.specs.Prelude.{ℤ, pos, ◌*ℤ◌, slice_index_or, FitsSigned}
use Rattle.std.proofs.lemmas.Int.{to_z-of_z}
use Rattle.std.proofs.lemmas.Option.{slice_get-get_or}
use Rattle.simplex_core.specs.declared.problem.Entry.{Entry}
use Rattle.simplex_core.specs.Tableau.{sign_of}
use Rattle.simplex_core.specs.ColumnBuilding.{entries_at, with_entry}
use Rattle.simplex_core.proofs.WrittenNumbers.{take-next}
use Rattle.simplex_core.proofs.ColumnLists.{columns-same, entries_at-append}
use Rattle.simplex_core.proofs.column_table.first.put_entries.Goals as goal

pub loop-position-preserved : goal.loop-position-preserved
loop-position-preserved c =
    let entries = c.args.entries.now in
    let right = c.args.right.now in
    let k = c.loop-position.position in
    let n = length c.args.columns.now.items in
    let none : Entry = record { row = 0; col = 0; value = pos 0 } in
    let e = get_or entries k none in
    let within = c.loop-position-test.true in
    let is = slice_get-get_or entries k none (omega arith) in
    let more : take (k + 1) entries ≡ take k entries ++ (e ∷ []) = ap (λ (m : ℕ). take m entries) (add-one k) ∙ take-next entries k e is in
    let fits : FitsSigned w128 (slice_index_or right e.row (pos 0)) = search rules in
    let value = to_z-of_z w128 (slice_index_or right e.row (pos 0)) fits in
    let put = c.in_ok-put_entry.ensures c.if-not-branch.false n (entries_at (take k entries) right) c.loop-position.invariant in
    columns-same c.put_entry.new.columns.items n n _ (entries_at (take (k + 1) entries) right) refl
    (λ i j l. ap (λ (z : ℤ). with_entry e (sign_of z *ℤ e.value) (entries_at (take k entries) right) i j) value
    ∙ (sym (entries_at-append (take k entries) e right i j) ∙ ap (λ (es : List Entry). entries_at es right i j) (sym more))) put
