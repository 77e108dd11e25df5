use Rattle.std.proofs.Common.{◌≡◌, sym, ◌∙◌, subst, Some, Option, refl, length, to_z, of_z, List}
use Rattle.std.specs.Prelude.{ℤ, slice_get, IfSome}
use Rattle.std.specs.Int.{w64}
use Rattle.std.proofs.lemmas.Int.{to_z-of_z}
use Rattle.std.proofs.lemmas.Option.{slice_get_read, same_Some}
use Rattle.sparse_columns.specs.declared.cell.Cell.{Cell}
use Rattle.sparse_columns.specs.declared.column.Column.{Column}
use Rattle.sparse_columns.specs.Columns.{IsCleared}
use Rattle.simplex_core.proofs.Positions.{slice_get-set_same, slice_get-set_other}
use Rattle.simplex_core.proofs.ColumnTableLaws.{not_negative-set}
use Rattle.simplex_core.proofs.column_table.ColumnTable.clear_column.Goals as goal

pub returns : goal.returns
returns c =
    let items = c.args.self.now.columns.items in
    let column = c.index-old.result.now in
    let shifted = c.args.shifted.now.items.items in
    let is : slice_get items c.args.position ≡ Some column = slice_get_read items (length items) c.args.position column refl c.requires.position c.index-old.ensures in
    let made = c.in-Some.column in
    let plain = to_z-of_z w64 c.args.pivot c.ranges.pivot in
    let told : IsCleared column made c.args.row c.args.pivot shifted =
    subst (λ (xs : List Cell). IsCleared column made c.args.row c.args.pivot xs) c.as_slice.ensures.items
    (subst (λ (z : ℤ). IsCleared column made c.args.row z c.as_slice.result.now) plain
    (subst (λ (o : Option Column). IfSome o (λ x. IsCleared column x c.args.row (to_z w64 (of_z w64 c.args.pivot)) c.as_slice.result.now)) c.in-Some.is c.in_ok-column.ensures)) in
    record {
      rows = refl;
      columns = refl;
      basis = refl;
      right = refl;
      cleared = λ a b is_a is_b.
          let first : column ≡ a = same_Some column a (sym is ∙ is_a) in
          let second : made ≡ b = same_Some made b (sym (slice_get-set_same items c.args.position made c.requires.position) ∙ is_b) in
          subst (λ (x : Column). IsCleared x b c.args.row c.args.pivot shifted) first
          (subst (λ (x : Column). IsCleared column x c.args.row c.args.pivot shifted) second told);
      others = λ j d. slice_get-set_other items c.args.position j made d;
      lists = refl;
      marks = refl;
      first = λ h. not_negative-set items c.args.self.now.rows c.args.self.now.first c.lesser-self.result c.args.position made h c.lesser-self.ensures.within c.requires.position c.lesser-self.ensures.own;
    }
