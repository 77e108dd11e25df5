use Rattle.std.proofs.Common.{◌≡◌, sym, ◌∙◌, subst, Option, refl, arith, to_z, of_z}
use Rattle.std.specs.Prelude.{ℤ, pos, IfSome}
use Rattle.std.specs.Int.{w64}
use Rattle.std.proofs.lemmas.Int.{ints, to_z-of_z}
use Rattle.sparse_columns.specs.declared.column.Column.{Column}
use Rattle.sparse_columns.specs.Columns.{numerator, IsCleared}
use Rattle.simplex_core.proofs.ColumnTableLaws.{cleared-none}
use Rattle.simplex_core.proofs.column_table.ColumnTable.clear_right.Goals as goal

pub returns-then-at-eq0 : goal.returns-then-at-eq0
returns-then-at-eq0 c =
    let right = c.args.self.now.right in
    let value = c.at.ensures.value in
    let bounded = c.at.ensures.bounded in
    let zero : numerator right c.args.row ≡ pos 0 = sym value ∙ (let test = c.if-at-eq0.true in omega (arith, ints, bounded, test)) in
    record {
      rows = refl;
      columns = refl;
      basis = refl;
      kept = refl;
      lists = refl;
      marks = refl;
      first = refl;
      cleared = cleared-none right c.args.row c.args.pivot c.args.shifted.now zero;
    }

pub returns : goal.returns
returns c =
    let right = c.args.self.now.right in
    let made = c.in-Some.right in
    let plain = to_z-of_z w64 c.args.pivot c.ranges.pivot in
    let told : IsCleared right made c.args.row c.args.pivot c.args.shifted.now =
    subst (λ (z : ℤ). IsCleared right made c.args.row z c.args.shifted.now) plain
    (subst (λ (o : Option Column). IfSome o (λ x. IsCleared right x c.args.row (to_z w64 (of_z w64 c.args.pivot)) c.args.shifted.now)) c.in-Some.is c.in_ok-right.ensures) in
    record {
      rows = refl;
      columns = refl;
      basis = refl;
      kept = refl;
      lists = refl;
      marks = refl;
      first = refl;
      cleared = told;
    }
