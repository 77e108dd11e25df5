use Rattle.std.proofs.Common.{◌≡◌, ℕ, arith, ap, ◌∙◌, List, [], ◌∷◌, ◌++◌, Bool}
use Rattle.std.specs.Prelude.{ℤ, pos, ◌+ℤ◌, if◌then◌else◌}
use Rattle.std.proofs.lemmas.Int.{ints, to_z-of_z}
use Rattle.std.specs.Int.{w64}
use Rattle.sparse_columns.specs.declared.cell.Cell.{Cell}
use Rattle.sparse_columns.specs.Numbers.{alone, number_of}
use Rattle.sparse_columns.proofs.Lookups.{number_of-append, alone-zero}
use Rattle.sparse_columns.proofs.cells.Cells.push.Goals as goal

pub returns-then-value-eq0-clause-puts : goal.returns-then-value-eq0-clause-puts
returns-then-value-eq0-clause-puts c _ = record {
  each = λ i.
      let zero : c.args.value ≡ pos 0 = omega (arith, ints) in
      let nothing = alone-zero c.args.row c.args.value i zero in
      omega (arith, ints, nothing);
}

pub returns-clause-puts : goal.returns-clause-puts
returns-clause-puts c e = record {
  each = λ i.
      let cell = c.in-Some.cell in
      let is = c.in-Some.ensures in
      let value : cell.number ≡ c.args.value = is.1 ∙ to_z-of_z w64 c.args.value c.ranges.value in
      let items = c.args.self.now.items.items in
      let more : c.append_in_place.new.self.items.items ≡ items ++ (cell ∷ []) =
      c.append_in_place.ensures.items ∙ ap (λ (b : Bool). if b then items ++ (cell ∷ []) else items) e in
      ap (λ (xs : List Cell). number_of xs i) more
      ∙ (number_of-append items cell i
      ∙ ap (λ (z : ℤ). number_of items i +ℤ z)
      (ap (λ (r : ℕ). alone r cell.number i) is.0 ∙ ap (λ (z : ℤ). alone c.args.row z i) value));
}
