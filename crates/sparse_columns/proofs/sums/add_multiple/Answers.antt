use Rattle.std.proofs.Common.{rules, ◌≡◌, ap, ◌∙◌, to_z, of_z}
use Rattle.std.specs.Prelude.{ℤ, ◌+ℤ◌, ◌*ℤ◌}
use Rattle.std.specs.Int.{w64}
use Rattle.std.proofs.lemmas.Int.{to_z-of_z}
use Rattle.sparse_columns.specs.Numbers.{alone}
use Rattle.sparse_columns.proofs.sums.add_multiple.Goals as goal

pub returns-clause-added : goal.returns-clause-added
returns-clause-added g c e i =
    let value : to_z w64 (of_z w64 c.value.result) ≡ c.args.cell.number = let plain : to_z w64 (of_z w64 c.value.result) ≡ c.value.result = search rules in plain ∙ c.value.ensures.value in
    let whole : to_z w64 (of_z w64 c.product.result) ≡ c.product.result = search rules in
    let is = whole ∙ (c.product.ensures.value ∙ (ap (λ (z : ℤ). z *ℤ to_z w64 (of_z w64 c.args.factor)) value
    ∙ ap (λ (z : ℤ). c.args.cell.number *ℤ z) (to_z-of_z w64 c.args.factor c.ranges.factor))) in
    c.add.ensures.added e i ∙ ap (λ (z : ℤ). g.S.Sums.held c.args.sums.now i +ℤ alone c.args.cell.row z i) is
