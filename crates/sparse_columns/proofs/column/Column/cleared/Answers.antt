use Rattle.std.proofs.Common.{rules, ◌≡◌, ℕ, arith, ap, ◌∙◌, List, to_z, of_z, sym, subst}
use Rattle.std.specs.Prelude.{ℤ, pos, ◌+ℤ◌, ◌-ℤ◌, ◌*ℤ◌, ◌<ℤ◌}
use Rattle.std.specs.Int.{w64}
use Rattle.std.proofs.lemmas.Int.{ints, to_z-of_z}
use Rattle.std.proofs.lemmas.Result.{IfOk-weaker}
use Rattle.std.proofs.lemmas.Option.{IfSome_then}
use Rattle.int_laws.proofs.OrderLaws.{mul-positive_ℤ, mul-sub_ℤ}
use Rattle.sparse_columns.specs.declared.cell.Cell.{Cell}
use Rattle.sparse_columns.specs.Numbers.{number_of}
use Rattle.sparse_columns.specs.Columns.{numerator}
use Rattle.sparse_columns.proofs.column.Column.cleared.Goals as goal

pub combination-requires-clause-den : goal.combination-requires-clause-den
combination-requires-clause-den c =
    let under : to_z w64 (of_z w64 c.new-ratio.result.under) ≡ c.new-ratio.result.under = search rules in
    let den : to_z w64 (of_z w64 c.args.self.now.den) ≡ c.args.self.now.den = search rules in
    let plain : to_z w64 (of_z w64 c.product-den.result) ≡ c.product-den.result = search rules in
    let positive = mul-positive_ℤ c.args.self.now.den c.new-ratio.result.under c.args.self.now.positive c.new-ratio.result.positive in
    let value = c.product-den.ensures.value ∙ (ap (λ (z : ℤ). z *ℤ to_z w64 (of_z w64 c.new-ratio.result.under)) den ∙ ap (λ (z : ℤ). c.args.self.now.den *ℤ z) under) in
    subst (λ (z : ℤ). pos 0 <ℤ z) (sym (plain ∙ value)) positive

pub returns : goal.returns
returns c =
    IfOk-weaker c.combination.result _ _
    (λ found told. IfSome_then found told (λ column multiple. record {
      over = c.new-ratio.result.over;
      under = c.new-ratio.result.under;
      divisor = multiple.divisor;
      under_positive = c.new-ratio.result.positive;
      positive = multiple.positive;
      ratio = ratio;
      numbers = λ i. multiple.numbers i ∙ numbers i;
      den = multiple.over ∙ den;
    }))
    c.combination.ensures
  where
    number_plain : to_z w64 (of_z w64 c.at.result) ≡ numerator c.args.self.now c.args.row
    number_plain = let plain : to_z w64 (of_z w64 c.at.result) ≡ c.at.result = search rules in plain ∙ c.at.ensures.value

    ratio : c.args.pivot *ℤ c.new-ratio.result.over ≡ numerator c.args.self.now c.args.row *ℤ c.new-ratio.result.under
    ratio =
        ap (λ (z : ℤ). z *ℤ c.new-ratio.result.over) (sym (to_z-of_z w64 c.args.pivot c.ranges.pivot))
        ∙ (c.new-ratio.ensures ∙ ap (λ (z : ℤ). z *ℤ c.new-ratio.result.under) number_plain)

    under_plain : to_z w64 (of_z w64 c.new-ratio.result.under) ≡ c.new-ratio.result.under
    under_plain = search rules

    over_plain : to_z w64 (of_z w64 (pos 0 -ℤ to_z w64 (of_z w64 c.new-ratio.result.over))) ≡ pos 0 -ℤ c.new-ratio.result.over
    over_plain = let small = c.new-ratio.result.over_small in omega (arith, ints, small)

    numbers : (i : ℕ) → number_of c.as_slice.result.now i *ℤ to_z w64 (of_z w64 c.new-ratio.result.under)
        +ℤ number_of c.args.shifted.now i *ℤ to_z w64 (of_z w64 (pos 0 -ℤ to_z w64 (of_z w64 c.new-ratio.result.over))) ≡ numerator c.args.self.now i *ℤ c.new-ratio.result.under -ℤ number_of c.args.shifted.now i *ℤ c.new-ratio.result.over
    numbers i =
        let left : number_of c.as_slice.result.now i ≡ numerator c.args.self.now i = ap (λ (xs : List Cell). number_of xs i) c.as_slice.ensures.items in
        let first = ap (λ (z : ℤ). z *ℤ to_z w64 (of_z w64 c.new-ratio.result.under)) left ∙ ap (λ (z : ℤ). numerator c.args.self.now i *ℤ z) under_plain in
        let second = ap (λ (z : ℤ). number_of c.args.shifted.now i *ℤ z) over_plain in
        let negated = mul-sub_ℤ (number_of c.args.shifted.now i) (pos 0) c.new-ratio.result.over in
        omega (arith, ints, first, second, negated)

    den : to_z w64 (of_z w64 c.product-den.result) ≡ c.args.self.now.den *ℤ c.new-ratio.result.under
    den =
        let under_plain : to_z w64 (of_z w64 c.new-ratio.result.under) ≡ c.new-ratio.result.under = search rules in
        let den_plain : to_z w64 (of_z w64 c.args.self.now.den) ≡ c.args.self.now.den = search rules in
        let plain : to_z w64 (of_z w64 c.product-den.result) ≡ c.product-den.result = search rules in
        plain ∙ (c.product-den.ensures.value
        ∙ (ap (λ (z : ℤ). z *ℤ to_z w64 (of_z w64 c.new-ratio.result.under)) den_plain ∙ ap (λ (z : ℤ). c.args.self.now.den *ℤ z) under_plain))
