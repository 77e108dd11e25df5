use Rattle.std.proofs.Common.{rules, ◌≡◌, ◌+◌, ap, ◌∙◌, arith, to_z, of_z}
use Rattle.std.specs.Int.{w64, w128}
use Rattle.std.specs.Prelude.{ℤ, pos, ◌-ℤ◌}
use Rattle.std.proofs.lemmas.Int.{ints, to_z-of_z}
use Rattle.std.proofs.lemmas.Result.{IfOk-weaker}
use Rattle.int_laws.specs.Sums.{sum_to}
use Rattle.int_laws.proofs.SumLaws.{sum_to-same}
use Rattle.sparse_columns.specs.Numbers.{alone, number}
use Rattle.sparse_columns.specs.Columns.{numerator}
use Rattle.simplex_core.proofs.column_table.first.put_column_costs.Goals as goal

pub returns : goal.returns
returns c = IfOk-weaker c.put-3.result _ _ (λ b third e.
    let first = c.in_ok-put.ensures c.if-not-branch.false in
    let second = c.in_ok-put-2.ensures c.if-not-branch-2.false in
    let last = third e in
    record {
      numbers = λ outside i.
          let m = c.args.rows in
          let sum = c.in-Some.ensures m (λ k l. c.cells.ensures k ∙ outside k l) in
          let same = sum_to-same m (number c.cells.result.now) (numerator c.args.column.now) (λ k l. c.cells.ensures k) in
          let sum_plain : to_z w64 (of_z w64 c.in-Some.sum) ≡ c.in-Some.sum = search rules in
          let less_plain : to_z w64 (of_z w64 c.in-Some-negated.less) ≡ c.in-Some-negated.less = search rules in
          let less_is = c.in-Some-negated.ensures in
          let less : to_z w64 (of_z w64 c.in-Some-negated.less) ≡ pos 0 -ℤ sum_to m (numerator c.args.column.now) = omega (arith, ints, sum, same, sum_plain, less_plain, less_is) in
          let first_plain : to_z w64 (of_z w64 c.narrow.result) ≡ c.narrow.result = search rules in
          let second_plain : to_z w64 (of_z w64 c.narrow-2.result) ≡ c.narrow-2.result = search rules in
          let first_is = first_plain ∙ (c.narrow.ensures ∙ to_z-of_z w128 c.args.first c.ranges.first) in
          let second_is = second_plain ∙ (c.narrow-2.ensures ∙ to_z-of_z w128 c.args.second c.ranges.second) in
          let one = ap (λ (z : ℤ). alone m z i) less in
          let two = ap (λ (z : ℤ). alone (m + 1) z i) first_is in
          let three = ap (λ (z : ℤ). alone (m + 2) z i) second_is in
          let a = first.numbers i in
          let b = second.numbers i in
          let d = last.numbers i in
          omega (arith, ints, a, b, d, one, two, three);
      den = last.den ∙ (second.den ∙ first.den);
    }) c.put-3.ensures
