use Rattle.std.proofs.Common.{rules, ◌≡◌, ap, ◌∙◌, to_z, of_z}
use Rattle.std.specs.Prelude.{ℤ, ◌+ℤ◌, ◌*ℤ◌}
use Rattle.std.specs.Int.{w64}
use Rattle.std.proofs.lemmas.Int.{to_z-of_z}
use Rattle.sparse_columns.specs.Numbers.{alone}
use Rattle.sparse_columns.proofs.sums.add_sum.Goals as goal

pub returns-clause-added : goal.returns-clause-added
returns-clause-added g c e i =
    let whole : to_z w64 (of_z w64 c.sum_of_multiples.result) ≡ c.sum_of_multiples.result = search rules in
    let is = whole ∙ (c.sum_of_multiples.ensures
    ∙ (ap (λ (z : ℤ). c.args.a.number *ℤ z +ℤ c.args.b.number *ℤ to_z w64 (of_z w64 c.args.b_factor)) (to_z-of_z w64 c.args.a_factor c.ranges.a_factor)
    ∙ ap (λ (z : ℤ). c.args.a.number *ℤ c.args.a_factor +ℤ c.args.b.number *ℤ z) (to_z-of_z w64 c.args.b_factor c.ranges.b_factor))) in
    c.add.ensures.added e i ∙ ap (λ (z : ℤ). g.S.Sums.held c.args.sums.now i +ℤ alone c.args.a.row z i) is
