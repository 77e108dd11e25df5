use Rattle.std.proofs.Common.{ap, ◌∙◌, List}
use Rattle.std.specs.Prelude.{ℤ, ◌+ℤ◌}
use Rattle.std.specs.Int.{w64}
use Rattle.std.proofs.lemmas.Int.{to_z-of_z}
use Rattle.sparse_columns.specs.declared.wide.Wide.{Wide}
use Rattle.sparse_columns.specs.Numbers.{alone}
use Rattle.sparse_columns.specs.Wide.{wide_number}
use Rattle.sparse_columns.proofs.Merging.{wide_number-append}
use Rattle.sparse_columns.proofs.wide.VecWideSums.add.Goals as goal

pub returns-clause-added : goal.returns-clause-added
returns-clause-added c _ i =
    ap (λ (ws : List Wide). wide_number ws i) c.push_reserved.ensures.items
    ∙ (wide_number-append c.args.self.now.items _ i
    ∙ ap (λ (z : ℤ). wide_number c.args.self.now.items i +ℤ alone c.args.row z i) (to_z-of_z w64 c.args.number c.ranges.number))
