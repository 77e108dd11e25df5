use Rattle.std.proofs.Common.{inr}
use Rattle.sparse_rows.proofs.Sums.{sum-shows}
use Rattle.sparse_rows.proofs.multiple.plus_multiple.Goals as goal

pub returns-in-Ok-add : goal.returns-in-Ok-add
returns-in-Ok-add c =
    let here = c.args.here in
    let by = c.args.by in
    let there = c.args.there in
    let product = c.in-Ok.product in
    let sum = c.in-Ok-add.sum in (
      sum-shows here.num here.den by.num by.den there.num there.den product.num product.den sum.num sum.den product.positive
          c.in-Ok.ensures.1 c.in-Ok-add.ensures.1,
      record { within = c.in-Ok.ensures.0; product = product; is = c.in-Ok.ensures.1; sum_within = c.in-Ok-add.ensures.0 },
    )

pub returns-in-Err-add : goal.returns-in-Err-add
returns-in-Err-add c = inr (c.in-Ok.product, c.in-Ok.ensures.1, c.in-Err-add.ensures)
