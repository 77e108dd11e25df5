use Rattle.std.proofs.Common.{◌++◌, ◌∷◌, List, drop, subst}
use Rattle.std.specs.Prelude.{IfOk}
use Rattle.poly_terms.specs.declared.keyed.Keyed.{Keyed}
use Rattle.poly_terms.specs.Keys.{IsMergedFrom}
use Rattle.poly_terms.proofs.KeyLaws.{others-at}
use Rattle.poly_terms.proofs.key_product.put_at_place.Goals as goal

pub returns-in_ok-put_sum : goal.returns-in_ok-put_sum
returns-in_ok-put_sum c =
    others-at c.put_sum.new.merged.items c.args.merged.now.items c.args.so_far.now c.args.i c.args.product _ c.if-i-so_far.true c.in_ok-put_sum.ensures

pub returns-in_ok-from : goal.returns-in_ok-from
returns-in_ok-from c =
    subst (λ (ms : List Keyed). IfOk c.put.result (λ j. IsMergedFrom (c.put.new.merged.items ++ drop j c.args.so_far.now) (c.args.product ∷ ms)))
    c.in_ok-from.ensures c.put.ensures
