use Rattle.std.proofs.Common.{◌++◌, ◌∷◌, List, drop, sym, subst}
use Rattle.poly_terms.specs.declared.keyed.Keyed.{Keyed}
use Rattle.poly_terms.specs.Keys.{IsMergedFrom}
use Rattle.poly_terms.proofs.KeyLaws.{put-behind, others-at}
use Rattle.poly_terms.proofs.key_product.put.Goals as goal

pub returns-in_ok-put_sum : goal.returns-in_ok-put_sum
returns-in_ok-put_sum c =
    others-at c.put_sum.new.merged.items c.args.merged.now.items c.args.so_far.now c.args.i c.args.product _ c.if-i-so_far.true c.in_ok-put_sum.ensures

pub returns-in_ok-push : goal.returns-in_ok-push
returns-in_ok-push c =
    subst (λ (ms : List Keyed). IsMergedFrom (ms ++ drop c.args.i c.args.so_far.now) (c.args.product ∷ (c.args.merged.now.items ++ drop c.args.i c.args.so_far.now)))
    (sym c.in_ok-push.ensures.items) (put-behind c.args.merged.now.items (drop c.args.i c.args.so_far.now) c.args.product)
